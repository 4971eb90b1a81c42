-- The form of a message in the words of a script, with the count of data words of its command, and of a mode command
-- what it asks (MIL-STD-1553B 4.3.3.6; the words are an own choice).
use Rattle.std.specs.Prelude.{ℕ, ◌==◌, Bool, if◌then◌else◌, List, [], ◌∷◌, ◌++◌, codes, decimal}
use Rattle.ch11_layout.specs.declared.forms.RecordedForm.{RecordedForm}
use Rattle.ch11_layout.specs.declared.forms.RecordedForm.TheVariants.{Receive, Transmit, Between, Mode}
use Rattle.ch11_layout.specs.declared.forms.RecordedForm.TheVariants.{ReceiveAll, BetweenAll, ModeAll, Unknown}
use Rattle.bench_decode.specs.Columns.{Part, text}
use Rattle.bench_decode.specs.ModeText.{mode_text}

-- numbers, each behind a space
unfoldable pub numbers : List ℕ → List Part
numbers [] = []
numbers (n ∷ ns) = text (32 ∷ decimal n) ∷ numbers ns

-- of the two subaddresses of mode commands the word of a script tells 0
unfoldable pub zero_mark : ℕ → List Part
zero_mark subaddress = if subaddress == 0 then text (codes "0") ∷ [] else []

-- what stands behind the word of a mode command
unfoldable pub mode_parts : ℕ → List ℕ → Bool → ℕ → List Part
mode_parts subaddress ns transmit code =
    zero_mark subaddress ++ (numbers ns ++ (text (codes " ") ∷ text (mode_text transmit code) ∷ []))

unfoldable pub form_parts : RecordedForm → List Part
form_parts (Receive address subaddress count) = text (codes "rx") ∷ numbers (address ∷ subaddress ∷ count ∷ [])
form_parts (Transmit address subaddress count) = text (codes "tx") ∷ numbers (address ∷ subaddress ∷ count ∷ [])
form_parts (Between sender from receiver to count) =
    text (codes "rt") ∷ numbers (sender ∷ from ∷ receiver ∷ to ∷ count ∷ [])
form_parts (Mode address subaddress transmit code) =
    text (codes "mode") ∷ mode_parts subaddress (address ∷ code ∷ []) transmit code
form_parts (ReceiveAll subaddress count) = text (codes "brx") ∷ numbers (subaddress ∷ count ∷ [])
form_parts (BetweenAll sender from to count) = text (codes "brt") ∷ numbers (sender ∷ from ∷ to ∷ count ∷ [])
form_parts (ModeAll subaddress transmit code) =
    text (codes "bmode") ∷ mode_parts subaddress (code ∷ []) transmit code
form_parts Unknown = text (codes "no known form") ∷ []
