-- Pieces of printed text.
use Rattle.std.proofs.Common.{◌≡◌, ℕ, List, [], ◌∷◌, ◌++◌, map, true, refl, ap, ◌∙◌, append_assoc}
use Rattle.std.specs.Prelude.{codes}
use Rattle.std.specs.List.{flat_map}
use Rattle.arrayvec.specs.ArrayVec.{ArrayVec}
use Rattle.mil_message.specs.declared.forms.Form.{Form}
use Rattle.mil_message.specs.declared.forms.Form.TheVariants.{ToTerminal, FromTerminal, Between, ToAll, BetweenAll}
use Rattle.frame_text.specs.PrintedMessages.{data_word_text, spaced, spaced_data, bracketed_text, is_mode_command}

spaced_behind : (w : ℕ) (ws : List ℕ) → spaced (map data_word_text (w ∷ ws)) ≡ data_word_text w ++ flat_map spaced_data ws
spaced_behind w [] = refl
spaced_behind w (v ∷ ws) = ap (λ xs. data_word_text w ++ (codes " " ++ xs)) (spaced_behind v ws)

-- the first word, and each other one behind a space
pub bracketed : (w : ℕ) (ws : List ℕ) → bracketed_text (w ∷ ws) ≡ codes "[" ++ (data_word_text w ++ (flat_map spaced_data ws ++ codes "]"))
bracketed w ws =
    ap (λ xs. codes "[" ++ (xs ++ codes "]")) (spaced_behind w ws)
    ∙ ap (λ xs. codes "[" ++ xs) (append_assoc (data_word_text w) (flat_map spaced_data ws) (codes "]"))

-- a message that is none of the others is a mode command
pub mode_command_left : (m : Form) → ((a s : ℕ) (ws : ArrayVec ℕ) → m ≡ ToTerminal a s ws → ⊥) → ((a s n : ℕ) → m ≡ FromTerminal a s n → ⊥)
    → ((a s b t n : ℕ) → m ≡ Between a s b t n → ⊥) → ((s : ℕ) (ws : ArrayVec ℕ) → m ≡ ToAll s ws → ⊥) → ((a s t n : ℕ) → m ≡ BetweenAll a s t n → ⊥)
    → is_mode_command m ≡ true
mode_command_left (ToTerminal a s ws) rx tx rt brx brt = absurd (rx a s ws refl)
mode_command_left (FromTerminal a s n) rx tx rt brx brt = absurd (tx a s n refl)
mode_command_left (Between a s b t n) rx tx rt brx brt = absurd (rt a s b t n refl)
mode_command_left (ToAll s ws) rx tx rt brx brt = absurd (brx s ws refl)
mode_command_left (BetweenAll a s t n) rx tx rt brx brt = absurd (brt a s t n refl)
mode_command_left _ rx tx rt brx brt = refl
