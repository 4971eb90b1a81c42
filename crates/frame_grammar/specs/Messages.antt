-- The messages of the grammar of scripts (own choice; the forms are those of MIL-STD-1553B 4.3.3.6).
use Rattle.std.specs.Prelude.{◌≡◌, ℕ, List, [], ◌∷◌, Option, Ok, codes}
use Rattle.mil_word.specs.declared.Line.{Line}
use Rattle.mil_word.specs.declared.Line.TheVariants.{A, B}
use Rattle.mil_message.specs.declared.forms.Form.{Form}
use Rattle.mil_message.specs.declared.drafts.ModeSubaddress.TheVariants.{Zero, ThirtyOne}
use Rattle.mil_message.specs.Request.{Request, to_terminal, from_terminal, between, to_all, between_all}
use Rattle.mil_message.specs.Request.{mode_request, mode_request_to_all}
use Rattle.mil_message.specs.Rules.{checked}
use Rattle.frame_text.specs.Tokens.{tokens}
use Rattle.frame_text.specs.Reading.{Tokens}
use Rattle.frame_grammar.specs.Words.{SpellsNumber, SpellWords, MaySpellWords}

-- line
pub data SpellsLine : List ℕ → Line → Type 0 where
  line_a : SpellsLine (codes "A") A
  line_b : SpellsLine (codes "B") B

-- message: what it asks for, whether a message may have those values or not
pub data SpellMessage : Tokens → Request → Type 0 where
  rx : {address sub : List ℕ} {words : Tokens} {a s : ℕ} {ns : List ℕ}
      → SpellsNumber address a → SpellsNumber sub s → SpellWords words ns
      → SpellMessage (codes "rx" ∷ address ∷ sub ∷ words) (to_terminal a s ns)
  tx : {address sub count : List ℕ} {a s n : ℕ}
      → SpellsNumber address a → SpellsNumber sub s → SpellsNumber count n
      → SpellMessage (codes "tx" ∷ address ∷ sub ∷ count ∷ []) (from_terminal a s n)
  rt : {sender from receiver to count : List ℕ} {a s b t n : ℕ}
      → SpellsNumber sender a → SpellsNumber from s → SpellsNumber receiver b → SpellsNumber to t → SpellsNumber count n
      → SpellMessage (codes "rt" ∷ sender ∷ from ∷ receiver ∷ to ∷ count ∷ []) (between a s b t n)
  mode : {address code : List ℕ} {words : Tokens} {a c : ℕ} {ns : Option (List ℕ)}
      → SpellsNumber address a → SpellsNumber code c → MaySpellWords words ns
      → SpellMessage (codes "mode" ∷ address ∷ code ∷ words) (mode_request a ThirtyOne c ns)
  mode0 : {address code : List ℕ} {words : Tokens} {a c : ℕ} {ns : Option (List ℕ)}
      → SpellsNumber address a → SpellsNumber code c → MaySpellWords words ns
      → SpellMessage (codes "mode0" ∷ address ∷ code ∷ words) (mode_request a Zero c ns)
  brx : {sub : List ℕ} {words : Tokens} {s : ℕ} {ns : List ℕ}
      → SpellsNumber sub s → SpellWords words ns
      → SpellMessage (codes "brx" ∷ sub ∷ words) (to_all s ns)
  brt : {sender from to count : List ℕ} {a s t n : ℕ}
      → SpellsNumber sender a → SpellsNumber from s → SpellsNumber to t → SpellsNumber count n
      → SpellMessage (codes "brt" ∷ sender ∷ from ∷ to ∷ count ∷ []) (between_all a s t n)
  bmode : {code : List ℕ} {words : Tokens} {c : ℕ} {ns : Option (List ℕ)}
      → SpellsNumber code c → MaySpellWords words ns
      → SpellMessage (codes "bmode" ∷ code ∷ words) (mode_request_to_all ThirtyOne c ns)
  bmode0 : {code : List ℕ} {words : Tokens} {c : ℕ} {ns : Option (List ℕ)}
      → SpellsNumber code c → MaySpellWords words ns
      → SpellMessage (codes "bmode0" ∷ code ∷ words) (mode_request_to_all Zero c ns)

-- line message: one that may be sent
pub data SpellSend : Tokens → Line → Form → Type 0 where
  on_line : {line : List ℕ} {message : Tokens} {l : Line} {r : Request} {m : Form}
      → SpellsLine line l → SpellMessage message r → checked r ≡ Ok m
      → SpellSend (line ∷ message) l m

-- the line and the message of a whole text
abbrev pub HasSend : List ℕ → Line × Form → Type 0
HasSend text x = SpellSend (tokens text) x.0 x.1
