-- A printed message stands on one line, with no control character.
use Rattle.std.proofs.Common.{ℕ, ◌≤◌, List, [], ◌∷◌, ◌++◌, map, refl, arith, All}
use Rattle.std.specs.Prelude.{codes, decimal}
use Rattle.std.proofs.lemmas.Fmt.{decimal_is_IsNumeral}
use Rattle.std.proofs.lemmas.List.Elements.{All-append, All-cons}
use Rattle.text_lines.specs.Words.{Text}
use Rattle.mil_message.specs.declared.drafts.ModeSubaddress.{ModeSubaddress}
use Rattle.mil_message.specs.declared.drafts.ModeSubaddress.TheVariants.{Zero, ThirtyOne}
use Rattle.mil_message.specs.declared.forms.Form.{Form}
use Rattle.mil_message.specs.declared.forms.Form.TheVariants.{ToTerminal, FromTerminal, Between, Mode, ModeFrom, ModeTo}
use Rattle.mil_message.specs.declared.forms.Form.TheVariants.{ToAll, BetweenAll, ModeAll, ModeAllTo}
use Rattle.mil_host.proofs.Spacing.{one_line-word}
use Rattle.mil_host.proofs.ReadingBack.{named, digits_visible, data_word}
use Rattle.frame_text.specs.Chains.{IsReadable, AreWords}
use Rattle.frame_text.specs.PrintedMessages.{spaced, data_word_text, bracketed_text, mode_text, mode_all_text, message_words, message_text}
use Rattle.frame_text.proofs.PrintedForms.{Small, HasSmall, has_small}

abbrev pub OneLine : Text → Type 0
OneLine text = All (λ b. 32 ≤ b) text

abbrev AreLines : List Text → Type 0
AreLines [] = Unit {0}
AreLines (w ∷ ws) = OneLine w × AreLines ws

joined_line : (ws : List Text) → AreLines ws → OneLine (spaced ws)
joined_line [] are = one_line-word [] tt
joined_line (w ∷ []) are = are.0
joined_line (w ∷ v ∷ ws) are =
    All-append (λ b. 32 ≤ b) w (32 ∷ spaced (v ∷ ws)) are.0 (All-cons (λ b. 32 ≤ b) 32 (spaced (v ∷ ws)) (omega arith) (joined_line (v ∷ ws) are.1))

number_line : (n : ℕ) → Small n → OneLine (decimal n)
number_line n small = one_line-word (decimal n) (digits_visible (decimal n) (decimal_is_IsNumeral n (omega (arith, small))).0.1)

data_lines : (ws : List ℕ) → AreWords ws → AreLines (map data_word_text ws)
data_lines [] are = tt
data_lines (w ∷ ws) are = (one_line-word (data_word_text w) (data_word w are.0).is.visible, data_lines ws are.1)

brackets_line : (ws : List ℕ) → AreWords ws → OneLine (bracketed_text ws)
brackets_line ws are =
    let words = spaced (map data_word_text ws) in
    All-append (λ b. 32 ≤ b) (codes "[") (words ++ codes "]") (one_line-word (codes "[") (named (codes "[") refl refl).visible)
    (All-append (λ b. 32 ≤ b) words (codes "]") (joined_line (map data_word_text ws) (data_lines ws are)) (one_line-word (codes "]") (named (codes "]") refl refl).visible))

mode_line : (sub : ModeSubaddress) → OneLine (mode_text sub)
mode_line Zero = one_line-word (codes "mode0") (named (codes "mode0") refl refl).visible
mode_line ThirtyOne = one_line-word (codes "mode") (named (codes "mode") refl refl).visible

mode_all_line : (sub : ModeSubaddress) → OneLine (mode_all_text sub)
mode_all_line Zero = one_line-word (codes "bmode0") (named (codes "bmode0") refl refl).visible
mode_all_line ThirtyOne = one_line-word (codes "bmode") (named (codes "bmode") refl refl).visible

lines_of : (m : Form) → IsReadable m → HasSmall m → AreLines (message_words m)
lines_of (ToTerminal a s ws) h r = (one_line-word (codes "rx") (named (codes "rx") refl refl).visible, (number_line a r.0, (number_line s r.1, (brackets_line ws.items h.1, tt))))
lines_of (FromTerminal a s n) h r = (one_line-word (codes "tx") (named (codes "tx") refl refl).visible, (number_line a r.0, (number_line s r.1, (number_line n r.2, tt))))
lines_of (Between a s b t n) h r =
    (one_line-word (codes "rt") (named (codes "rt") refl refl).visible, (number_line a r.0, (number_line s r.1, (number_line b r.2, (number_line t r.3, (number_line n r.4, tt))))))
lines_of (Mode a s c) h r = (mode_line s, (number_line a r.0, (number_line c r.1, tt)))
lines_of (ModeFrom a s c) h r = (mode_line s, (number_line a r.0, (number_line c r.1, tt)))
lines_of (ModeTo a s c w) h r = (mode_line s, (number_line a r.0, (number_line c r.1, (brackets_line (w ∷ []) h.1, tt))))
lines_of (ToAll s ws) h r = (one_line-word (codes "brx") (named (codes "brx") refl refl).visible, (number_line s r.0, (brackets_line ws.items h.1, tt)))
lines_of (BetweenAll a s t n) h r =
    (one_line-word (codes "brt") (named (codes "brt") refl refl).visible, (number_line a r.0, (number_line s r.1, (number_line t r.2, (number_line n r.3, tt)))))
lines_of (ModeAll s c) h r = (mode_all_line s, (number_line c r, tt))
lines_of (ModeAllTo s c w) h r = (mode_all_line s, (number_line c r, (brackets_line (w ∷ []) h.1, tt)))

pub message_line : (m : Form) → IsReadable m → OneLine (message_text m)
message_line m is = joined_line (message_words m) (lines_of m is (has_small m is.0))
