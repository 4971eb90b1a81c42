-- What the printing of what the host asks for gives.
use Rattle.std.proofs.Common.{◌≡◌, [], ◌∷◌, ◌++◌, List, map, refl, ap, ◌∙◌}
use Rattle.std.specs.Prelude.{codes, decimal}
use Rattle.std.specs.List.{flat_map}
use Rattle.std.proofs.lemmas.Bool.{eq-eqb, ne_eqb}
use Rattle.std.proofs.lemmas.Grind.{flat_map-append}
use Rattle.std.proofs.lemmas.List.{append-nil}
use Rattle.std.proofs.lemmas.List.Folds.{flat_map-map}
use Rattle.text_lines.specs.Words.{Text}
use Rattle.mil_host.specs.Printing.{data_text, spaced_word, spaced_data}
use Rattle.frame_text.specs.PrintedMessages.{line_and_message_text}
use Rattle.controller_host.specs.declared.destinations.Destination.{Destination}
use Rattle.controller_host.specs.declared.destinations.Destination.TheVariants.{Terminal, All, Mode, ModeToAll}
use Rattle.controller_host.specs.declared.controls.Control.TheVariants.{Data, Ramp}
use Rattle.controller_host.specs.Values.{NewWordsValue, RampValue, InsertionValue}
use Rattle.controller_text.specs.Printing.{control_text, destination_words, destination_text, insertion_text}

destination_behind : (d : Destination) → flat_map spaced_word (destination_words d) ≡ 32 ∷ destination_text d
destination_behind (Terminal a s) = refl
destination_behind (All s) = refl
destination_behind (Mode a c) = refl
destination_behind (ModeToAll c) = refl

-- a name, a destination and more words
behind_name : (name : Text) (d : Destination) (rest : List Text)
    → name ++ flat_map spaced_word (destination_words d ++ rest) ≡ name ++ (32 ∷ (destination_text d ++ flat_map spaced_word rest))
behind_name name d rest =
    ap (λ t. name ++ t) (flat_map-append spaced_word (destination_words d) rest ∙ ap (λ t. t ++ flat_map spaced_word rest) (destination_behind d))

pub data_written : (new : NewWordsValue) → control_text (Data new) ≡ codes "data " ++ (destination_text new.destination ++ flat_map spaced_data new.words)
unfolding control_text
data_written new =
    behind_name (codes "data") new.destination (map data_text new.words)
    ∙ ap (λ t. codes "data " ++ (destination_text new.destination ++ t)) (flat_map-map spaced_word data_text new.words)

pub ramp_written : (r : RampValue) → control_text (Ramp r)
    ≡ codes "ramp " ++ (destination_text r.destination ++ (codes " " ++ (decimal r.place ++ (codes " " ++ (data_text r.start ++ (codes " " ++ data_text r.add))))))
unfolding control_text
ramp_written r =
    behind_name (codes "ramp") r.destination (decimal r.place ∷ data_text r.start ∷ data_text r.add ∷ [])
    ∙ ap (λ t. codes "ramp " ++ (destination_text r.destination ++ (codes " " ++ (decimal r.place ++ (codes " " ++ (data_text r.start ++ (codes " " ++ t))))))) (append-nil (data_text r.add))

pub written_at_once : (x : InsertionValue) → x.tick ≡ 0 → insertion_text x ≡ codes "insert " ++ line_and_message_text x.line x.message
written_at_once x zeroth = rw (eq-eqb x.tick 0 zeroth) (ap (λ t. codes "insert " ++ t) (append-nil (line_and_message_text x.line x.message)))

pub written_held : (x : InsertionValue) → (x.tick ≡ 0 → ⊥)
    → insertion_text x ≡ codes "insert at " ++ (decimal x.tick ++ (codes " " ++ line_and_message_text x.line x.message))
written_held x later = rw (ne_eqb x.tick 0 later) (ap (λ t. codes "insert at " ++ (decimal x.tick ++ (codes " " ++ t))) (append-nil (line_and_message_text x.line x.message)))
