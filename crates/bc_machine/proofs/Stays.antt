-- What is told of the message that comes next hangs neither on planned faults nor on the hosts of terminals.
use Rattle.std.proofs.Common.{◌≡◌, ℕ, zero, suc, ◌+◌, Bool, true, false, cond, eqb, ltb, max, List, [], ◌∷◌, ◌++◌, Option, Some, None, length, drop, refl, sym, ap, ap₂, ◌∙◌}
use Rattle.std.specs.Prelude.{slice_get}
use Rattle.std.specs.Option.{option_map, option_or}
use Rattle.std.proofs.lemmas.List.{append-nil}
use Rattle.std.proofs.lemmas.List.Elements.{filter-append, filter_map-append}
use Rattle.mil_word.specs.declared.Line.{Line}
use Rattle.mil_host.specs.declared.actions.Action.{Action}
use Rattle.mil_message.specs.declared.messages.Message.{Message}
use Rattle.mil_message.specs.declared.forms.Form.{Form}
use Rattle.mil_message.specs.Forms.{data_words, with_data_words}
use Rattle.mil_line.specs.Plans.{Planned}
use Rattle.mil_bus.specs.Exchange.{talk_start}
use Rattle.frame_code.specs.declared.Op.{Op}
use Rattle.frame_code.specs.declared.Op.TheVariants.{Halt, Send, Alt, SetGap, Loop, Again, Leave, Jump, Test, JumpFalse, Call, Return, Begin, Pace}
use Rattle.controller_host.specs.declared.destinations.Destination.{Destination}
use Rattle.controller_host.specs.declared.sources.Source.{Source}
use Rattle.controller_host.specs.Destinations.{destination_of}
use Rattle.controller_host.specs.Sources.{sourced, sourced_to, sourced_words, word_at}
use Rattle.controller_host.specs.Values.{InsertionValue}
use Rattle.bc_machine.specs.declared.placed.Placed.{Placed}
use Rattle.bc_machine.specs.declared.placed.HostAction.TheVariants.{Terminal}
use Rattle.bc_machine.specs.MadeMessages.{MadeMessage}
use Rattle.bc_machine.specs.Hosting.{placed_at, placed_up_to, insertion_of, first_of, inserted_in, next_insertion, last_set, source_since, source_at, sent_form}
use Rattle.bc_machine.specs.Agendas.{inserts_among}
use Rattle.bc_machine.specs.Moves.{line_of}
use Rattle.bc_machine.specs.Planning.{with_plan}
use Rattle.bc_machine.specs.Posting.{with_placed}
use Rattle.bc_machine.specs.Running.{MachineState, most_inserted, waiting, stops_at}
use Rattle.bc_machine.specs.NextMessage.{talk_of_own, talk_of_operation, talk_behind, coming_talk, told_next, in_advance}
use Rattle.bc_machine.proofs.Ahead.{first_free, told_inserted, told_own}
use Rattle.bc_machine.proofs.Carried.{last_both}

-- ---- under another plan, with actions that insert the same messages and set the same words

module _ (m : MachineState) (plan : List Planned) (qs : List Placed)
    (next : next_insertion qs (most_inserted m.code) m.made ≡ next_insertion m.placed (most_inserted m.code) m.made)
    (words : (form : Form) → sent_form qs m.made form ≡ sent_form m.placed m.made form) where
  abbrev z : MachineState
  z = record m { plan = plan; placed = qs }

  own_alike : (alternates : Bool) (found : Option (Line × Message)) → option_map in_advance (talk_of_own z alternates found) ≡ option_map in_advance (talk_of_own m alternates found)
  own_alike alternates None = refl
  own_alike alternates (Some x) =
      let line = line_of alternates m.at.line x.0 in
      let start = talk_start m.point.state m.point.gap in
      let form = sent_form qs m.made x.1 in
      ap Some (sym (told_own z line x.1 start form refl refl) ∙ told_own m line x.1 start form refl (words x.1))

  operation_alike : (o : Option Op) → option_map in_advance (talk_of_operation z o) ≡ option_map in_advance (talk_of_operation m o)
  operation_alike None = refl
  operation_alike (Some Halt) = refl
  operation_alike (Some (Send i)) = own_alike false (slice_get m.code.messages i)
  operation_alike (Some (Alt i)) = own_alike true (slice_get m.code.messages i)
  operation_alike (Some (SetGap t)) = refl
  operation_alike (Some (Loop n)) = refl
  operation_alike (Some (Again i)) = refl
  operation_alike (Some (Leave i)) = refl
  operation_alike (Some (Jump i)) = refl
  operation_alike (Some (Test k)) = refl
  operation_alike (Some (JumpFalse i)) = refl
  operation_alike (Some (Call r)) = refl
  operation_alike (Some Return) = refl
  operation_alike (Some Begin) = refl
  operation_alike (Some (Pace h)) = refl

  behind_alike : (o : Option InsertionValue) → option_map in_advance (talk_behind z o) ≡ option_map in_advance (talk_behind m o)
  behind_alike None = operation_alike (slice_get m.code.operations m.at.place)
  behind_alike (Some x) =
      let start = max (first_free m) x.tick in
      ap Some (sym (told_inserted z x start x.message refl refl) ∙ told_inserted m x start x.message refl refl)

  told_alike : told_next z ≡ told_next m
  unfolding coming_talk
  told_alike =
      ap (λ o. option_map in_advance (talk_behind z (cond (stops_at (slice_get m.code.operations m.at.place)) o None))) next
      ∙ behind_alike (waiting m)

pub faults_untold : (m : MachineState) (plan : List Planned) → told_next (with_plan m plan) ≡ told_next m
faults_untold m plan = told_alike m plan m.placed refl (λ form. refl)

-- ---- one action more of a terminal's host

words_alike : (s t : ℕ → Option Source) (place : ℕ) (words : List ℕ) → ((i : ℕ) → s i ≡ t i) → sourced_words s place words ≡ sourced_words t place words
words_alike s t place [] same = refl
words_alike s t place (own ∷ rest) same = ap₂ (λ (w : ℕ) (ws : List ℕ). w ∷ ws) (ap (λ o. word_at o own) (same place)) (words_alike s t (place + 1) rest same)

sourced_alike : (s t : Destination → ℕ → Option Source) (form : Form) → ((d : Destination) (place : ℕ) → s d place ≡ t d place) → sourced s form ≡ sourced t form
unfolding sourced
sourced_alike s t form same = by_destination (destination_of form)
  where
    by_destination : (o : Option Destination) → sourced_to s o form ≡ sourced_to t o form
    by_destination None = refl
    by_destination (Some d) = ap (λ ws. with_data_words ws form) (words_alike (s d) (t d) 1 (data_words form) (same d))

module _ (ps : List Placed) (number address : ℕ) (action : Action) where
  abbrev one : Placed
  one = record { number = number; action = Terminal address action }

  abbrev qs : List Placed
  qs = ps ++ one ∷ []

  at_added : (n : ℕ) → placed_at n qs ≡ placed_at n ps ++ cond (eqb number n) (one ∷ []) []
  at_added n = filter-append (λ (p : Placed). eqb p.number n) ps (one ∷ [])

  none_inserted : (b : Bool) → inserts_among (cond b (one ∷ []) []) ≡ []
  none_inserted true = refl
  none_inserted false = refl

  at_inserts : (n : ℕ) → inserts_among (placed_at n qs) ≡ inserts_among (placed_at n ps)
  at_inserts n =
      ap inserts_among (at_added n)
      ∙ filter_map-append (λ (p : Placed). insertion_of p.action) (placed_at n ps) (cond (eqb number n) (one ∷ []) [])
      ∙ ap (λ xs. inserts_among (placed_at n ps) ++ xs) (none_inserted (eqb number n))
      ∙ append-nil (inserts_among (placed_at n ps))

  up_to_inserts : (n : ℕ) → inserts_among (placed_up_to n qs) ≡ inserts_among (placed_up_to n ps)
  unfolding placed_up_to
  up_to_inserts zero = refl
  up_to_inserts (suc n) =
      filter_map-append (λ (p : Placed). insertion_of p.action) (placed_up_to n qs) (placed_at (suc n) qs)
      ∙ ap₂ (λ (xs ys : List InsertionValue). xs ++ ys) (up_to_inserts n) (at_inserts (suc n))
      ∙ sym (filter_map-append (λ (p : Placed). insertion_of p.action) (placed_up_to n ps) (placed_at (suc n) ps))

  next_untouched : (most : ℕ) (made : List MadeMessage) → next_insertion qs most made ≡ next_insertion ps most made
  next_untouched most made = ap (λ xs. cond (ltb (inserted_in made) most) (first_of (drop (inserted_in made) xs)) None) (up_to_inserts (length made + 1))

  none_set : (d : Destination) (place : ℕ) (b : Bool) → last_set d place (cond b (one ∷ []) []) ≡ None
  none_set d place true = refl
  none_set d place false = refl

  at_sets : (d : Destination) (place n : ℕ) → last_set d place (placed_at n qs) ≡ last_set d place (placed_at n ps)
  at_sets d place n =
      ap (last_set d place) (at_added n)
      ∙ last_both d place (placed_at n ps) (cond (eqb number n) (one ∷ []) [])
      ∙ ap (λ o. option_or o (last_set d place (placed_at n ps))) (none_set d place (eqb number n))

  up_to_sets : (d : Destination) (place n : ℕ) → last_set d place (placed_up_to n qs) ≡ last_set d place (placed_up_to n ps)
  unfolding placed_up_to
  up_to_sets d place zero = refl
  up_to_sets d place (suc n) =
      last_both d place (placed_up_to n qs) (placed_at (suc n) qs)
      ∙ ap₂ option_or (at_sets d place (suc n)) (up_to_sets d place n)
      ∙ sym (last_both d place (placed_up_to n ps) (placed_at (suc n) ps))

  form_untouched : (made : List MadeMessage) (form : Form) → sent_form qs made form ≡ sent_form ps made form
  form_untouched made form =
      sourced_alike (source_at (length made + 1) qs made) (source_at (length made + 1) ps made) form
      (λ d place. ap (option_map (source_since d place made)) (up_to_sets d place (length made + 1)))

pub actions_untold : (m : MachineState) (number address : ℕ) (action : Action) → told_next (with_placed m (m.placed ++ record { number = number; action = Terminal address action } ∷ [])) ≡ told_next m
actions_untold m number address action =
    told_alike m m.plan (m.placed ++ record { number = number; action = Terminal address action } ∷ [])
    (next_untouched m.placed number address action (most_inserted m.code) m.made) (form_untouched m.placed number address action m.made)
