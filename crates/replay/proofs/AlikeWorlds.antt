-- Two lists of placed actions that are alike up to a number, of which one has no action above it: messages up to that
-- number meet the same.
use Rattle.std.proofs.Common.{◌≡◌, ℕ, zero, suc, ◌+◌, ◌-◌, ◌<◌, ◌≤◌, Bool, true, false, cond, ltb, List, [], ◌∷◌, ◌++◌, length, drop, refl, sym, ap, ap₂, ◌∙◌, ⊎_elim, arith}
use Rattle.std.specs.Prelude.{Option, Some, None}
use Rattle.std.specs.Option.{option_map}
use Rattle.std.proofs.lemmas.Bool.{cases_lt}
use Rattle.std.proofs.lemmas.List.{append-nil}
use Rattle.mil_word.specs.declared.Line.{Line}
use Rattle.mil_message.specs.declared.messages.Message.{Message}
use Rattle.mil_message.specs.declared.forms.Form.{Form}
use Rattle.mil_message.specs.World.{Point, sent}
use Rattle.mil_line.specs.Plans.{Planned, faults_of}
use Rattle.mil_bus.specs.Exchange.{BusState, exchanged, talk_of, held_until}
use Rattle.mil_bus.specs.declared.outcomes.Outcome.{Outcome}
use Rattle.controller_host.specs.Values.{InsertionValue}
use Rattle.controller_host.specs.Sources.{sourced}
use Rattle.bc_machine.specs.declared.placed.Placed.{Placed}
use Rattle.bc_machine.specs.MadeMessages.{MadeMessage, own, inserted}
use Rattle.bc_machine.specs.Hosting.{placed_up_to, next_insertion, first_of, inserted_in, last_set, source_since, sent_form}
use Rattle.bc_machine.specs.Agendas.{inserts_among}
use Rattle.bc_machine.specs.Controller.{Setting, BusRun, setting_of, placed_at, world_of, ready, with_insertion, with_own, own_talk, outcome_in, inserted_next, inserting, inserting_many, drained}
use Rattle.bc_machine.proofs.Acts.{ready_same}
use Rattle.bc_machine.proofs.Queued.{among_both, more_made}
use Rattle.bc_machine.proofs.Inserting.{idle_many, long_many}

up_to_more : (n : ℕ) (ps : List Placed) → placed_up_to (suc n) ps ≡ placed_up_to n ps ++ placed_at (suc n) ps
unfolding placed_up_to
up_to_more n ps = refl

none_in_front : (k : ℕ) (xs ys : List InsertionValue) → first_of (drop k (xs ++ ys)) ≡ None → first_of (drop k xs) ≡ None
none_in_front zero [] ys e = refl
none_in_front (suc k) [] ys e = refl
none_in_front zero (x ∷ xs) ys e = absurd cc
none_in_front (suc k) (x ∷ xs) ys e = none_in_front k xs ys e

module _ (plan : List Planned) (ps qs : List Placed) (most top : ℕ) (same : (n : ℕ) → 1 ≤ n → n ≤ top → placed_at n qs ≡ placed_at n ps) (none : (n : ℕ) → top < n → placed_at n qs ≡ []) where
  abbrev s : Setting
  s = setting_of plan ps most

  abbrev t : Setting
  t = setting_of plan qs most

  up_to_alike : (n : ℕ) → n ≤ top → placed_up_to n qs ≡ placed_up_to n ps
  unfolding placed_up_to
  up_to_alike zero le = refl
  up_to_alike (suc n) le = ap₂ (λ (xs ys : List Placed). xs ++ ys) (up_to_alike n (omega (arith, le))) (same (suc n) (omega arith) le)

  ready_alike : (n : ℕ) (b : BusState) → 1 ≤ n → n ≤ top → ready qs n b ≡ ready ps n b
  ready_alike n b low le = ready_same n qs ps b (same n low le)

  form_alike : (made : List MadeMessage) (form : Form) → length made + 1 ≤ top → sent_form qs made form ≡ sent_form ps made form
  form_alike made form le =
      ap (λ xs. sourced (λ d place. option_map (source_since d place made) (last_set d place xs)) form) (up_to_alike (length made + 1) le)

  -- ---- messages that wait

  next_alike : (made : List MadeMessage) → length made + 1 ≤ top → next_insertion qs most made ≡ next_insertion ps most made
  next_alike made le =
      ap (λ xs. cond (ltb (inserted_in made) most) (first_of (drop (inserted_in made) (inserts_among xs))) None) (up_to_alike (length made + 1) le)

  -- behind the last number too: where none waits among the one actions, none waits among the others
  none_alike : (made : List MadeMessage) → length made ≤ top → next_insertion ps most made ≡ None → next_insertion qs most made ≡ None
  none_alike made le e = by_room (ltb (inserted_in made) most) e
    where
      behind : (k : ℕ) → length made ≡ top → first_of (drop k (inserts_among (placed_up_to (length made + 1) ps))) ≡ None → first_of (drop k (inserts_among (placed_up_to (length made + 1) qs))) ≡ None
      behind k at h =
          let next : length made + 1 ≡ suc top = omega (arith, at) in
          let of_qs : placed_up_to (length made + 1) qs ≡ placed_up_to top ps =
          ap (λ n. placed_up_to n qs) next ∙ up_to_more top qs
          ∙ ap₂ (λ (xs ys : List Placed). xs ++ ys) (up_to_alike top (omega arith)) (none (suc top) (omega arith)) ∙ append-nil (placed_up_to top ps) in
          let of_ps : inserts_among (placed_up_to (length made + 1) ps) ≡ inserts_among (placed_up_to top ps) ++ inserts_among (placed_at (suc top) ps) =
          ap inserts_among (ap (λ n. placed_up_to n ps) next ∙ up_to_more top ps) ∙ among_both (placed_up_to top ps) (placed_at (suc top) ps) in
          ap (λ xs. first_of (drop k (inserts_among xs))) of_qs
          ∙ none_in_front k (inserts_among (placed_up_to top ps)) (inserts_among (placed_at (suc top) ps)) (ap (λ xs. first_of (drop k xs)) (sym of_ps) ∙ h)

      by_room : (b : Bool) → cond b (first_of (drop (inserted_in made) (inserts_among (placed_up_to (length made + 1) ps)))) None ≡ None
          → cond b (first_of (drop (inserted_in made) (inserts_among (placed_up_to (length made + 1) qs)))) None ≡ None
      by_room false h = refl
      by_room true h =
          ⊎_elim
          (λ less. ap (λ xs. first_of (drop (inserted_in made) (inserts_among xs))) (up_to_alike (length made + 1) (omega (arith, less))) ∙ h)
          (λ over. behind (inserted_in made) (omega (arith, le, over)) h)
          (cases_lt (length made) top)

  insertion_alike : (gap : ℕ) (x : InsertionValue) (r : BusRun) → length r.made + 1 ≤ top → with_insertion t gap x r ≡ with_insertion s gap x r
  insertion_alike gap x r le =
      let n = length r.made + 1 in
      ap (λ (b : BusState). record { bus = held_until r.bus.least_start (exchanged (held_until x.tick b) x.line x.message gap (faults_of n plan)); made = r.made ++ inserted ∷ [] })
      (ready_alike n r.bus (omega arith) le)

  many_alike : (n gap : ℕ) (r : BusRun) → length (inserting_many s n gap r).made ≤ top → inserting_many t n gap r ≡ inserting_many s n gap r
  many_alike zero gap r le = refl
  many_alike (suc n) gap r le = by_next (next_insertion ps most r.made) refl (many_alike n gap (inserting s gap r) le)
    where
      by_next : (o : Option InsertionValue) → next_insertion ps most r.made ≡ o → inserting_many t n gap (inserting s gap r) ≡ inserting_many s n gap (inserting s gap r)
          → inserting_many t (suc n) gap r ≡ inserting_many s (suc n) gap r
      by_next None h more =
          let long = long_many plan ps most (suc n) gap r in
          idle_many plan qs most (suc n) gap r (none_alike r.made (omega (arith, long, le)) h) ∙ sym (idle_many plan ps most (suc n) gap r h)
      by_next (Some x) h more =
          let here : inserting s gap r ≡ with_insertion s gap x r = ap (λ o. inserted_next s gap o r) h in
          let made : length (inserting s gap r).made ≡ length r.made + 1 = ap (λ (v : BusRun). length v.made) here ∙ more_made r.made inserted in
          let long = long_many plan ps most n gap (inserting s gap r) in
          let low : length r.made + 1 ≤ top = omega (arith, made, long, le) in
          let there : inserting t gap r ≡ inserting s gap r = ap (λ o. inserted_next t gap o r) (next_alike r.made low ∙ h) ∙ insertion_alike gap x r low ∙ sym here in
          ap (inserting_many t n gap) there ∙ more

  pub drained_alike : (gap : ℕ) (r : BusRun) → length (drained s gap r).made ≤ top → drained t gap r ≡ drained s gap r
  unfolding drained
  drained_alike gap r le = many_alike (most - inserted_in r.made) gap r le

  -- ---- a message of the script

  pub sent_alike : (line : Line) (m : Message) (p : Point BusRun Outcome) → length (sent (world_of plan ps most) line m p).state.made ≤ top
      → sent (world_of plan qs most) line m p ≡ sent (world_of plan ps most) line m p
  sent_alike line m p le =
      let d = drained s p.gap p.state in
      let n = length d.made + 1 in
      let long = more_made d.made (own m) in
      let low : n ≤ top = omega (arith, le, long) in
      ap (λ (u : BusRun). record { state = with_own t line m p.gap u; number = p.number + 1; gap = p.gap; last = Some (outcome_in (own_talk t line m p.gap u)) }) (drained_alike p.gap p.state (omega (arith, low)))
      ∙ ap₂ (λ (b : BusState) (f : Form). record {
        state = record { bus = exchanged b line f p.gap (faults_of n plan); made = d.made ++ own m ∷ [] };
        number = p.number + 1;
        gap = p.gap;
        last = Some (outcome_in (talk_of b line f p.gap (faults_of n plan)));
      }) (ready_alike n d.bus (omega arith) low) (form_alike d.made m low)
