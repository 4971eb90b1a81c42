-- The first split, pushes and pops keep the rule, and what is learned at them.
use Rattle.std.proofs.Common.{◌≡◌, ◌≢◌, ◌≤◌, ◌<◌, inr, ⊎_elim, ℕ, true, List, [], ◌∷◌, ◌++◌, length, sum, set, refl, sym, ap, ◌∙◌, subst, arith, true≢false, append_assoc, append-nil, length-append}
use Rattle.std.specs.Prelude.{Option, Some, None, MatchOption}
use Rattle.std.proofs.lemmas.Bool.Decides.{eqb_tells}
use mathlib.Core.Option.{some}
use lib.ListN.{get_elem?}
use Rattle.crossbeam_queue.specs.Fifo.{Pushes, Pops, Forks, Learns}
use Rattle.mil_trunk.specs.declared.rule.View.{View}
use Rattle.mil_trunk.specs.Tags.{has, bound_of}
use Rattle.mil_trunk.specs.Views.{unsplit, first_ticket, first_taker, pushed, popped, with_tag}
use Rattle.mil_trunk.specs.Rule.{IsRight, Flows, Keeps, Agrees, HoldsAtMost, Receives}
use Rattle.mil_trunk.proofs.Sets.{has-zero}
use Rattle.mil_trunk.proofs.Tagging.{with_tag-append, with_tag_other, with_tag_one}
use Rattle.mil_trunk.proofs.Numbered.{all_set, all_snoc, only_one}
use Rattle.mil_trunk.proofs.Bounds.{length-by_tags, length-by_bounds}

no_items : {T : Type 0} (xs : List T) → length xs ≤ 0 → xs ≡ []
no_items [] few = refl
no_items (x ∷ xs) few = absurd (omega (arith, few))

-- a pop leaves the two ends together
pub after_pop : {T : Type 0} (F : Type 0) (r : Option T) (v w : View T) → MatchOption r ((w ≡ v) × F) (λ x. Receives v x w) → v.live ≡ true → v.takes ≡ true → (w.live ≡ true) × (w.takes ≡ true)
after_pop F None v w h live takes = (ap (λ u. u.live) h.0 ∙ live, ap (λ u. u.takes) h.0 ∙ takes)
after_pop F (Some x) v w h live takes = (ap (λ u. u.live) h.0 ∙ live, ap (λ u. u.takes) h.0 ∙ takes)

module _ {T : Type 0} (tag_of : T → ℕ) where
  -- a live view knows that the queue was split
  pub flows : (items : List T) (views : List (View T)) (number : ℕ) (v : View T) → get_elem? views number ≡ some v → v.live ≡ true → Keeps tag_of items views → Flows tag_of items views
  flows items views number v at live h = ⊎_elim (λ (e : (items ≡ []) × (views ≡ unsplit ∷ [])). absurd (true≢false (sym live ∙ sym (ap (λ (u : View T). u.live) (only_one unsplit number v (ap (λ l. get_elem? l number) (sym e.1) ∙ at)).1))))
      (λ (r : Flows tag_of items views). r) h

  -- the split into a ticket and the taker
  pub starts : (number : ℕ) (v : View T) (bounds : List ℕ) → v ≡ unsplit → Forks (Keeps tag_of) number v (first_ticket bounds) (first_taker bounds)
  starts number v bounds new items views h at = ⊎_elim
      (λ (e : (items ≡ []) × (views ≡ unsplit ∷ [])). let P : List T × List (View T) × ℕ → Type 0 = λ y. Keeps tag_of y.0 (set y.1 y.2 (first_ticket bounds) ++ first_taker bounds ∷ []) in
      let first = (only_one unsplit number v (ap (λ l. get_elem? l number) (sym e.1) ∙ at)).0 in subst P (λ i. (sym e.0 i, sym e.1 i, sym first i)) begun)
      (λ (r : Flows tag_of items views). absurd (true≢false (sym (ap (λ (u : View T). u.unsplit) new) ∙ (r.each number v at).split))) h where
        begun : Keeps tag_of [] (first_ticket bounds ∷ first_taker bounds ∷ [])
        begun = inr record {
          bounds = bounds;
          holder = λ _. 0;
          reader = 1;
          sent = λ _. [];
          received = [];
          flow = λ _. refl;
          within = λ _. omega arith;
          each = all_snoc (IsRight tag_of bounds (λ _. 0) 1 (λ _. []) []) (first_ticket bounds ∷ []) (first_taker bounds)
              (all_set (IsRight tag_of bounds (λ _. 0) 1 (λ _. []) []) (first_ticket bounds ∷ []) 0 (first_ticket bounds)
              record { split = refl; bounds_are = λ _. refl; held = λ _ _. (refl, refl); others = λ _ _. refl; taker = λ e. absurd (true≢false (sym e)) }
              (λ j u other e. absurd (other (only_one (first_ticket bounds) j u e).0)))
              record { split = refl; bounds_are = λ _. refl; held = λ t e. absurd (true≢false (sym e ∙ has-zero t)); others = λ _ _. refl; taker = λ _. (refl, refl) };
        }

  -- a push
  pub pushes : (n number : ℕ) (v : View T) (x : T) → v.live ≡ true → has v.tags (tag_of x) ≡ true → length (with_tag tag_of (tag_of x) v.sent) < bound_of v.bounds (tag_of x) → Pushes (Keeps tag_of) n number v x (λ w. w ≡ pushed v x)
  pushes n number v x live holds room items views short h at =
      let r = flows items views number v at live h in
      let mine = r.each number v at in
      let more : ℕ → List T = λ t. r.sent t ++ with_tag tag_of t (x ∷ []) in
      let apart : (t : ℕ) → t ≢ tag_of x → more t ≡ r.sent t = λ t ne. ap (λ l. r.sent t ++ l) (with_tag_other tag_of t x (λ e. ne (sym e))) ∙ append-nil (r.sent t) in (
        pushed v x,
        inr record {
          bounds = r.bounds;
          holder = r.holder;
          reader = r.reader;
          sent = more;
          received = r.received;
          flow = λ t. ap (λ l. l ++ with_tag tag_of t (x ∷ [])) (r.flow t) ∙ append_assoc (with_tag tag_of t r.received) (with_tag tag_of t items) (with_tag tag_of t (x ∷ []))
              ∙ ap (λ l. with_tag tag_of t r.received ++ l) (sym (with_tag-append tag_of t items (x ∷ [])));
          within = λ t. ⊎_elim
              (λ e. let P : ℕ → Type 0 = λ k. length (r.sent k ++ with_tag tag_of k (x ∷ [])) ≤ bound_of r.bounds k in
              let one = with_tag_one tag_of (tag_of x) x in
              let same : with_tag tag_of (tag_of x) v.sent ≡ r.sent (tag_of x) = (mine.held (tag_of x) holds).1 in
              let below : length (r.sent (tag_of x)) < bound_of r.bounds (tag_of x) = subst (λ (y : List T × List ℕ). length y.0 < bound_of y.1 (tag_of x)) (λ i. (same i, mine.bounds_are live i)) room in
              subst P e.1 (omega (arith, length-append (r.sent (tag_of x)) (with_tag tag_of (tag_of x) (x ∷ [])))))
              (λ e. let P : List T → Type 0 = λ l. length l ≤ bound_of r.bounds t in subst P (sym (apart t (λ is. e.1 (sym is)))) (r.within t))
              (eqb_tells (tag_of x) t);
          each = all_set (IsRight tag_of r.bounds r.holder r.reader more r.received) views number (pushed v x)
              record {
                split = mine.split;
                bounds_are = mine.bounds_are;
                held = λ t it. ((mine.held t it).0, with_tag-append tag_of t v.sent (x ∷ []) ∙ ap (λ l. l ++ with_tag tag_of t (x ∷ [])) (mine.held t it).1);
                others = λ t no. with_tag-append tag_of t v.sent (x ∷ []) ∙ ap (λ l. l ++ with_tag tag_of t (x ∷ [])) (mine.others t no) ∙ with_tag_other tag_of t x (λ e. true≢false (sym holds ∙ ap (has v.tags) e ∙ no));
                taker = mine.taker;
              }
              (λ j u other e. let one = r.each j u e in record {
                split = one.split;
                bounds_are = one.bounds_are;
                held = λ t it. ((one.held t it).0, (one.held t it).1 ∙ sym (apart t (λ is. other ((one.held t it).0 ∙ ap r.holder is ∙ sym (mine.held (tag_of x) holds).0))));
                others = one.others;
                taker = one.taker;
              });
        },
        refl,
      )

  -- what was received is a part of what was sent, and so within the bounds
  received_few : (v : View T) (x : T) (items : List T) (bounds : List ℕ) (all_sent : ℕ → List T) (got : List T) → v.bounds ≡ bounds → v.received ≡ got
      → ((t : ℕ) → all_sent t ≡ with_tag tag_of t got ++ with_tag tag_of t (x ∷ items)) → ((t : ℕ) → length (all_sent t) ≤ bound_of bounds t)
      → length (v.received ++ x ∷ []) ≤ sum v.bounds
  received_few v x items bounds all_sent got bounds_are received_are flow within =
      let few : (t : ℕ) → length (with_tag tag_of t (got ++ x ∷ [])) ≤ bound_of bounds t = λ t.
      let sent_are = ap length (flow t) in
      let front = ap length (with_tag-append tag_of t got (x ∷ [])) in
      let behind = ap length (with_tag-append tag_of t (x ∷ []) items) in
      let low = within t in
      omega (arith, sent_are, front, behind, low, length-append (with_tag tag_of t got) (with_tag tag_of t (x ∷ [])), length-append (with_tag tag_of t got) (with_tag tag_of t (x ∷ items)), length-append (with_tag tag_of t (x ∷ [])) (with_tag tag_of t items)) in
      subst (λ (y : List T × List ℕ). length (y.0 ++ x ∷ []) ≤ sum y.1) (λ i. (sym received_are i, sym bounds_are i)) (length-by_bounds tag_of bounds (got ++ x ∷ []) few)

  -- a pop
  pub pops : (number : ℕ) (v : View T) → v.live ≡ true → v.takes ≡ true → Pops (Keeps tag_of) number v (λ x w. Receives v x w)
  pops number v live takes x items views h at =
      let r = flows (x ∷ items) views number v at live h in
      let mine = r.each number v at in
      let got = r.received ++ x ∷ [] in (
        popped v x,
        inr record {
          bounds = r.bounds;
          holder = r.holder;
          reader = r.reader;
          sent = r.sent;
          received = got;
          flow = λ t. r.flow t ∙ ap (λ l. with_tag tag_of t r.received ++ l) (with_tag-append tag_of t (x ∷ []) items)
              ∙ sym (append_assoc (with_tag tag_of t r.received) (with_tag tag_of t (x ∷ [])) (with_tag tag_of t items)) ∙ ap (λ l. l ++ with_tag tag_of t items) (sym (with_tag-append tag_of t r.received (x ∷ [])));
          within = r.within;
          each = all_set (IsRight tag_of r.bounds r.holder r.reader r.sent got) views number (popped v x)
              record { split = mine.split; bounds_are = mine.bounds_are; held = mine.held; others = mine.others; taker = λ it. ((mine.taker it).0, ap (λ l. l ++ x ∷ []) (mine.taker it).1) }
              (λ j u other e. let one = r.each j u e in record { split = one.split; bounds_are = one.bounds_are; held = one.held; others = one.others; taker = λ is. absurd (other ((one.taker is).0 ∙ sym (mine.taker takes).0)) });
        },
        (
          refl,
          received_few v x items r.bounds r.sent r.received (mine.bounds_are live) (mine.taker takes).1 r.flow r.within,
        ),
      )

  -- what a ticket that has taken in the taker learns
  pub agrees : (number : ℕ) (v : View T) → v.live ≡ true → v.takes ≡ true → Learns (Keeps tag_of) number v (Agrees tag_of v)
  agrees number v live takes items views h at =
      let r = flows items views number v at live h in
      let mine = r.each number v at in
      let received_are = (mine.taker takes).1 in record {
        held = λ t it. (mine.held t it).1 ∙ r.flow t ∙ ap (λ l. with_tag tag_of t l ++ with_tag tag_of t items) (sym received_are);
        barred = λ t none.
            let few : length (with_tag tag_of t r.received) ≤ 0 =
            let sent_are = ap length (r.flow t) in
            let low = r.within t in
            let bound_is = ap (λ bs. bound_of bs t) (sym (mine.bounds_are live)) ∙ none in
            omega (arith, sent_are, low, bound_is, length-append (with_tag tag_of t r.received) (with_tag tag_of t items)) in
            ap (with_tag tag_of t) received_are ∙ no_items (with_tag tag_of t r.received) few;
      }

  -- what a ticket learns of how many items there are
  pub learns : (number : ℕ) (v : View T) → v.live ≡ true → Learns (Keeps tag_of) number v (HoldsAtMost v)
  learns number v live items views h at =
      let r = flows items views number v at live h in
      let mine = r.each number v at in
      let fewer : (t : ℕ) → length (with_tag tag_of t items) ≤ length (r.sent t) = λ t. let e = ap length (r.flow t) in omega (arith, e, length-append (with_tag tag_of t r.received) (with_tag tag_of t items)) in
      length-by_tags tag_of v.tags 0 v.bounds items v.sent (λ t lt. absurd (omega arith))
      (λ k n is. let same : n ≡ k = omega (arith, is) in let low = fewer k in let top = r.within k in
      let P : ℕ × List ℕ → Type 0 = λ y. length (with_tag tag_of y.0 items) ≤ bound_of y.1 k in subst P (λ i. (sym same i, sym (mine.bounds_are live) i)) (omega (arith, low, top)))
      (λ t le it. let low = fewer t in let e = ap length (mine.held t it).1 in omega (arith, e, low))
