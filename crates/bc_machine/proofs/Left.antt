-- What the host of the controller asks for among rows, one row on.
use Rattle.std.proofs.Common.{◌≡◌, ◌≢◌, ℕ, zero, suc, ◌+◌, ◌<◌, ◌≤◌, Bool, true, false, cond, eqb, ne_eqb, Option, Some, None, List, [], ◌∷◌, ◌++◌, length, take, drop, get_or, refl, sym, ap, ◌∙◌, subst, ⊎_elim, arith}
use Rattle.std.specs.List.{filter_map, cons_option}
use Rattle.std.specs.Option.{is_some}
use Rattle.std.proofs.lemmas.Bool.{eq-eqb, cases_lt}
use Rattle.std.proofs.lemmas.List.{drop_all, drop_more, length-append, map-append, take_more}
use Rattle.std.proofs.lemmas.List.Elements.{All-head, All-tail, filter-append}
use Rattle.mil_message.specs.declared.forms.Form.{Form}
use Rattle.controller_host.specs.declared.destinations.Destination.{Destination}
use Rattle.controller_host.specs.declared.controls.Control.{Control}
use Rattle.controller_host.specs.declared.controls.Control.TheVariants as control
use Rattle.controller_host.specs.declared.sources.Source.{Source}
use Rattle.controller_host.specs.Sources.{is_source_control}
use Rattle.controller_host.specs.Values.{InsertionValue}
use Rattle.bc_machine.specs.declared.placed.Placed.{Placed}
use Rattle.bc_machine.specs.declared.placed.HostAction.{HostAction}
use Rattle.bc_machine.specs.declared.placed.HostAction.TheVariants.{Terminal, Controller}
use Rattle.bc_machine.specs.declared.action_rows.Row.{Row}
use Rattle.bc_machine.specs.Agendas.{inserts_among}
use Rattle.bc_machine.specs.Beside.{BesideLists}
use Rattle.bc_machine.specs.Asking.{controls_at, filled_by, with_controls}
use Rattle.bc_machine.specs.Controller.{control_in, control_of}
use Rattle.bc_machine.specs.Hosting.{placed_at, placed_up_to, insertion_of, inserts_up_to}
use Rattle.bc_machine.specs.Rows.{placed_of, all_placed, rows_at, source_control}
use Rattle.bc_machine.specs.Schedules.{HaveRoom, sets_sources}
use Rattle.bc_machine.proofs.Filled.{insert_stays}
use Rattle.bc_machine.proofs.Asked.{of_number, of_other, inserts_yes, inserts_no, inserts_outside}
use Rattle.bc_machine.proofs.Queued.{among_both, inserts_both}

pub up_to_nothing : (n : ℕ) → placed_up_to n [] ≡ []
unfolding placed_up_to
up_to_nothing zero = refl
up_to_nothing (suc n) = ap (λ (ps : List Placed). ps ++ []) (up_to_nothing n)

-- no more at numbers up to one than there are
one_at_most : (n : ℕ) (p : Placed) (k : ℕ) → p.number ≡ k → length (inserts_up_to n (p ∷ [])) ≤ 1
one_at_most n p zero e = omega (arith, inserts_outside n [] p (λ low. omega (arith, e, low)), ap length (ap inserts_among (up_to_nothing n)))
one_at_most n p (suc k) e =
    ⊎_elim (λ less. omega (arith, inserts_outside n [] p (λ low. less), ap length (ap inserts_among (up_to_nothing n))))
    (λ le. by_insert (insertion_of p.action) refl (omega (arith, e)) le)
    (cases_lt n p.number)
  where
    by_insert : (o : Option InsertionValue) → insertion_of p.action ≡ o → 1 ≤ p.number → p.number ≤ n → length (inserts_up_to n (p ∷ [])) ≤ 1
    by_insert None h low high = omega (arith, inserts_no n [] p h, ap length (ap inserts_among (up_to_nothing n)))
    by_insert (Some x) h low high = omega (arith, inserts_yes n [] p x low high h, ap length (ap inserts_among (up_to_nothing n)))

pub few_up_to : (n : ℕ) (ps : List Placed) → length (inserts_up_to n ps) ≤ length ps
few_up_to n [] = omega (arith, ap length (ap inserts_among (up_to_nothing n)))
few_up_to n (p ∷ ps) = omega (arith, inserts_both n (p ∷ []) ps, one_at_most n p p.number refl, few_up_to n ps)

pub some_of : {X : Type 0} (o : Option X) → is_some o ≡ true → (x : X) × (o ≡ Some x)
some_of None h = absurd cc
some_of (Some x) h = (x, refl)

pub none_of : {X : Type 0} (o : Option X) → is_some o ≡ false → o ≡ None
none_of None h = refl
none_of (Some x) h = absurd cc

-- an action that sets sources
sets_in : (a : HostAction) (c : Control) → control_in a ≡ Some c → is_source_control c ≡ true → sets_sources a ≡ true
sets_in (Terminal address action) c e h = absurd cc
sets_in (Controller asked) c e h = let same : asked ≡ c = cc in ap is_source_control same ∙ h

-- what the host of the controller asks for, where it sets sources
pub asks_for : (o : Option Control) (c : Control) → source_control o ≡ Some c → o ≡ Some c
asks_for None c e = absurd cc
asks_for (Some (control.Data new)) c e = e
asks_for (Some (control.Ramp ramp)) c e = e
asks_for (Some (control.Insert x)) c e = absurd cc

-- an insert sets no source, and puts no word into a message
pub unset : (o : Option Control) (cs : List Control) (was : Option Source) (d : Destination) (place : ℕ) → source_control o ≡ None → with_controls (cons_option o cs) was d place ≡ with_controls cs was d place
unset None cs was d place e = refl
unset (Some (control.Data new)) cs was d place e = absurd cc
unset (Some (control.Ramp ramp)) cs was d place e = absurd cc
unset (Some (control.Insert x)) cs was d place e = refl

pub unfilled : (o : Option Control) (cs : List Control) (form : Form) → source_control o ≡ None → filled_by (cons_option o cs) form ≡ filled_by cs form
unfilled None cs form e = refl
unfilled (Some (control.Data new)) cs form e = absurd cc
unfilled (Some (control.Ramp ramp)) cs form e = absurd cc
unfilled (Some (control.Insert x)) cs form e = ap (filled_by cs) (sym (insert_stays x form))

module _ (beside : BesideLists) (rows : List Row) where
  -- those so far, one row on
  pub placed_more : (i : ℕ) (row : Row) → i < length rows → row ≡ get_or rows i row → all_placed beside (take (i + 1) rows) ≡ all_placed beside (take i rows) ++ placed_of beside row ∷ []
  placed_more i row less is =
      ap (all_placed beside) (take_more rows i row less ∙ ap (λ (r : Row). take i rows ++ r ∷ []) (sym is)) ∙ map-append (placed_of beside) (take i rows) (row ∷ [])

  pub insert_yes : (i : ℕ) (row : Row) (x : InsertionValue) → i < length rows → row ≡ get_or rows i row → insertion_of (placed_of beside row).action ≡ Some x
      → length (inserts_among (all_placed beside (take (i + 1) rows))) ≡ length (inserts_among (all_placed beside (take i rows))) + 1
  insert_yes i row x less is some =
      let p = placed_of beside row in
      let one : length (inserts_among (p ∷ [])) ≡ 1 = rw some refl in
      let all = ap length (ap inserts_among (placed_more i row less is) ∙ among_both (all_placed beside (take i rows)) (p ∷ [])) in
      omega (arith, one, all, length-append (inserts_among (all_placed beside (take i rows))) (inserts_among (p ∷ [])))

  pub insert_no : (i : ℕ) (row : Row) → i < length rows → row ≡ get_or rows i row → insertion_of (placed_of beside row).action ≡ None
      → length (inserts_among (all_placed beside (take (i + 1) rows))) ≡ length (inserts_among (all_placed beside (take i rows)))
  insert_no i row less is none =
      let p = placed_of beside row in
      let one : length (inserts_among (p ∷ [])) ≡ 0 = rw none refl in
      let all = ap length (ap inserts_among (placed_more i row less is) ∙ among_both (all_placed beside (take i rows)) (p ∷ [])) in
      omega (arith, one, all, length-append (inserts_among (all_placed beside (take i rows))) (inserts_among (p ∷ [])))

  pub insert_next : (i : ℕ) (row : Row) → i < length rows → row ≡ get_or rows i row → is_some (insertion_of (placed_of beside row).action) ≡ true
      → length (inserts_among (all_placed beside (take (i + 1) rows))) ≡ length (inserts_among (all_placed beside (take i rows))) + 1
  insert_next i row less is h = let s = some_of (insertion_of (placed_of beside row).action) h in insert_yes i row s.0 less is s.1

  pub insert_not : (i : ℕ) (row : Row) → i < length rows → row ≡ get_or rows i row → is_some (insertion_of (placed_of beside row).action) ≡ false
      → length (inserts_among (all_placed beside (take (i + 1) rows))) ≡ length (inserts_among (all_placed beside (take i rows)))
  insert_not i row less is h = insert_no i row less is (none_of (insertion_of (placed_of beside row).action) h)

  -- how many at numbers from 1 up to one, one row on
  pub below_next : (n i : ℕ) (row : Row) → i < length rows → row ≡ get_or rows i row → 1 ≤ row.number → row.number ≤ n → is_some (insertion_of (placed_of beside row).action) ≡ true
      → length (inserts_up_to n (all_placed beside (take (i + 1) rows))) ≡ length (inserts_up_to n (all_placed beside (take i rows))) + 1
  below_next n i row less is low high h =
      let s = some_of (insertion_of (placed_of beside row).action) h in
      ap (λ ps. length (inserts_up_to n ps)) (placed_more i row less is) ∙ inserts_yes n (all_placed beside (take i rows)) (placed_of beside row) s.0 low high s.1

  pub below_not : (n i : ℕ) (row : Row) → i < length rows → row ≡ get_or rows i row → is_some (insertion_of (placed_of beside row).action) ≡ false
      → length (inserts_up_to n (all_placed beside (take (i + 1) rows))) ≡ length (inserts_up_to n (all_placed beside (take i rows)))
  below_not n i row less is h =
      ap (λ ps. length (inserts_up_to n ps)) (placed_more i row less is)
      ∙ inserts_no n (all_placed beside (take i rows)) (placed_of beside row) (none_of (insertion_of (placed_of beside row).action) h)

  pub below_outside : (n i : ℕ) (row : Row) → i < length rows → row ≡ get_or rows i row → (1 ≤ row.number → n < row.number)
      → length (inserts_up_to n (all_placed beside (take (i + 1) rows))) ≡ length (inserts_up_to n (all_placed beside (take i rows)))
  below_outside n i row less is out =
      ap (λ ps. length (inserts_up_to n ps)) (placed_more i row less is) ∙ inserts_outside n (all_placed beside (take i rows)) (placed_of beside row) out

  module _ (n : ℕ) where
    -- those of a number among the rows that are left
    abbrev pub left : ℕ → List Placed
    left i = placed_at n (all_placed beside (drop i rows))

    rest_is : (i : ℕ) (row : Row) → i < length rows → row ≡ get_or rows i row → left i ≡ placed_at n (placed_of beside row ∷ all_placed beside (drop (i + 1) rows))
    rest_is i row less is =
        ap (λ rs. placed_at n (all_placed beside rs)) (drop_more rows i row less ∙ ap (λ (r : Row). r ∷ drop (i + 1) rows) (sym is))

    pub left_number : (i : ℕ) (row : Row) → i < length rows → row ≡ get_or rows i row → row.number ≡ n → left i ≡ placed_of beside row ∷ left (i + 1)
    left_number i row less is number = rest_is i row less is ∙ of_number beside rows n row (all_placed beside (drop (i + 1) rows)) number

    pub left_other : (i : ℕ) (row : Row) → i < length rows → row ≡ get_or rows i row → row.number ≢ n → left i ≡ left (i + 1)
    left_other i row less is other = rest_is i row less is ∙ of_other beside rows n row (all_placed beside (drop (i + 1) rows)) other

    -- what they ask for
    pub controls_some : (i : ℕ) (row : Row) (c : Control) → i < length rows → row ≡ get_or rows i row → row.number ≡ n → control_of (placed_of beside row) ≡ Some c
        → controls_at n (all_placed beside (drop i rows)) ≡ c ∷ controls_at n (all_placed beside (drop (i + 1) rows))
    controls_some i row c less is number asks =
        let first : filter_map control_of (placed_of beside row ∷ left (i + 1)) ≡ c ∷ filter_map control_of (left (i + 1)) = rw asks refl in
        ap (filter_map control_of) (left_number i row less is number) ∙ first

    pub controls_next : (i : ℕ) (row : Row) → i < length rows → row ≡ get_or rows i row → row.number ≡ n
        → controls_at n (all_placed beside (drop i rows)) ≡ cons_option (control_of (placed_of beside row)) (controls_at n (all_placed beside (drop (i + 1) rows)))
    controls_next i row less is number = ap (filter_map control_of) (left_number i row less is number)

    pub controls_other : (i : ℕ) (row : Row) → i < length rows → row ≡ get_or rows i row → row.number ≢ n
        → controls_at n (all_placed beside (drop i rows)) ≡ controls_at n (all_placed beside (drop (i + 1) rows))
    controls_other i row less is other = ap (filter_map control_of) (left_other i row less is other)

    pub controls_end : (i : ℕ) → length rows ≤ i → controls_at n (all_placed beside (drop i rows)) ≡ []
    controls_end i past = ap (λ rs. controls_at n (all_placed beside rs)) (drop_all i rows past)

    -- there is room for what they set
    pub room_tail : (ready : Bool) (i : ℕ) (row : Row) → i < length rows → row ≡ get_or rows i row → row.number ≡ n → HaveRoom ready (left i) → HaveRoom ready (left (i + 1))
    room_tail ready i row less is number all =
        All-tail (λ (p : Placed). sets_sources p.action ≡ true → ready ≡ true) (placed_of beside row) (left (i + 1)) (subst (HaveRoom ready) (left_number i row less is number) all)

    pub room_other : (ready : Bool) (i : ℕ) (row : Row) → i < length rows → row ≡ get_or rows i row → row.number ≢ n → HaveRoom ready (left i) → HaveRoom ready (left (i + 1))
    room_other ready i row less is other all = subst (HaveRoom ready) (left_other i row less is other) all

    pub room_here : (ready : Bool) (i : ℕ) (row : Row) (c : Control) → i < length rows → row ≡ get_or rows i row → row.number ≡ n → control_of (placed_of beside row) ≡ Some c → HaveRoom ready (left i)
        → is_source_control c ≡ true → ready ≡ true
    room_here ready i row c less is number asks all sets =
        All-head (λ (p : Placed). sets_sources p.action ≡ true → ready ≡ true) (placed_of beside row) (left (i + 1)) (subst (HaveRoom ready) (left_number i row less is number) all)
        (sets_in (placed_of beside row).action c asks sets)

    -- how many rows are of the number
    rows_more : (i : ℕ) (row : Row) → i < length rows → row ≡ get_or rows i row → rows_at n (take (i + 1) rows) ≡ rows_at n (take i rows) ++ rows_at n (row ∷ [])
    rows_more i row less is =
        ap (rows_at n) (take_more rows i row less ∙ ap (λ (r : Row). take i rows ++ r ∷ []) (sym is)) ∙ filter-append (λ (r : Row). eqb r.number n) (take i rows) (row ∷ [])

    pub count_yes : (i : ℕ) (row : Row) → i < length rows → row ≡ get_or rows i row → row.number ≡ n → length (rows_at n (take (i + 1) rows)) ≡ length (rows_at n (take i rows)) + 1
    count_yes i row less is number =
        let one : length (rows_at n (row ∷ [])) ≡ 1 = ap (λ b. length (cond b (row ∷ []) [])) (eq-eqb row.number n number) in
        omega (arith, ap length (rows_more i row less is), length-append (rows_at n (take i rows)) (rows_at n (row ∷ [])), one)

    pub count_no : (i : ℕ) (row : Row) → i < length rows → row ≡ get_or rows i row → row.number ≢ n → length (rows_at n (take (i + 1) rows)) ≡ length (rows_at n (take i rows))
    count_no i row less is other =
        let one : length (rows_at n (row ∷ [])) ≡ 0 = ap (λ b. length (cond b (row ∷ []) [])) (ne_eqb row.number n other) in
        omega (arith, ap length (rows_more i row less is), length-append (rows_at n (take i rows)) (rows_at n (row ∷ [])), one)
