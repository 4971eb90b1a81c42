-- Inserts and controls among rows.
use Rattle.std.proofs.Common.{◌≡◌, ◌≢◌, ℕ, zero, suc, ◌+◌, ◌-◌, ◌<◌, ◌≤◌, Bool, true, false, cond, eqb, ne_eqb, Option, Some, None, List, [], ◌∷◌, ◌++◌, length, take, drop, get_or, refl, sym, ap, ap₂, ◌∙◌, arith}
use Rattle.std.specs.Prelude.{slice_get}
use Rattle.std.specs.List.{filter_map, AllByRecursion}
use Rattle.std.proofs.lemmas.Bool.{eq-eqb, eqb-true, eqb-false}
use Rattle.std.proofs.lemmas.List.{append-nil, append_cancel_right, length-append, length-map, map-append, take_all, take_at, take-append-le, take-append-drop, take_more, drop_more, at_drop_more}
use Rattle.std.proofs.lemmas.List.Elements.{recursion_from_All, All-head, All-tail, All-filter}
use Rattle.std.proofs.lemmas.Option.{slice_get_read}
use Rattle.controller_host.specs.declared.destinations.Destination.{Destination}
use Rattle.controller_host.specs.declared.controls.Control.{Control}
use Rattle.controller_host.specs.declared.controls.Control.TheVariants as control
use Rattle.controller_host.specs.declared.sources.Source.{Source}
use Rattle.controller_host.specs.Sources.{with_sources}
use Rattle.controller_host.specs.Values.{InsertionValue}
use Rattle.bc_machine.specs.declared.placed.Placed.{Placed}
use Rattle.bc_machine.specs.declared.placed.HostAction.{HostAction}
use Rattle.bc_machine.specs.declared.placed.HostAction.TheVariants.{Terminal, Controller}
use Rattle.bc_machine.specs.Controller.{control_in, control_of}
use Rattle.bc_machine.specs.Schedules.{AreOf, MayControl, is_control}
use Rattle.bc_machine.specs.declared.action_rows.Row.{Row}
use Rattle.bc_machine.specs.Agendas.{inserts_among}
use Rattle.bc_machine.specs.Beside.{BesideLists}
use Rattle.bc_machine.specs.Asking.{IsInsertAt, controls_at, with_controls}
use Rattle.bc_machine.specs.Hosting.{placed_at, placed_up_to, insertion_of, inserts_up_to}
use Rattle.bc_machine.specs.Rows.{placed_of, all_placed}
use Rattle.bc_machine.proofs.Listed.{placed_get}
use Rattle.bc_machine.proofs.Queued.{among_both, among_parts, at_both, get_behind, drop_both, inserts_both}

nothing_left : (n : ℕ) → inserts_among (drop n []) ≡ []
nothing_left zero = refl
nothing_left (suc n) = refl

module _ (beside : BesideLists) (rows : List Row) where
  abbrev acts : List Placed
  acts = all_placed beside rows

  -- a row as an element of the list
  pub act_at : (place : ℕ) (row : Row) (d : Placed) → place < length rows → row ≡ get_or rows place row → get_or acts place d ≡ placed_of beside row
  act_at place row d less is = placed_get beside rows place d row less ∙ ap (placed_of beside) (sym is)

  long : length acts ≡ length rows
  long = length-map rows (placed_of beside)

  -- no insert stands at a place
  pub skip_one : (place : ℕ) (row : Row) → place < length rows → row ≡ get_or rows place row → insertion_of (placed_of beside row).action ≡ None
      → inserts_among (drop (place + 1) acts) ≡ inserts_among (drop place acts)
  skip_one place row less is none =
      let d = placed_of beside row in
      let here = act_at place row d less is in
      let none_here : insertion_of (get_or acts place d).action ≡ None = ap (λ (p : Placed). insertion_of p.action) here ∙ none in
      let left : inserts_among (drop place acts) ≡ inserts_among (get_or acts place d ∷ drop (place + 1) acts) = at_drop_more inserts_among acts place d (omega (arith, less, long)) in
      sym (left ∙ (rw none_here refl))

  pub from_is : (passed place : ℕ) (row : Row) (x : InsertionValue) → place < length rows → row ≡ get_or rows place row → insertion_of (placed_of beside row).action ≡ Some x
      → passed ≤ place → inserts_among (drop place acts) ≡ inserts_among (drop passed acts) → IsInsertAt acts passed place x
  from_is passed place row x less is some low same =
      let here = act_at place row (placed_of beside row) less is in
      record {
        order = low;
        one = placed_of beside row;
        there = slice_get_read acts (length acts) place (placed_of beside row) refl (omega (arith, less, long)) (sym here);
        inserts = some;
        none = append_cancel_right (inserts_among (take place acts)) (inserts_among (take passed acts)) (inserts_among (drop passed acts))
            (ap (λ v. inserts_among (take place acts) ++ v) (sym same) ∙ sym (among_parts place acts) ∙ among_parts passed acts);
      }

  -- those of a number among the first rows
  module _ (n : ℕ) where
    abbrev so_far : ℕ → List Placed
    so_far i = placed_at n (all_placed beside (take i rows))

    pub more_so_far : (i : ℕ) (row : Row) → i < length rows → row ≡ get_or rows i row → so_far (i + 1) ≡ so_far i ++ placed_at n (placed_of beside row ∷ [])
    more_so_far i row less is =
        let next : take (i + 1) rows ≡ take i rows ++ row ∷ [] = take_more rows i row less ∙ ap (λ (r : Row). take i rows ++ r ∷ []) (sym is) in
        ap (λ rs. placed_at n (all_placed beside rs)) next
        ∙ ap (placed_at n) (map-append (placed_of beside) (take i rows) (row ∷ []))
        ∙ at_both n (all_placed beside (take i rows)) (placed_of beside row ∷ [])

    pub all_so_far : (i : ℕ) → length rows ≤ i → so_far i ≡ placed_at n acts
    all_so_far i le = ap (λ rs. placed_at n (all_placed beside rs)) (take_all i rows le)

    parts_so_far : (i : ℕ) → placed_at n acts ≡ so_far i ++ placed_at n (all_placed beside (drop i rows))
    parts_so_far i =
        ap (λ rs. placed_at n (all_placed beside rs)) (sym (take-append-drop i rows))
        ∙ ap (placed_at n) (map-append (placed_of beside) (take i rows) (drop i rows))
        ∙ at_both n (all_placed beside (take i rows)) (all_placed beside (drop i rows))

    pub of_number : (row : Row) (rest : List Placed) → row.number ≡ n → placed_at n (placed_of beside row ∷ rest) ≡ placed_of beside row ∷ placed_at n rest
    of_number row rest e = ap (λ b. cond b (placed_of beside row ∷ placed_at n rest) (placed_at n rest)) (eq-eqb row.number n e)

    pub of_other : (row : Row) (rest : List Placed) → row.number ≢ n → placed_at n (placed_of beside row ∷ rest) ≡ placed_at n rest
    of_other row rest e = ap (λ b. cond b (placed_of beside row ∷ placed_at n rest) (placed_at n rest)) (ne_eqb row.number n e)

    pub among_is : (i passed place : ℕ) (row : Row) (x : InsertionValue) → i < length rows → row ≡ get_or rows i row → row.number ≡ n → insertion_of (placed_of beside row).action ≡ Some x
        → passed ≤ place → place ≡ length (so_far i) → inserts_among (drop passed (so_far i)) ≡ [] → IsInsertAt (placed_at n acts) passed place x
    among_is i passed place row x less is number some low at none =
        let p = placed_of beside row in
        let a = so_far i in
        let rest = placed_at n (all_placed beside (drop (i + 1) rows)) in
        let left : drop i rows ≡ row ∷ drop (i + 1) rows = drop_more rows i row less ∙ ap (λ (r : Row). r ∷ drop (i + 1) rows) (sym is) in
        let whole : placed_at n acts ≡ a ++ (p ∷ rest) =
        parts_so_far i ∙ ap (λ rs. a ++ placed_at n (all_placed beside rs)) left ∙ ap (λ (v : List Placed). a ++ v) (of_number row (all_placed beside (drop (i + 1) rows)) number) in
        let place_is : place ≡ length a + 0 = omega (arith, at) in
        let first : inserts_among a ≡ inserts_among (take passed a) = among_parts passed a ∙ ap (λ v. inserts_among (take passed a) ++ v) none ∙ append-nil (inserts_among (take passed a)) in
        record {
          order = low;
          one = p;
          there = ap₂ slice_get whole place_is ∙ get_behind a (p ∷ rest) 0;
          inserts = some;
          none = ap (λ v. inserts_among (take place v)) whole ∙ ap inserts_among (take_at a (p ∷ rest) place (sym at)) ∙ first
              ∙ sym (ap (λ v. inserts_among (take passed v)) whole ∙ ap inserts_among (take-append-le passed a (p ∷ rest) (omega (arith, low, at))));
        }

    -- one row more without an insert behind those that were passed
    pub none_more : (i passed : ℕ) (row : Row) → i < length rows → row ≡ get_or rows i row → (row.number ≡ n → passed ≤ length (so_far i) → insertion_of (placed_of beside row).action ≡ None)
        → inserts_among (drop passed (so_far i)) ≡ [] → inserts_among (drop passed (so_far (i + 1))) ≡ []
    none_more i passed row less is clear none =
        let a = so_far i in
        ap (λ v. inserts_among (drop passed v)) (more_so_far i row less is)
        ∙ ap inserts_among (drop_both passed a (placed_at n (placed_of beside row ∷ [])))
        ∙ among_both (drop passed a) (drop (passed - length a) (placed_at n (placed_of beside row ∷ [])))
        ∙ ap₂ (λ (v u : List InsertionValue). v ++ u) none (by_number (eqb row.number n) refl (passed - length a) refl)
      where
        by_number : (b : Bool) → eqb row.number n ≡ b → (k : ℕ) → passed - length (so_far i) ≡ k → inserts_among (drop k (cond b (placed_of beside row ∷ []) [])) ≡ []
        by_number false e zero h = refl
        by_number false e (suc k) h = refl
        by_number true e zero h = let nothing = clear (eqb-true row.number n e) (omega (arith, h)) in rw nothing refl
        by_number true e (suc k) h = nothing_left k

    pub place_more : (i place : ℕ) (row : Row) → i < length rows → row ≡ get_or rows i row → row.number ≡ n → place ≡ length (so_far i) → place + 1 ≡ length (so_far (i + 1))
    place_more i place row less is number at =
        let more = ap length (more_so_far i row less is ∙ ap (λ (v : List Placed). so_far i ++ v) (of_number row [] number)) in
        omega (arith, more, length-append (so_far i) (placed_of beside row ∷ []), at)

    pub place_same : (i : ℕ) (row : Row) → i < length rows → row ≡ get_or rows i row → row.number ≢ n → so_far (i + 1) ≡ so_far i
    place_same i row less is other = more_so_far i row less is ∙ ap (λ (v : List Placed). so_far i ++ v) (of_other row [] other) ∙ append-nil (so_far i)

-- ---- how many inserts at numbers up to one

up_to_none : (n : ℕ) (p : Placed) → n < p.number → placed_up_to n (p ∷ []) ≡ []
unfolding placed_up_to
up_to_none zero p above = refl
up_to_none (suc n) p above =
    ap₂ (λ (v u : List Placed). v ++ u) (up_to_none n p (omega (arith, above))) (ap (λ b. cond b (p ∷ []) []) (ne_eqb p.number (suc n) (λ e. omega (arith, e, above))))

up_to_zero : (n : ℕ) (p : Placed) → p.number ≡ 0 → placed_up_to n (p ∷ []) ≡ []
unfolding placed_up_to
up_to_zero zero p is = refl
up_to_zero (suc n) p is =
    ap₂ (λ (v u : List Placed). v ++ u) (up_to_zero n p is) (ap (λ b. cond b (p ∷ []) []) (ne_eqb p.number (suc n) (λ e. omega (arith, e, is))))

up_to_one : (n : ℕ) (p : Placed) → 1 ≤ p.number → p.number ≤ n → placed_up_to n (p ∷ []) ≡ p ∷ []
unfolding placed_up_to
up_to_one zero p low high = absurd (omega (arith, low, high))
up_to_one (suc n) p low high = by_last (eqb p.number (suc n)) refl (λ below. up_to_one n p low below)
  where
    by_last : (b : Bool) → eqb p.number (suc n) ≡ b → (p.number ≤ n → placed_up_to n (p ∷ []) ≡ p ∷ []) → placed_up_to n (p ∷ []) ++ cond b (p ∷ []) [] ≡ p ∷ []
    by_last true e more =
        let is = eqb-true p.number (suc n) e in
        ap (λ (v : List Placed). v ++ p ∷ []) (up_to_none n p (omega (arith, is)))
    by_last false e more =
        let other : p.number ≢ suc n = eqb-false p.number (suc n) e in
        append-nil (placed_up_to n (p ∷ [])) ∙ more (omega (arith, other, high))

-- the count, one row more
pub inserts_yes : (n : ℕ) (ps : List Placed) (p : Placed) (x : InsertionValue) → 1 ≤ p.number → p.number ≤ n → insertion_of p.action ≡ Some x → length (inserts_up_to n (ps ++ p ∷ [])) ≡ length (inserts_up_to n ps) + 1
inserts_yes n ps p x low high is =
    let one : length (inserts_up_to n (p ∷ [])) ≡ 1 = ap (λ v. length (inserts_among v)) (up_to_one n p low high) ∙ (rw is refl) in
    omega (arith, inserts_both n ps (p ∷ []), one)

one_none : (p : Placed) (b : Bool) → insertion_of p.action ≡ None → inserts_among (cond b (p ∷ []) []) ≡ []
one_none p true none = rw none refl
one_none p false none = refl

none_of_one : (n : ℕ) (p : Placed) → insertion_of p.action ≡ None → inserts_up_to n (p ∷ []) ≡ []
unfolding placed_up_to
none_of_one zero p none = refl
none_of_one (suc n) p none =
    among_both (placed_up_to n (p ∷ [])) (placed_at (suc n) (p ∷ []))
    ∙ ap₂ (λ (v u : List InsertionValue). v ++ u) (none_of_one n p none) (one_none p (eqb p.number (suc n)) none)

pub inserts_no : (n : ℕ) (ps : List Placed) (p : Placed) → insertion_of p.action ≡ None → length (inserts_up_to n (ps ++ p ∷ [])) ≡ length (inserts_up_to n ps)
inserts_no n ps p none =
    let nothing : length (inserts_up_to n (p ∷ [])) ≡ 0 = ap length (none_of_one n p none) in
    omega (arith, inserts_both n ps (p ∷ []), nothing)

pub inserts_outside : (n : ℕ) (ps : List Placed) (p : Placed) → (1 ≤ p.number → n < p.number) → length (inserts_up_to n (ps ++ p ∷ [])) ≡ length (inserts_up_to n ps)
inserts_outside n ps p out =
    let nothing : length (inserts_up_to n (p ∷ [])) ≡ 0 = ap (λ v. length (inserts_among v)) (by_number p.number refl) in
    omega (arith, inserts_both n ps (p ∷ []), nothing)
  where
    by_number : (k : ℕ) → p.number ≡ k → placed_up_to n (p ∷ []) ≡ []
    by_number zero e = up_to_zero n p e
    by_number (suc k) e = up_to_none n p (out (omega (arith, e)))

-- ---- controls

no_control : (a : HostAction) → (is_control a ≡ true → false ≡ true) → control_in a ≡ None
no_control (Terminal address action) h = refl
no_control (Controller asked) h = absurd (let e = h refl in cc)

no_controls_among : (ps : List Placed) → MayControl false ps → filter_map control_of ps ≡ []
no_controls_among [] none = refl
no_controls_among (p ∷ ps) none =
    let rest = no_controls_among ps (All-tail (λ (q : Placed). is_control q.action ≡ true → false ≡ true) p ps none) in
    let is : control_in p.action ≡ None = no_control p.action (All-head (λ (q : Placed). is_control q.action ≡ true → false ≡ true) p ps none) in
    rw is rest

pub no_controls : (n : ℕ) (ps : List Placed) → MayControl false ps → controls_at n ps ≡ []
no_controls n ps none = no_controls_among (placed_at n ps) (All-filter (λ (p : Placed). eqb p.number n) (λ (p : Placed). is_control p.action ≡ true → false ≡ true) ps none)

-- controls one after the other
pub controls_then : (cs ds : List Control) (was : Option Source) (d : Destination) (place : ℕ) → with_controls (cs ++ ds) was d place ≡ with_controls ds (with_controls cs was d place) d place
controls_then [] ds was d place = refl
controls_then (c ∷ cs) ds was d place = controls_then cs ds (with_sources c was d place) d place

-- ---- rows of one number

all_alone : (n : ℕ) (beside : BesideLists) (rows : List Row) → AllByRecursion (λ (r : Row). r.number ≡ n) rows → placed_at n (all_placed beside rows) ≡ all_placed beside rows
all_alone n beside [] all = refl
all_alone n beside (r ∷ rs) all =
    ap (λ b. cond b (placed_of beside r ∷ placed_at n (all_placed beside rs)) (placed_at n (all_placed beside rs))) (eq-eqb r.number n all.0)
    ∙ ap (λ (ps : List Placed). placed_of beside r ∷ ps) (all_alone n beside rs all.1)

pub placed_alone : (n : ℕ) (beside : BesideLists) (rows : List Row) → AreOf n rows → placed_at n (all_placed beside rows) ≡ all_placed beside rows
placed_alone n beside rows all = all_alone n beside rows (recursion_from_All (λ (r : Row). r.number ≡ n) rows all)

-- ---- the insert that a row stands for

abbrev pub insert_in : Option Control → Option InsertionValue
insert_in (Some (control.Insert x)) = Some x
insert_in _ = None

pub insertion_is : (a : HostAction) → insertion_of a ≡ insert_in (control_in a)
insertion_is (Terminal address action) = refl
insertion_is (Controller (control.Data new)) = refl
insertion_is (Controller (control.Ramp ramp)) = refl
insertion_is (Controller (control.Insert x)) = refl
