-- Rows and the list beside them, as the list of placed actions that they stand for.
use Rattle.std.proofs.Common.{◌≡◌, ℕ, zero, suc, ◌+◌, ◌<◌, ◌≤◌, true, false, eqb, leb, List, [], ◌∷◌, ◌++◌, length, get_or, refl, sym, ap, ap₂, ◌∙◌, arith}
use Rattle.std.specs.Prelude.{All}
use Rattle.std.specs.List.{AllByRecursion, AllWithin, filter, insert}
use Rattle.std.specs.List.Sorted.{ties, IsStableByKey}
use Rattle.std.specs.Ordering.{is_lt, nat_cmp}
use Rattle.std.proofs.lemmas.Bool.{leb-true, leb-false}
use Rattle.std.proofs.lemmas.Bool.Decides.{nat_tests}
use Rattle.std.proofs.lemmas.List.{get_or_append_left, get_or-map, map-append, length-append, length-map}
use Rattle.std.proofs.lemmas.List.Elements.{All-append, All-cons, All-nil, recursion_from_All, filter_agree}
use Rattle.std.proofs.lemmas.List.Sorted.{All-permutation, IsPermutation-insert}
use Rattle.bc_machine.specs.declared.placed.Placed.{Placed}
use Rattle.controller_host.specs.declared.controls.Control.TheVariants as control
use Rattle.controller_host.specs.Values.{InsertionValue}
use Rattle.mil_host.specs.Values.{PutUp}
use Rattle.mil_host.specs.declared.actions.Action.TheVariants as terminal
use Rattle.bc_machine.specs.declared.placed.HostAction.{HostAction}
use Rattle.bc_machine.specs.declared.placed.HostAction.TheVariants.{Terminal, Controller}
use Rattle.bc_machine.specs.declared.action_rows.KeptAction.{KeptAction}
use Rattle.bc_machine.specs.declared.action_rows.KeptAction.TheVariants as kept
use Rattle.bc_machine.specs.declared.action_rows.Row.{Row}
use Rattle.bc_machine.specs.Controller.{placed_at}
use Rattle.bc_machine.specs.Rising.{IsRising, IsParted}
use Rattle.bc_machine.specs.Beside.{BesideLists, IsBehind, IsMore, no_words, no_insert, no_action}
use Rattle.bc_machine.specs.Rows.{action_of, placed_of, all_placed, rows_at, IsKeptAction, IsRow}
use Rattle.bc_machine.specs.Schedules.{AreRising}
use Rattle.bc_machine.proofs.Around.{same_placed}

-- ---- more behind in the lists changes no row

same_at : {X : Type 0} (old new : List X) (place : ℕ) (d : X) → IsBehind old new → place < length old → get_or new place d ≡ get_or old place d
same_at old new place d more less = ap (λ xs. get_or xs place d) more.is ∙ get_or_append_left old more.rest d place less

still_there : {X : Type 0} (old new : List X) (place : ℕ) → IsBehind old new → place < length old → place < length new
still_there old new place more less =
    let long = ap length more.is ∙ length-append old more.rest in
    omega (arith, long, less)

action_more : (old new : BesideLists) (address : ℕ) (k : KeptAction) → IsMore old new → IsKeptAction old k → action_of new address k ≡ action_of old address k
action_more old new address (kept.Word sub word) more is = refl
action_more old new address (kept.Put place) more is = ap (λ (put : PutUp). Terminal address (terminal.Transmit put)) (same_at old.words new.words place no_words more.words is)
action_more old new address (kept.Insert place) more is = ap (λ (x : InsertionValue). Controller (control.Insert x)) (same_at old.inserts new.inserts place no_insert more.inserts is)
action_more old new address (kept.Whole place) more is = same_at old.wholes new.wholes place no_action more.wholes is
action_more old new address (kept.Busy on) more is = refl
action_more old new address (kept.Service on) more is = refl
action_more old new address (kept.Subsystem on) more is = refl
action_more old new address (kept.Fault on) more is = refl
action_more old new address (kept.Control on) more is = refl
action_more old new address (kept.Vector word) more is = refl
action_more old new address (kept.SelfTest word) more is = refl
action_more old new address (kept.Illegal mark) more is = refl
action_more old new address (kept.Legal mark) more is = refl
action_more old new address (kept.Response gap) more is = refl
action_more old new address (kept.Deaf line on) more is = refl
action_more old new address (kept.Mute line on) more is = refl
action_more old new address (kept.IllegalMode mark) more is = refl
action_more old new address (kept.LegalMode mark) more is = refl
action_more old new address (kept.Broadcast on) more is = refl
action_more old new address (kept.Power on) more is = refl
action_more old new address (kept.BitWord word) more is = refl
action_more old new address kept.ServiceOnce more is = refl
action_more old new address (kept.Gap gap) more is = refl
action_more old new address (kept.Ramp ramp) more is = refl

kept_more : (old new : BesideLists) (k : KeptAction) → IsMore old new → IsKeptAction old k → IsKeptAction new k
kept_more old new (kept.Word sub word) more is = is
kept_more old new (kept.Put place) more is = still_there old.words new.words place more.words is
kept_more old new (kept.Insert place) more is = still_there old.inserts new.inserts place more.inserts is
kept_more old new (kept.Whole place) more is = still_there old.wholes new.wholes place more.wholes is
kept_more old new (kept.Busy on) more is = is
kept_more old new (kept.Service on) more is = is
kept_more old new (kept.Subsystem on) more is = is
kept_more old new (kept.Fault on) more is = is
kept_more old new (kept.Control on) more is = is
kept_more old new (kept.Vector word) more is = is
kept_more old new (kept.SelfTest word) more is = is
kept_more old new (kept.Illegal mark) more is = is
kept_more old new (kept.Legal mark) more is = is
kept_more old new (kept.Response gap) more is = is
kept_more old new (kept.Deaf line on) more is = is
kept_more old new (kept.Mute line on) more is = is
kept_more old new (kept.IllegalMode mark) more is = is
kept_more old new (kept.LegalMode mark) more is = is
kept_more old new (kept.Broadcast on) more is = is
kept_more old new (kept.Power on) more is = is
kept_more old new (kept.BitWord word) more is = is
kept_more old new kept.ServiceOnce more is = is
kept_more old new (kept.Gap gap) more is = is
kept_more old new (kept.Ramp ramp) more is = is

all_more : (old new : BesideLists) (rows : List Row) → IsMore old new → AllByRecursion (IsRow old) rows → all_placed new rows ≡ all_placed old rows
all_more old new [] more all = refl
all_more old new (r ∷ rs) more all =
    ap₂ (λ (a : HostAction) (ps : List Placed). record { number = r.number; action = a } ∷ ps) (action_more old new r.address r.kept more all.0) (all_more old new rs more all.1)

same_more : (old new : BesideLists) (rows : List Row) → IsMore old new → All (IsRow old) rows → all_placed new rows ≡ all_placed old rows
same_more old new rows more all = all_more old new rows more (recursion_from_All (IsRow old) rows all)

rows_more : (old new : BesideLists) (rows : List Row) → IsMore old new → All (IsRow old) rows → All (IsRow new) rows
rows_more old new rows more all = λ k d less. kept_more old new (get_or rows k d).kept more (all k d less)

-- ---- a row behind the others, or among them

module _ (old new : BesideLists) (rows : List Row) (row : Row) (more : IsMore old new) (all : All (IsRow old) rows) (is : IsRow new row) where
  pub added_rows : All (IsRow new) (rows ++ row ∷ [])
  added_rows =
      All-append (IsRow new) rows (row ∷ []) (rows_more old new rows more all)
      (All-cons (IsRow new) row [] is (All-nil (IsRow new)))

  pub added_placed : (one : Placed) → placed_of new row ≡ one → all_placed new (rows ++ row ∷ []) ≡ all_placed old rows ++ one ∷ []
  added_placed one same =
      map-append (placed_of new) rows (row ∷ [])
      ∙ ap₂ (λ (ps : List Placed) (p : Placed). ps ++ p ∷ []) (same_more old new rows more all) same

  pub put_rows : (place : ℕ) → All (IsRow new) (insert rows place row)
  put_rows place =
      All-permutation (IsRow new) (row ∷ rows) (insert rows place row) (IsPermutation-insert rows place row)
      (All-cons (IsRow new) row rows is (rows_more old new rows more all))

  pub put_placed : (place : ℕ) (one : Placed) → placed_of new row ≡ one → all_placed new (insert rows place row) ≡ insert (all_placed old rows) place one
  put_placed place one same =
      map_insert place rows
      ∙ ap₂ (λ (ps : List Placed) (p : Placed). insert ps place p) (same_more old new rows more all) same
    where
      map_insert : (i : ℕ) (rs : List Row) → all_placed new (insert rs i row) ≡ insert (all_placed new rs) i (placed_of new row)
      map_insert zero rs = refl
      map_insert (suc i) [] = refl
      map_insert (suc i) (r ∷ rs) = ap (λ (ps : List Placed). placed_of new r ∷ ps) (map_insert i rs)

-- ---- numbers

no_row : Row
no_row = record { number = 0; address = 0; kept = kept.Busy false }

pub placed_get : (beside : BesideLists) (rows : List Row) (k : ℕ) (d : Placed) (e : Row) → k < length rows → get_or (all_placed beside rows) k d ≡ placed_of beside (get_or rows k e)
placed_get beside rows k d e less = get_or-map (placed_of beside) rows k e d less

number_get : (beside : BesideLists) (rows : List Row) (k : ℕ) (d : Placed) (e : Row) → k < length rows → (get_or (all_placed beside rows) k d).number ≡ (get_or rows k e).number
number_get beside rows k d e less = ap (λ (p : Placed). p.number) (placed_get beside rows k d e less)

pub rising_placed : (beside : BesideLists) (rows : List Row) → AreRising rows → IsRising (all_placed beside rows)
rising_placed beside rows rising i j d le less =
    let short : j < length rows = omega (arith, less, length-map rows (placed_of beside)) in
    let first = number_get beside rows i d no_row (omega (arith, le, short)) in
    let second = number_get beside rows j d no_row short in
    omega (arith, first, second, rising i j no_row le short)

pub rising_rows : (beside : BesideLists) (rows : List Row) → IsRising (all_placed beside rows) → AreRising rows
rising_rows beside rows rising i j e le less =
    let d = placed_of beside no_row in
    let first = number_get beside rows i d e (omega (arith, le, less)) in
    let second = number_get beside rows j d e less in
    omega (arith, first, second, rising i j d le (omega (arith, less, length-map rows (placed_of beside))))

pub parted_placed : (beside : BesideLists) (rows : List Row) (number place : ℕ) → place ≤ length rows → AllWithin (λ (r : Row). leb r.number number ≡ true) rows 0 place
    → AllWithin (λ (r : Row). leb r.number number ≡ false) rows place (length rows) → IsParted number place (all_placed beside rows)
parted_placed beside rows number place within before behind = record {
  before = λ k d low high. omega (arith, number_get beside rows k d no_row (omega (arith, high, within)), leb-true _ _ (before k no_row low high));
  behind = λ k d low high.
      let short : k < length rows = omega (arith, high, length-map rows (placed_of beside)) in
      omega (arith, number_get beside rows k d no_row short, leb-false _ _ (behind k no_row low short));
}

-- ---- rows that were sorted

abbrev row_at : ℕ → Row
row_at k = record { number = k; address = 0; kept = kept.Busy false }

alike : (m n : ℕ) → ties (λ x y. is_lt (nat_cmp x y)) m n ≡ eqb n m
alike m n = grind (arith, nat_tests)

at_alike : (k : ℕ) (rows : List Row) → filter (ties (λ (x y : Row). is_lt (nat_cmp x.number y.number)) (row_at k)) rows ≡ rows_at k rows
at_alike k rows = filter_agree _ (λ (r : Row). eqb r.number k) (λ r. alike k r.number) rows

pub sorted_rows : (old new : List Row) → IsStableByKey (λ (r : Row). r.number) nat_cmp old new → (n : ℕ) → rows_at n new ≡ rows_at n old
sorted_rows old new stable n = sym (at_alike n new) ∙ stable (row_at n) ∙ at_alike n old

pub sorted_at : (beside : BesideLists) (old new : List Row) → IsStableByKey (λ (r : Row). r.number) nat_cmp old new → (n : ℕ) → placed_at n (all_placed beside new) ≡ placed_at n (all_placed beside old)
sorted_at beside old new stable n = same_placed n beside new old (sorted_rows old new stable n)
