-- What is due in front of a message, and is done there.
use Rattle.std.proofs.Common.{◌≡◌, ℕ, zero, suc, ◌+◌, ◌-◌, ◌≤◌, zero-add, add-one, true, false, List, [], ◌∷◌, ◌++◌, length, refl, sym, ap, subst, ◌∙◌, arith}
use Rattle.std.specs.Prelude.{Bool, Option, Some, None, ◌&&◌, nat_le, slice_get}
use Rattle.std.specs.List.{list_all, filter_map, cons_option, position, remove}
use Rattle.std.proofs.lemmas.Bool.{le-leb}
use Rattle.std.proofs.lemmas.List.{length-append}
use Rattle.std.proofs.lemmas.List.Folds.{list_all-append}
use Rattle.std.proofs.lemmas.List.Elements.{filter_map-append}
use Rattle.controller_host.specs.Values.{InsertionValue}
use Rattle.bc_machine.specs.declared.placed.Placed.{Placed}
use Rattle.bc_machine.specs.declared.placed.HostAction.{HostAction}
use Rattle.bc_machine.specs.Hosting.{insertion_of}
use Rattle.bc_machine.specs.Posting.{with_placed, at_next}
use Rattle.bc_machine.specs.Running.{MachineState}
use Rattle.job_moments.specs.declared.met.Met.{Met}
use Rattle.job_moments.specs.Moments.{is_due}
use Rattle.job_file.specs.declared.timed.TimedAction.{TimedAction}
use Rattle.job_file.specs.JobRanges.{is_for, may_act}
use Rattle.job_file.specs.Jobs.{own_inserts}
use Rattle.job_file.specs.Resolving.{IsWithin}
use Rattle.job_file.specs.Timed.{Standing, made_of, coming_met, first_due_in, with_action_now, due_now, done_at, done_times, arranged}
use Rattle.job_file.specs.TimedLines.{timed_inserts}

-- ---- one is left out

and_first : (a b : Bool) → (a && b) ≡ true → a ≡ true
and_first true b h = refl
and_first false b h = cc

and_rest : (a b : Bool) → (a && b) ≡ true → b ≡ true
and_rest true b h = h
and_rest false b h = cc

both_true : (a b : Bool) → a ≡ true → b ≡ true → (a && b) ≡ true
both_true a b e f = rw (e, f) refl

pub all_but : {X : Type 0} (p : X → Bool) (xs : List X) (i : ℕ) → list_all p xs ≡ true → list_all p (remove xs i) ≡ true
all_but p [] zero h = refl
all_but p [] (suc i) h = refl
all_but p (x ∷ xs) zero h = and_rest (p x) (list_all p xs) h
all_but p (x ∷ xs) (suc i) h =
    both_true (p x) (list_all p (remove xs i)) (and_first (p x) (list_all p xs) h) (all_but p xs i (and_rest (p x) (list_all p xs) h))

pub one_of_all : {X : Type 0} (p : X → Bool) (xs : List X) (i : ℕ) (x : X) → list_all p xs ≡ true → slice_get xs i ≡ Some x → p x ≡ true
one_of_all p [] i x h e = absurd cc
one_of_all p (y ∷ ys) zero x h e = let same : y ≡ x = cc in subst (λ z. p z ≡ true) same (and_first (p y) (list_all p ys) h)
one_of_all p (y ∷ ys) (suc i) x h e = one_of_all p ys i x (and_rest (p y) (list_all p ys) h) e

-- how many messages one action has inserted
abbrev pub inserts_by : HostAction → ℕ
inserts_by action = length (cons_option (insertion_of action) [])

one_more : (o : Option InsertionValue) (xs : List InsertionValue) → length (cons_option o xs) ≡ length xs + length (cons_option o [])
one_more None xs = omega arith
one_more (Some x) xs = omega arith

pub inserts_but : (ws : List TimedAction) (i : ℕ) (w : TimedAction) → slice_get ws i ≡ Some w → timed_inserts ws ≡ timed_inserts (remove ws i) + inserts_by w.action
inserts_but [] i w e = absurd cc
inserts_but (v ∷ vs) zero w e =
    let same : v ≡ w = cc in
    one_more (insertion_of v.action) (filter_map (λ (u : TimedAction). insertion_of u.action) vs) ∙ ap (λ (u : TimedAction). timed_inserts vs + inserts_by u.action) same
inserts_but (v ∷ vs) (suc i) w e =
    let more = one_more (insertion_of v.action) (filter_map (λ (u : TimedAction). insertion_of u.action) vs) in
    let less = one_more (insertion_of v.action) (filter_map (λ (u : TimedAction). insertion_of u.action) (remove vs i)) in
    let rest = inserts_but vs i w e in
    omega (arith, more, less, rest)

pub own_more : (placed : List Placed) (one : Placed) → own_inserts (placed ++ one ∷ []) ≡ own_inserts placed + inserts_by one.action
own_more placed one =
    ap length (filter_map-append (λ (p : Placed). insertion_of p.action) placed (one ∷ []))
    ∙ length-append (filter_map (λ (p : Placed). insertion_of p.action) placed) (cons_option (insertion_of one.action) [])

-- ---- which is due

-- where no message comes next
pub none_comes : (s : Standing) → coming_met s.machine ≡ None → due_now s ≡ None
none_comes s e = ap (first_due_in s.left (made_of s.machine)) e

pub due_is : (s : Standing) (next : Met) (o : Option ℕ) → coming_met s.machine ≡ Some next → position (λ (w : TimedAction). is_due (made_of s.machine) next w.moment) s.left ≡ o → due_now s ≡ o
due_is s next o comes is = ap (first_due_in s.left (made_of s.machine)) comes ∙ is

-- where none is due, nothing is done
pub done_none : (s : Standing) → due_now s ≡ None → done_at (due_now s) s ≡ s
done_none s e = ap (λ o. done_at o s) e

-- a controller and what is still to come
abbrev pub stands : List TimedAction → MachineState → Standing
stands left m = record { left = left; machine = m }

-- where one was done
abbrev pub with_done : Standing → ℕ → TimedAction → Standing
with_done s place w = record {
  left = remove s.left place;
  machine = with_placed s.machine (s.machine.placed ++ at_next s.machine w.action ∷ []);
}

pub done_one : (s : Standing) (place : ℕ) (w : TimedAction) → slice_get s.left place ≡ Some w → done_at (Some place) s ≡ with_done s place w
done_one s place w there = at_place (slice_get s.left place) there
  where
    at_place : (o : Option TimedAction) → o ≡ Some w → stands (remove s.left place) (with_action_now o s.machine) ≡ with_done s place w
    at_place o e = ap (λ (v : Option TimedAction). stands (remove s.left place) (with_action_now v s.machine)) e

-- it is of one of the terminals, and counts among the messages that are inserted
pub within_one : (addresses : List ℕ) (most : ℕ) (s : Standing) (place : ℕ) (w : TimedAction) → slice_get s.left place ≡ Some w → s.machine.point.number + 1 ≤ 1000000
    → IsWithin addresses most s → IsWithin addresses most (with_done s place w)
within_one addresses most s place w there few within =
    let one : Placed = at_next s.machine w.action in
    let for_it : is_for addresses w.action ≡ true = one_of_all (λ (v : TimedAction). is_for addresses v.action) s.left place w within.left there in
    let number = s.machine.point.number + 1 in
    let low : nat_le 1 number ≡ true = le-leb 1 (s.machine.point.number + 1) (omega arith) in
    let high : nat_le number 1000000 ≡ true = le-leb (s.machine.point.number + 1) 1000000 few in
    let acts : may_act addresses one ≡ true = both_true (nat_le 1 number && nat_le number 1000000) (is_for addresses w.action) (both_true (nat_le 1 number) (nat_le number 1000000) low high) for_it in
    let alone : list_all (may_act addresses) (one ∷ []) ≡ true = both_true (may_act addresses one) true acts refl in
    record {
      placed = list_all-append (may_act addresses) s.machine.placed (one ∷ []) ∙ both_true (list_all (may_act addresses) s.machine.placed) (list_all (may_act addresses) (one ∷ [])) within.placed alone;
      left = all_but (λ (v : TimedAction). is_for addresses v.action) s.left place within.left;
      few = omega (arith, own_more s.machine.placed (at_next s.machine w.action), inserts_but s.left place w there, within.few);
    }

-- ---- all that is due

-- behind a time where nothing was due, none is done
stays : (s : Standing) (n k : ℕ) → due_now (done_times n s) ≡ None → done_times (k + n) s ≡ done_times n s
stays s n zero e = ap (λ m. done_times m s) (zero-add n)
stays s n (suc k) e =
    let on : suc k + n ≡ suc (k + n) = omega arith in
    let same : done_times (k + n) s ≡ done_times n s = stays s n k e in
    ap (λ m. done_times m s) on ∙ ap (λ (v : Standing). done_at (due_now v) v) same ∙ done_none (done_times n s) e

pub all_done : (s : Standing) (n : ℕ) → n ≤ length s.left → due_now (done_times n s) ≡ None → arranged s ≡ done_times n s
unfolding arranged
all_done s n le e =
    let more : length s.left ≡ (length s.left - n) + n = omega (arith, le) in
    ap (λ m. done_times m s) more ∙ stays s n (length s.left - n) e

pub arranged_is : (s : Standing) (n : ℕ) → n ≡ length s.left → arranged s ≡ done_times n s
unfolding arranged
arranged_is s n e = ap (λ m. done_times m s) (sym e)

pub one_time_more : (s : Standing) (n : ℕ) → done_times (n + 1) s ≡ done_at (due_now (done_times n s)) (done_times n s)
one_time_more s n = ap (λ m. done_times m s) (add-one n)
