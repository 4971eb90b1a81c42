-- What is taken out in front of a message, of the actions that are still to come.
use Rattle.std.proofs.Common.{◌≡◌, ℕ, zero, suc, ◌<◌, ◌≤◌, List, [], ◌∷◌, ◌++◌, length, map, refl, sym, ap, ◌∙◌, arith}
use Rattle.std.specs.Prelude.{Option, Some, None, slice_get}
use Rattle.std.specs.List.{position, remove}
use Rattle.std.specs.Option.{option_map}
use Rattle.std.proofs.lemmas.List.{length-map}
use Rattle.std.proofs.lemmas.List.Quantifiers.{position-Some}
use Rattle.std.proofs.lemmas.Option.{slice_get-map, slice_get_within}
use Rattle.bc_machine.specs.declared.placed.HostAction.{HostAction}
use Rattle.bc_machine.specs.Posting.{with_placed, at_next}
use Rattle.bc_machine.specs.Running.{MachineState}
use Rattle.job_moments.specs.declared.met.Met.{Met}
use Rattle.job_moments.specs.declared.moments.Moment.TheVariants.{Time}
use Rattle.job_moments.specs.Moments.{is_due}
use Rattle.job_moments.specs.Waits.{Awaited, first_due, moments_of, given_at, left_at, Taken}
use Rattle.job_moments.proofs.Lists.{position-map, map-remove}
use Rattle.job_file.specs.declared.timed.TimedAction.{TimedAction}
use Rattle.job_file.specs.declared.job_run.Due.{Due}
use Rattle.job_file.specs.declared.job_run.JobRun.{JobRun}
use Rattle.job_file.specs.Resolving.{standing, when_of, whens_left}
use Rattle.job_file.specs.Timed.{made_of, coming_met, due_now, done_at}
use Rattle.job_file.proofs.DueLemmas.{due_is, stands, with_done, done_one}

-- ---- which is due

-- the moments find the same place as the actions
place_is : (made : List Met) (next : Met) (left : List (Awaited Due))
    → first_due made next (moments_of left)
    ≡ position (λ (w : TimedAction). is_due made next w.moment) (map when_of left)
place_is made next left =
    position-map (λ (a : Awaited Due). a.moment) (is_due made next) left
    ∙ sym (position-map when_of (λ (w : TimedAction). is_due made next w.moment) left)

due_first : (r : JobRun) (next : Met) → coming_met r.machine ≡ Some next → r.whens.made ≡ made_of r.machine
    → due_now (standing r) ≡ first_due r.whens.made next (moments_of r.whens.left)
due_first r next comes made =
    let due = λ (ms : List Met). position (λ (w : TimedAction). is_due ms next w.moment) (whens_left r.whens) in
    due_is (standing r) next (due (made_of r.machine)) comes refl
    ∙ sym (ap due made)
    ∙ sym (place_is r.whens.made next r.whens.left)

-- ---- where none is

absent : (left : List (Awaited Due)) (i : ℕ) → slice_get left i ≡ None → length left ≤ i
absent [] i e = omega arith
absent (a ∷ rest) zero e = absurd cc
absent (a ∷ rest) (suc i) e = let behind = absent rest i e in omega (arith, behind)

none_at : (made : List Met) (next : Met) (old : List (Awaited Due)) (o : Option ℕ)
    → first_due made next (moments_of old) ≡ o → None ≡ given_at o old → o ≡ None
none_at made next old None e first = refl
none_at made next old (Some place) e first = none_there (slice_get old place) refl first
  where
    none_there : (g : Option (Awaited Due)) → slice_get old place ≡ g
        → None ≡ option_map (λ (a : Awaited Due). a.payload) g → Some place ≡ None
    none_there None there is =
        let within = (position-Some (is_due made next) (moments_of old) place (Time 0) e).0 in
        let long = length-map old (λ (a : Awaited Due). a.moment) in
        absurd (omega (arith, within, long, absent old place there))
    none_there (Some one) there is = absurd cc

pub record IsLeft (r : JobRun) (left : List (Awaited Due)) : Type 0 where
  pub due : due_now (standing r) ≡ None
  pub same : left ≡ r.whens.left

pub none_taken : (r : JobRun) (next : Met) (left : List (Awaited Due)) → coming_met r.machine ≡ Some next
    → r.whens.made ≡ made_of r.machine → Taken r.whens.made next r.whens.left left None → IsLeft r left
none_taken r next left comes made taken =
    let found = first_due r.whens.made next (moments_of r.whens.left) in
    let none : found ≡ None = none_at r.whens.made next r.whens.left found refl taken.first in
    record {
      due = due_first r next comes made ∙ none;
      same = taken.others ∙ ap (λ (o : Option ℕ). left_at o r.whens.left) none;
    }

-- ---- where one is

pub record IsTaken (r : JobRun) (left : List (Awaited Due)) (given : Due) : Type 0 where
  pub place : ℕ
  pub one : Awaited Due
  pub due : due_now (standing r) ≡ Some place
  pub there : slice_get r.whens.left place ≡ Some one
  pub others : left ≡ remove r.whens.left place
  pub is : one.payload ≡ given

taken_at : (r : JobRun) (left : List (Awaited Due)) (due : Due) (o : Option ℕ) → due_now (standing r) ≡ o
    → Some due ≡ given_at o r.whens.left → left ≡ left_at o r.whens.left → IsTaken r left due
taken_at r left due None found first others = absurd cc
taken_at r left due (Some place) found first others = one_there (slice_get r.whens.left place) refl first
  where
    one_there : (g : Option (Awaited Due)) → slice_get r.whens.left place ≡ g
        → Some due ≡ option_map (λ (a : Awaited Due). a.payload) g → IsTaken r left due
    one_there None there given = absurd cc
    one_there (Some one) there given =
        let same : one.payload ≡ due = cc in
        record { place = place; one = one; due = found; there = there; others = others; is = same }

pub one_taken : (r : JobRun) (next : Met) (left : List (Awaited Due)) (due : Due)
    → coming_met r.machine ≡ Some next → r.whens.made ≡ made_of r.machine
    → Taken r.whens.made next r.whens.left left (Some due) → IsTaken r left due
one_taken r next left due comes made taken =
    taken_at r left due (first_due r.whens.made next (moments_of r.whens.left)) (due_first r next comes made)
    taken.first taken.others

-- an action is placed at the next number
abbrev placed_now : MachineState → HostAction → MachineState
placed_now m action = with_placed m (m.placed ++ at_next m action ∷ [])

module _ (r : JobRun) (left : List (Awaited Due)) (due : Due) (t : IsTaken r left due) where
  pub within : t.place < length r.whens.left
  within = slice_get_within r.whens.left t.place t.one t.there

  pub there_when : slice_get (whens_left r.whens) t.place ≡ Some (when_of t.one)
  there_when = slice_get-map when_of r.whens.left t.place ∙ ap (option_map when_of) t.there

  -- where it is placed, it is done
  pub done_is : (m : MachineState) → m ≡ placed_now r.machine due.action
      → stands (map when_of left) m ≡ with_done (standing r) t.place (when_of t.one)
  done_is m placed =
      ap (λ (v : MachineState). stands (map when_of left) v) placed
      ∙ ap (λ (ls : List (Awaited Due)). stands (map when_of ls) (placed_now r.machine due.action)) t.others
      ∙ ap (λ (ws : List TimedAction). stands ws (placed_now r.machine due.action))
      (map-remove when_of r.whens.left t.place)
      ∙ sym (ap (λ (d : Due). stands (remove (whens_left r.whens) t.place) (placed_now r.machine d.action)) t.is)

  pub done_now : with_done (standing r) t.place (when_of t.one) ≡ done_at (due_now (standing r)) (standing r)
  done_now =
      sym (done_one (standing r) t.place (when_of t.one) there_when)
      ∙ sym (ap (λ (o : Option ℕ). done_at o (standing r)) t.due)
