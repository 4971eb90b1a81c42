use Rattle.std.proofs.Common.{◌<◌, ◌≤◌, ◌+◌, ◌++◌, ◌∷◌, [], List, length, map, refl, sym, ap, subst, ◌∙◌, arith}
use Rattle.bc_machine.specs.Posting.{with_placed, at_next}
use Rattle.job_moments.specs.Waits.{Awaited}
use Rattle.job_file.specs.declared.job_run.Due.{Due}
use Rattle.job_file.specs.Resolving.{standing, when_of, IsWithin}
use Rattle.job_file.specs.Timed.{Standing}
use Rattle.job_file.proofs.DueLemmas.{done_none, stands, within_one}
use Rattle.job_file.proofs.KeptLemmas.{kept_done, kept_left, placed_is}
use Rattle.job_file.proofs.TakenLemmas.{none_taken, one_taken, within, there_when, done_is, done_now}
use Rattle.job_file.proofs.job_run.JobRun.do_in_front.Goals as goal

-- one is due
pub returns-in-Some-clause-done : goal.returns-in-Some-clause-done
returns-in-Some-clause-done c =
    let r = c.args.self.now in
    let left = c.take_due.new.self.left in
    let due = c.in-Some.due in
    let t = one_taken r c.args.next.now left due (sym c.requires.next) c.requires.kept.made c.in-Some.ensures.taken in
    let there = within r left due t in
    let room : length r.machine.placed < r.machine.capacity = omega (arith, c.requires.kept.room, there) in
    let placed = placed_is c.place.result r.machine c.place.new.self due.action c.place.ensures.placed c.place.ensures.used_up room in
    done_is r left due t c.place.new.self placed ∙ done_now r left due t

pub returns-in-Some-clause-kept : goal.returns-in-Some-clause-kept
returns-in-Some-clause-kept c =
    let r = c.args.self.now in
    let left = c.take_due.new.self.left in
    let due = c.in-Some.due in
    let t = one_taken r c.args.next.now left due (sym c.requires.next) c.requires.kept.made c.in-Some.ensures.taken in
    let there = within r left due t in
    let room : length r.machine.placed < r.machine.capacity = omega (arith, c.requires.kept.room, there) in
    let placed = placed_is c.place.result r.machine c.place.new.self due.action c.place.ensures.placed c.place.ensures.used_up room in
    kept_done r _ t.place due.action c.requires.kept there placed c.place.ensures.under_way t.others c.take_due.ensures.made refl refl

pub returns-in-Some-clause-within : goal.returns-in-Some-clause-within
returns-in-Some-clause-within c addresses most inside =
    let r = c.args.self.now in
    let left = c.take_due.new.self.left in
    let due = c.in-Some.due in
    let t = one_taken r c.args.next.now left due (sym c.requires.next) c.requires.kept.made c.in-Some.ensures.taken in
    let there = within r left due t in
    let room : length r.machine.placed < r.machine.capacity = omega (arith, c.requires.kept.room, there) in
    let placed = placed_is c.place.result r.machine c.place.new.self due.action c.place.ensures.placed c.place.ensures.used_up room in
    let few : r.machine.point.number + 1 ≤ 1000000 = omega (arith, c.requires.few) in
    subst (λ (s : Standing). IsWithin addresses most s) (sym (done_is r left due t c.place.new.self placed))
    (within_one addresses most (standing r) t.place (when_of t.one) (there_when r left due t) few inside)

pub returns-in-Some-clause-placed : goal.returns-in-Some-clause-placed
returns-in-Some-clause-placed c =
    let r = c.args.self.now in
    let left = c.take_due.new.self.left in
    let due = c.in-Some.due in
    let t = one_taken r c.args.next.now left due (sym c.requires.next) c.requires.kept.made c.in-Some.ensures.taken in
    let there = within r left due t in
    let room : length r.machine.placed < r.machine.capacity = omega (arith, c.requires.kept.room, there) in
    placed_is c.place.result r.machine c.place.new.self due.action c.place.ensures.placed c.place.ensures.used_up room
    ∙ ap (λ (d : Due). with_placed r.machine (r.machine.placed ++ at_next r.machine d.action ∷ [])) (sym c.copy-placed.ensures)

-- none is
pub returns-in-None-clause-done : goal.returns-in-None-clause-done
returns-in-None-clause-done c =
    let r = c.args.self.now in
    let none = none_taken r c.args.next.now c.take_due.new.self.left (sym c.requires.next) c.requires.kept.made c.in-None.ensures.taken in
    ap (λ (ls : List (Awaited Due)). stands (map when_of ls) r.machine) none.same ∙ sym (done_none (standing r) none.due)

pub returns-in-None-clause-none : goal.returns-in-None-clause-none
returns-in-None-clause-none c =
    let none = none_taken c.args.self.now c.args.next.now c.take_due.new.self.left (sym c.requires.next) c.requires.kept.made c.in-None.ensures.taken in
    none.due

pub returns-in-None-clause-kept : goal.returns-in-None-clause-kept
returns-in-None-clause-kept c =
    let r = c.args.self.now in
    let none = none_taken r c.args.next.now c.take_due.new.self.left (sym c.requires.next) c.requires.kept.made c.in-None.ensures.taken in
    kept_left r c.take_due.new.self c.requires.kept none.same c.take_due.ensures.made

pub returns-in-None-clause-within : goal.returns-in-None-clause-within
returns-in-None-clause-within c addresses most inside =
    let r = c.args.self.now in
    let none = none_taken r c.args.next.now c.take_due.new.self.left (sym c.requires.next) c.requires.kept.made c.in-None.ensures.taken in
    let same = ap (λ (ls : List (Awaited Due)). stands (map when_of ls) r.machine) none.same in
    subst (λ (s : Standing). IsWithin addresses most s) (sym same) inside
