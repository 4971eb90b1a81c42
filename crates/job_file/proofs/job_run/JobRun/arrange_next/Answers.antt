use Rattle.std.proofs.Common.{◌≡◌, ◌<◌, ◌≤◌, length, refl, sym, ap, subst, ◌∙◌, arith}
use Rattle.std.specs.Prelude.{Option, None, IfSome}
use Rattle.bc_machine.specs.Running.{MachineState}
use Rattle.std.proofs.lemmas.List.{length-map}
use Rattle.job_file.specs.Resolving.{standing, when_of}
use Rattle.job_file.specs.Timed.{Standing, coming_met, due_now, done_at, done_times}
use Rattle.job_file.proofs.ComingLemmas.{coming_with_action, few_placed}
use Rattle.job_file.proofs.DueLemmas.{done_none, all_done, arranged_is, one_time_more}
use Rattle.job_file.proofs.job_run.JobRun.arrange_next.Goals as goal

pub times-init : goal.times-init
times-init c = record {
  next = c.next-next.ensures.next;
  few = c.next-next.ensures.few;
  done = refl;
  faults = refl;
  kept = c.requires;
  within = λ addresses most within. within;
}

pub do_at-requires-clause-next : goal.do_at-requires-clause-next
do_at-requires-clause-next c = c.times.invariant.next

pub do_at-requires-clause-few : goal.do_at-requires-clause-few
do_at-requires-clause-few c = c.times.invariant.few

-- one was due
pub next_behind-next-requires-clause-few : goal.next_behind-next-requires-clause-few
next_behind-next-requires-clause-few c =
    few_placed c.times.self.machine c.do_at.new.self.machine c.in-Some.due.action c.in-Some.ensures.placed c.in-Some.ensures.few

pub next_behind-next-requires-clause-still : goal.next_behind-next-requires-clause-still
next_behind-next-requires-clause-still c address action terminal =
    c.times.invariant.next
    ∙ sym (coming_with_action c.next_message_stays.ensures.actions c.times.self.machine c.do_at.new.self.machine c.in-Some.due.action address action
    c.in-Some.ensures.placed terminal)

pub times-preserved : goal.times-preserved
times-preserved c =
    let from = standing c.args.self.now in
    let i = c.times.invariant in
    let e = c.in-Some.ensures in
    record {
      next = c.next_behind-next.ensures.next;
      few = c.next_behind-next.ensures.few;
      done = e.done ∙ ap (λ (s : Standing). done_at (due_now s) s) i.done ∙ sym (one_time_more from c.times.time);
      faults = e.faults ∙ i.faults;
      kept = e.kept;
      within = λ addresses most within. e.within addresses most (i.within addresses most within);
    }

-- none is any more
pub returns-in-None-clause-next : goal.returns-in-None-clause-next
returns-in-None-clause-next c =
    c.times.invariant.next ∙ sym (ap coming_met c.in-None.ensures.still)

pub returns-in-None-clause-few : goal.returns-in-None-clause-few
returns-in-None-clause-few c =
    subst (λ (m : MachineState). IfSome c.times.next (λ _. m.point.number < 1000000)) (sym c.in-None.ensures.still) c.times.invariant.few

pub returns-in-None-clause-arranged : goal.returns-in-None-clause-arranged
returns-in-None-clause-arranged c =
    let from = standing c.args.self.now in
    let here = standing c.times.self in
    let i = c.times.invariant in
    let none : due_now here ≡ None = c.in-None.ensures.none in
    let none_there : due_now (done_times c.times.time from) ≡ None = subst (λ (s : Standing). due_now s ≡ None) i.done none in
    let long = length-map c.args.self.now.whens.left when_of in
    let within : c.times.time ≤ length from.left = omega (arith, long) in
    c.in-None.ensures.done ∙ done_none here none ∙ i.done ∙ sym (all_done from c.times.time within none_there)

pub returns-in-None-clause-faults : goal.returns-in-None-clause-faults
returns-in-None-clause-faults c = c.in-None.ensures.faults ∙ c.times.invariant.faults

pub returns-in-None-clause-within : goal.returns-in-None-clause-within
returns-in-None-clause-within c addresses most within =
    c.in-None.ensures.within addresses most (c.times.invariant.within addresses most within)

-- all were done
pub returns-clause-arranged : goal.returns-clause-arranged
returns-clause-arranged c =
    let long = length-map c.args.self.now.whens.left when_of in
    c.times.invariant.done ∙ sym (arranged_is (standing c.args.self.now) c.times.time (omega (arith, long)))
