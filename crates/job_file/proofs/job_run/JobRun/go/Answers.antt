use Rattle.std.proofs.Common.{◌<◌, ◌+◌, List, refl, ap, ◌∙◌, arith}
use Rattle.job_moments.specs.Planning.{PlannedFault}
use Rattle.job_file.specs.Resolving.{standing, turns_left}
use Rattle.job_file.specs.Timed.{turned}
use Rattle.job_file.proofs.RunLemmas.{one_turn_more}
use Rattle.job_file.proofs.job_run.JobRun.go.Goals as goal

pub turns-init : goal.turns-init
turns-init c = record {
  turns = 0;
  turned = refl;
  few = omega arith;
  faults = refl;
  kept = c.requires.kept;
  planned = c.requires.planned;
  within = λ addresses most within. within;
}

pub turns-preserved : goal.turns-preserved
turns-preserved c =
    let from = c.args.self.now in
    let i = c.turns.invariant in
    let e = c.in_ok-goes_on.ensures in
    let less : turns_left c.turn.new.self.machine < turns_left c.turns.self.machine = e.less (cc) in
    let more = e.turned ∙ ap (λ (fs : List PlannedFault). turned fs (standing c.turns.self)) i.faults in
    record {
      turns = i.turns + 1;
      turned = one_turn_more from.faults.faults (standing from) (standing c.turns.self) (standing c.turn.new.self) i.turns i.turned more;
      few = omega (arith, i.few, less);
      faults = e.faults ∙ i.faults;
      kept = e.kept;
      planned = e.planned;
      within = λ addresses most within. e.within addresses most (i.within addresses most within);
    }

pub turns-smaller : goal.turns-smaller
turns-smaller c = c.in_ok-goes_on.ensures.less (cc)

pub returns-then-not-goes_on-clause-ended : goal.returns-then-not-goes_on-clause-ended
returns-then-not-goes_on-clause-ended c =
    let from = c.args.self.now in
    let i = c.turns.invariant in
    let e = c.in_ok-goes_on.ensures in
    let more = e.turned ∙ ap (λ (fs : List PlannedFault). turned fs (standing c.turns.self)) i.faults in
    record {
      turns = i.turns + 1;
      is = one_turn_more from.faults.faults (standing from) (standing c.turns.self) (standing c.turn.new.self) i.turns i.turned more;
      few = omega (arith, i.few);
      ended = e.ended (cc);
    }

pub returns-then-not-goes_on-clause-within : goal.returns-then-not-goes_on-clause-within
returns-then-not-goes_on-clause-within c addresses most within =
    c.in_ok-goes_on.ensures.within addresses most (c.turns.invariant.within addresses most within)
