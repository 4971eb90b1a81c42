use Rattle.std.proofs.Common.{◌≡◌, ◌+◌, ◌-◌, sym, ◌∙◌, arith}
use Rattle.mil_bus.specs.Exchange.{runs}
use Rattle.mil_bus.proofs.OneRun.{runs-none}
use Rattle.mil_bus.proofs.runs.all_runs.Goals as goal

pub returns-then-not-turn : goal.returns-then-not-turn
returns-then-not-turn c =
    let e : 40 - c.loop-run.run ≡ (39 - c.loop-run.run) + 1 = omega arith in
    sym (runs-none (39 - c.loop-run.run) c.args.line c.args.faults.now (c.loop-run.run + 1) _) ∙ c.if-not-turn.ensures (39 - c.loop-run.run) ∙ (rw e at c.loop-run.invariant)

pub returns : goal.returns
unfolding runs
returns c =
    let e : 40 - c.loop-run.run ≡ 0 = omega arith in
    rw e at c.loop-run.invariant
