use Rattle.std.proofs.Common.{◌≡◌, add-one, arith}
use Rattle.std.proofs.KnownBytes.{Appends-trans}
use Rattle.mil_word.specs.Fields.{highest_put_up}
use Rattle.bench_state.specs.RampText.{ramp_lines}
use Rattle.bench_state.proofs.ramps.print_ramps.Goals as goal

pub loop-before-preserved : goal.loop-before-preserved
loop-before-preserved g c =
    rw add-one (Appends-trans (g.W.Write.contents c.args.out.now) (g.W.Write.contents c.loop-before.out) (g.W.Write.contents c.print_line.new.out) _ _ c.loop-before.invariant (rw add-one at c.in_ok-print_line.ensures))

pub returns : goal.returns
unfolding ramp_lines
returns g c =
    let done : c.loop-before.before ≡ highest_put_up = omega arith in
    rw done at c.loop-before.invariant
