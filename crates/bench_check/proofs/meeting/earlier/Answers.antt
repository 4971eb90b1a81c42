use Rattle.std.proofs.Common.{◌≡◌, arith}
use Rattle.std.proofs.lemmas.Grind.{common_steps}
use Rattle.std.specs.List.{filter}
use Rattle.mil_line.specs.Ranges.{is_in_range}
use Rattle.bench_check.specs.Meeting.{is_before}
use Rattle.bench_check.proofs.Filtered.{all_kept}
use Rattle.bench_check.proofs.meeting.earlier.Goals as goal

pub returns-clause-in_range : goal.returns-clause-in_range
returns-clause-in_range c =
    let kept : c.loop-fault.kept.items ≡ filter (is_before c.args.run) c.args.faults.now = grind (arith, common_steps) in
    rw kept (all_kept is_in_range (is_before c.args.run) c.args.faults.now c.requires)
