use Rattle.std.proofs.Common.{◌++◌}
use Rattle.bench_core.specs.Bench.{begun, after_steps}
use Rattle.bench_core.proofs.Steps.{at_first, after_all}
use Rattle.bench_core.proofs.Reading.{settled_channels, reads_back}
use Rattle.bench_core.proofs.laws.bench_is_settled.Goals as goal

pub returns-clause-settled : goal.returns-clause-settled
returns-clause-settled c channels capacity steps all distinct =
    let is = after_all (begun capacity channels) steps (at_first capacity channels all distinct) in
    let b = after_steps steps (begun capacity channels) in
    settled_channels (b.taken ++ b.queue) b.channels is.channels

pub returns-clause-read : goal.returns-clause-read
returns-clause-read c channels capacity steps f prologue all distinct good first recorded =
    let r = c.recording_is_read_again.ensures in
    reads_back r.read r.kept f prologue (after_steps steps (begun capacity channels)) good first
    (after_all (begun capacity channels) steps (at_first capacity channels all distinct)) recorded
