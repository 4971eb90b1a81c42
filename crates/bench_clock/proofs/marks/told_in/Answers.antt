use Rattle.std.proofs.Common.{ap, ◌∙◌}
use Rattle.bench_clock.specs.TimeBody.{packet_time}
use Rattle.bench_clock.proofs.Rises.{told_time}
use Rattle.bench_clock.proofs.marks.told_in.Goals as goal

pub returns : goal.returns
returns c = told_time c.args.named c.args.header.now c.args.bytes.now c.read_time.result (cc) (c.read_time.ensures ∙ ap packet_time c.body_in.ensures)
