use Rattle.std.proofs.Common.{◌++◌}
use Rattle.ch11_layout.specs.Stamps.{kind_of}
use Rattle.bench_export.specs.Changes.{changes_among}
use Rattle.bench_export.proofs.Waiting.{more_wait}
use Rattle.bench_export.proofs.merging.Merge.take_packet.Goals as goal

pub returns-clause-merging : goal.returns-clause-merging
returns-clause-merging g c first got so_far m =
    let more = changes_among c.args.selection.now (kind_of c.args.packet.now.header) c.args.packet.now.before c.args.packet.now.header.channel c.args.messages in
    c.in_ok-write_many.ensures.merging first got (so_far ++ more)
    (rw (← c.in_ok-push_messages.ensures) at (more_wait first c.args.self.now.lag c.args.self.now.last c.args.self.now.lines.shown.items got (g.W.Write.contents c.args.out.now) so_far c.args.self.now.waiting.items more m))
