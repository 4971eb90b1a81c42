use Rattle.bench_export.proofs.Dumping.{head_put}
use Rattle.bench_export.proofs.heads.put_head.Goals as goal

pub returns : goal.returns
returns c given present first =
    head_put c.args.text.now.items _ _ _ _ _ c.args.marks.now given present c.in_ok-put_notes.ensures
    c.in_ok-put_channels.ensures (rw first at c.in_ok-put_start.ensures) c.in_ok-put_channels-2.ensures c.in_ok-extend_from_slice.ensures.items
