use Rattle.bench_stat.proofs.Telling.{told_here}
use Rattle.bench_stat.proofs.told.Told.note_packet.Goals as goal

pub returns : goal.returns
returns c = λ shown ps q b is.
    told_here shown c.args.selection.now ps q c.args.packet.now c.args.messages c.args.self.now _ b is c.note.ensures (rw c.of-kind.ensures at (c.count_selected.ensures shown))
