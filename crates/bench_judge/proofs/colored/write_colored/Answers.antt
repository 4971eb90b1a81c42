use Rattle.bench_dump.proofs.Packets.{kept}
use Rattle.bench_judge.proofs.Showing.{all_written}
use Rattle.bench_judge.proofs.colored.write_colored.Goals as goal

pub returns : goal.returns
returns g c = λ many.
    all_written c.args.judged.text.now c.args.judged.rules.now c.args.judged.verdicts.now (g.W.Write.contents c.args.out.now) (g.W.Write.contents c.write_rules.new.out) (g.W.Write.contents c.flush.new.self) c.put_last.new.text.items (c.in_ok-write_rules.ensures many) (rw c.new-text.ensures.items at c.in_ok-put_last.ensures)
    (kept (g.W.Write.contents c.write_rules.new.out) (g.W.Write.contents c.write_all.new.self) (g.W.Write.contents c.flush.new.self) c.put_last.new.text.items (rw c.as_slice.ensures.value at c.in_ok-write_all.ensures.bytes) c.in_ok-flush.ensures.bytes)
