use Rattle.bench_judge.proofs.Showing.{rule_written}
use Rattle.bench_judge.proofs.colored.write_rule.Goals as goal

pub returns : goal.returns
returns g c =
    rule_written c.args.name.now c.args.rule.now.check c.args.verdict.now (g.W.Write.contents c.args.out.now) (g.W.Write.contents c.write_all.new.self) (g.W.Write.contents c.write_all-2.new.self) (g.W.Write.contents c.write_more.new.out) c.put_rule.new.text.items
    c.in_ok-shown.shown.items (rw c.new-text.ensures.items at c.in_ok-put_rule.ensures) c.in_ok-shown.ensures (rw c.as_slice.ensures.value at c.in_ok-write_all.ensures.bytes) (rw c.as_slice-2.ensures.value at c.in_ok-write_all-2.ensures.bytes) c.in_ok-write_more.ensures
