use Rattle.std.proofs.Common.{◌++◌}
use Rattle.std.specs.Prelude.{codes}
use Rattle.bench_judge.specs.Junit.{missing}
use Rattle.bench_judge.specs.Losses.{lost_text}
use Rattle.bench_judge.proofs.Putting.{then_put}
use Rattle.bench_judge.proofs.junit.put_missing.Goals as goal

pub returns : goal.returns
unfolding missing
returns c =
    let new = c.extend_from_slice-2.new.self.items in
    let end = codes "\"/>\n  </properties>\n" in
    then_put c.args.text.now.items c.extend_from_slice.new.self.items new (codes "  <properties>\n    <property name=\"messages missing\" value=\"") (lost_text c.args.lost ++ end) c.in_ok-extend_from_slice.ensures.items
    (then_put c.extend_from_slice.new.self.items c.put_counts.new.text.items new (lost_text c.args.lost) end c.in_ok-put_counts.ensures c.in_ok-extend_from_slice-2.ensures.items)
