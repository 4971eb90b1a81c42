use Rattle.std.proofs.Common.{[], ◌++◌}
use Rattle.std.specs.Prelude.{codes}
use Rattle.bench_judge.specs.Junit.{cases, junit, properties, suite_head}
use Rattle.bench_judge.specs.Streaming.{passed_of}
use Rattle.bench_judge.proofs.Putting.{then_put}
use Rattle.bench_judge.proofs.junit.junit_text.Goals as goal

pub returns : goal.returns
unfolding junit
returns g c = λ file known.
    let new = c.extend_from_slice.new.self.items in
    let end = codes "</testsuite>\n" in
    let head = suite_head c.args.judged.verdicts.now in
    let told = cases c.args.judged.file.now c.args.judged.text.now c.args.judged.skips.now c.args.judged.rules.now c.args.judged.verdicts.now (passed_of c.args.judged.origins.now file) in
    let first = rw c.new-text.ensures.items at c.in_ok-put_suite_head.ensures in
    then_put [] c.put_suite_head.new.text.items new head (properties c.args.lost ++ (told ++ end)) first
    (then_put c.put_suite_head.new.text.items c.put_lost.new.text.items new (properties c.args.lost) (told ++ end) c.in_ok-put_lost.ensures
    (then_put c.put_lost.new.text.items c.put_cases.new.text.items new told end (c.in_ok-put_cases.ensures file known) c.in_ok-extend_from_slice.ensures.items))
