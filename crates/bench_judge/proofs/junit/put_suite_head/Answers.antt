use Rattle.std.proofs.Common.{◌++◌, length}
use Rattle.std.specs.Prelude.{codes, decimal}
use Rattle.bench_judge.specs.Junit.{suite_head}
use Rattle.bench_judge.specs.Verdicts.{not_held}
use Rattle.bench_judge.proofs.Putting.{then_number, then_put}
use Rattle.bench_judge.proofs.junit.put_suite_head.Goals as goal

pub returns : goal.returns
unfolding suite_head
returns c =
    let new = c.extend_from_slice-2.new.self.items in
    let failures = codes "\" failures=\"" in
    let missed = decimal (not_held c.args.verdicts.now) in
    let many = decimal (length c.args.verdicts.now) in
    then_put c.args.text.now.items c.extend_from_slice.new.self.items new (codes "<?xml version=\"1.0\" encoding=\"UTF-8\"?>\n<testsuite name=\"bench judge\" tests=\"") (many ++ (failures ++ (missed ++ codes "\">\n"))) c.in_ok-extend_from_slice.ensures.items
    (then_put c.extend_from_slice.new.self.items c.put_number.new.text.items new many (failures ++ (missed ++ codes "\">\n")) c.in_ok-put_number.ensures
    (then_number c.put_number.new.text.items c.put_number-2.new.text.items new failures missed (codes "\">\n") (rw c.not_held.ensures.value at c.in_ok-put_number-2.ensures) c.in_ok-extend_from_slice-2.ensures.items))
