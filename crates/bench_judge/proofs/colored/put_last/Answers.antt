use Rattle.std.proofs.Common.{◌++◌, length}
use Rattle.std.specs.Prelude.{◌==◌, codes, decimal}
use Rattle.bench_judge.specs.Colored.{color_of, last_shown, plain}
use Rattle.bench_judge.specs.Verdicts.{not_held}
use Rattle.bench_judge.proofs.Putting.{then_number, then_put}
use Rattle.bench_judge.proofs.colored.put_last.Goals as goal

pub returns : goal.returns
unfolding last_shown
returns c =
    let new = c.extend_from_slice-3.new.self.items in
    let end = plain ++ codes "\n" in
    let missed = decimal (not_held c.args.verdicts.now) in
    let many = decimal (length c.args.verdicts.now) in
    then_put c.args.text.now.items c.put_color.new.text.items new (color_of (not_held c.args.verdicts.now == 0)) (many ++ (codes " rules, " ++ (missed ++ (codes " not held" ++ end)))) (rw c.not_held-missed.ensures.value at c.in_ok-put_color.ensures)
    (then_put c.put_color.new.text.items c.put_number.new.text.items new many (codes " rules, " ++ (missed ++ (codes " not held" ++ end))) c.in_ok-put_number.ensures
    (then_number c.put_number.new.text.items c.put_number-2.new.text.items new (codes " rules, ") missed (codes " not held" ++ end) (rw c.not_held-missed.ensures.value at c.in_ok-put_number-2.ensures)
    (then_put c.put_number-2.new.text.items c.extend_from_slice.new.self.items new (codes " not held") end c.in_ok-extend_from_slice.ensures.items
    (then_put c.extend_from_slice.new.self.items c.extend_from_slice-2.new.self.items new plain (codes "\n") c.in_ok-extend_from_slice-2.ensures.items c.in_ok-extend_from_slice-3.ensures.items))))
