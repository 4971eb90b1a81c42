use Rattle.std.proofs.Common.{◌<◌, ◌≡◌, arith, length, refl}
use Rattle.std.proofs.lemmas.Bool.Decides.{nat_tests}
use Rattle.text_lines.proofs.LineLemmas.{text_lines-first, text_lines-none}
use Rattle.text_lines.proofs.lines.next_line.Goals as goal

pub returns-then-is_empty-clause-lines : goal.returns-then-is_empty-clause-lines
returns-then-is_empty-clause-lines c = let none : length c.args.text.now ≡ 0 = grind (arith, nat_tests) in text_lines-none c.args.text.now none

pub returns-clause-lines : goal.returns-clause-lines
returns-clause-lines c =
    let some : 0 < length c.args.text.now = grind (arith, nat_tests) in
    rw (text_lines-first c.args.text.now some, c.split_at.ensures.front, c.behind_end.ensures, c.split_at.ensures.back, c.len_before.ensures.value) refl
