use Rattle.std.proofs.Common.{◌≡◌, ◌<◌, ◌∙◌, ap, arith, length, List, ℕ, ◌++◌}
use Rattle.std.proofs.lemmas.Bool.Decides.{nat_tests}
use Rattle.mil_terminal.proofs.Packing.{entry-put, entry-none}
use Rattle.mil_terminal.proofs.saved_blocks.put_entry.Goals as goal

pub returns-then-is_empty : goal.returns-then-is_empty
returns-then-is_empty c =
    let none : length c.args.words.now ≡ 0 = grind (arith, nat_tests) in
    entry-none c.args.kept.now.items c.args.words.now c.args.slot none

pub returns : goal.returns
returns c =
    let some : 0 < length c.args.words.now = grind (arith, nat_tests) in
    c.in_ok-extend_from_slice.ensures.items
    ∙ ap (λ (kept : List ℕ). kept ++ c.args.words.now) c.in_ok-push.ensures.items
    ∙ entry-put c.args.kept.now.items c.args.words.now c.args.slot _ some (omega arith)
