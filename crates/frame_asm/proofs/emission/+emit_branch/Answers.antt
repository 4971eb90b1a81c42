use Rattle.std.proofs.Common.{◌≡◌, ◌+◌, ◌≤◌, length, ap, arith, rules}
use Rattle.frame_tree.specs.Tree.{both, either, condition_in}
use Rattle.frame_tree.specs.declared.Cond.{the_lemmas}
use Rattle.frame_asm.specs.Shapes.{branch_size}
use Rattle.frame_asm.proofs.Branches.{length_after, and_done, or_done}
use Rattle.std.proofs.lemmas.Result.{on_ok_weaker}
use Rattle.frame_asm.proofs.emission.+emit_branch.Goals as goal

pub emit_branch-requires-in-And-2 : goal.emit_branch-requires-in-And-2
emit_branch-requires-in-And-2 g t c κs within =
    let a = condition_in c.in-And.a.value in
    let b = condition_in c.in-And.b.value in
    let is : condition_in c.args.condition.now ≡ both a b = ap condition_in c.in-And.is in
    let now : condition_in c.deref-in-And-3.result.now ≡ b = ap condition_in c.deref-in-And-3.ensures in
    let first : condition_in c.deref-in-And-2.result.now ≡ a = ap condition_in c.deref-in-And-2.ensures in
    let grown = length_after (condition_in c.deref-in-And-2.result.now) c.args.operations.now.items c.emit_branch-in-And.new.operations.items (length c.args.operations.now.items) _ _ c.in_ok-emit_branch-in-And.ensures in
    let room : length c.emit_branch-in-And.new.operations.items + branch_size (condition_in c.deref-in-And-3.result.now) ≤ 4096 =
    omega (arith, c.requires, ap branch_size is, ap branch_size now, ap branch_size first, grown) in
    (search (rules, the_lemmas), (search rules, room))

pub emit_branch-requires-in-Or-2 : goal.emit_branch-requires-in-Or-2
emit_branch-requires-in-Or-2 g t c κs within =
    let a = condition_in c.in-Or.a.value in
    let b = condition_in c.in-Or.b.value in
    let is : condition_in c.args.condition.now ≡ either a b = ap condition_in c.in-Or.is in
    let now : condition_in c.deref-in-Or-3.result.now ≡ b = ap condition_in c.deref-in-Or-3.ensures in
    let first : condition_in c.deref-in-Or-2.result.now ≡ a = ap condition_in c.deref-in-Or-2.ensures in
    let grown = length_after (condition_in c.deref-in-Or-2.result.now) c.args.operations.now.items c.emit_branch-in-Or.new.operations.items (length c.args.operations.now.items) _ _ c.in_ok-emit_branch-in-Or.ensures in
    let room : length c.emit_branch-in-Or.new.operations.items + branch_size (condition_in c.deref-in-Or-3.result.now) ≤ 4096 =
    omega (arith, c.requires, ap branch_size is, ap branch_size now, ap branch_size first, grown) in
    (search (rules, the_lemmas), (search rules, room))

pub returns-in_ok-emit_branch-in-And : goal.returns-in_ok-emit_branch-in-And
returns-in_ok-emit_branch-in-And g t c =
    let a = condition_in c.in-And.a.value in
    let b = condition_in c.in-And.b.value in
    let is : condition_in c.args.condition.now ≡ both a b = ap condition_in c.in-And.is in
    let now : condition_in c.deref-in-And-3.result.now ≡ b = ap condition_in c.deref-in-And-3.ensures in
    let first : condition_in c.deref-in-And-2.result.now ≡ a = ap condition_in c.deref-in-And-2.ensures in
    let counted : condition_in c.deref-in-And.result.now ≡ a = ap condition_in c.deref-in-And.ensures in
    let middle : c.len.result + c.branch_len.result ≡ length c.args.operations.now.items + branch_size a =
    omega (arith, c.requires, ap branch_size is, ap branch_size counted, c.branch_len.ensures, c.len.ensures, c.args.operations.now.ok.0) in
    on_ok_weaker _ (and_done (condition_in c.args.condition.now) a b _ _ c.args.operations.now.items c.emit_branch-in-And.new.operations.items _ _ _ _ is first now middle c.in_ok-emit_branch-in-And.ensures) c.emit_branch-in-And-2.ensures

pub returns-in_ok-emit_branch-in-Or : goal.returns-in_ok-emit_branch-in-Or
returns-in_ok-emit_branch-in-Or g t c =
    let a = condition_in c.in-Or.a.value in
    let b = condition_in c.in-Or.b.value in
    let is : condition_in c.args.condition.now ≡ either a b = ap condition_in c.in-Or.is in
    let now : condition_in c.deref-in-Or-3.result.now ≡ b = ap condition_in c.deref-in-Or-3.ensures in
    let first : condition_in c.deref-in-Or-2.result.now ≡ a = ap condition_in c.deref-in-Or-2.ensures in
    let counted : condition_in c.deref-in-Or.result.now ≡ a = ap condition_in c.deref-in-Or.ensures in
    let middle : c.len-in-Or.result + c.branch_len-in-Or.result ≡ length c.args.operations.now.items + branch_size a =
    omega (arith, c.requires, ap branch_size is, ap branch_size counted, c.branch_len-in-Or.ensures, c.len-in-Or.ensures, c.args.operations.now.ok.0) in
    on_ok_weaker _ (or_done (condition_in c.args.condition.now) a b _ _ c.args.operations.now.items c.emit_branch-in-Or.new.operations.items _ _ _ _ is first now middle c.in_ok-emit_branch-in-Or.ensures) c.emit_branch-in-Or-2.ensures
