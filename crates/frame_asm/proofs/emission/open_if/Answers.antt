use Rattle.std.proofs.Common.{◌≡◌, ◌+◌, ◌++◌, length, ap₂, ◌∙◌, arith}
use Rattle.frame_tree.specs.Tree.{condition_in, tree_of}
use Rattle.frame_asm.specs.Shapes.{branch_size, branch, size}
use Rattle.frame_asm.proofs.emission.open_if.Goals as goal

pub returns-clause-operations : goal.returns-clause-operations
returns-clause-operations g c =
    let k = condition_in c.args.condition.now in
    let from = length c.args.operations.now.items in
    let room = c.requires in
    let then_at : c.len.result + c.branch_len.result ≡ from + branch_size k = omega (arith, c.requires, c.len.ensures, c.args.operations.now.ok.0, c.branch_len.ensures) in
    let else_at : c.len.result + c.branch_len.result + c.operation_count.result + 1 ≡ from + branch_size k + size (tree_of c.args.then.now) + 1 = omega (arith, c.requires, then_at, c.operation_count.ensures) in
    c.in_ok-emit_branch.ensures ∙ ap₂ (λ x y. c.args.operations.now.items ++ branch from k x y) then_at else_at
