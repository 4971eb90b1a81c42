use Rattle.std.proofs.Common.{◌≡◌, ◌+◌, length, arith}
use Rattle.frame_tree.specs.Tree.{condition_in, tree_of}
use Rattle.frame_asm.specs.Shapes.{branch_size, size}
use Rattle.frame_asm.proofs.Frames.{until_opened}
use Rattle.frame_asm.proofs.emission.open_until.Goals as goal

pub returns-clause-operations : goal.returns-clause-operations
returns-clause-operations g c =
    let k = condition_in c.args.condition.now in
    let s = size (tree_of c.args.body.now) in
    let room = c.requires in
    let leave : c.len.result + 1 + c.branch_len.result ≡ length c.args.operations.now.items + 1 + branch_size k = omega (arith, c.requires, c.len.ensures, c.args.operations.now.ok.0, c.branch_len.ensures) in
    let end : c.len.result + 1 + c.branch_len.result + c.operation_count.result + 2 ≡ c.len.result + 1 + c.branch_len.result + s + 2 = omega (arith, c.requires, c.operation_count.ensures) in
    until_opened k c.args.count s c.args.operations.now.items c.put.new.operations.items c.emit_branch.new.operations.items c.put-2.new.operations.items _ _ leave end c.in_ok-put.ensures c.in_ok-emit_branch.ensures c.in_ok-put-2.ensures
