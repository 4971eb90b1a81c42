use Rattle.std.proofs.Common.{◌∙◌, ap, Err}
use Rattle.frame_tree.specs.Tree.{tree_of}
use Rattle.frame_asm.specs.Shapes.{code_of_tree}
use Rattle.bench_assemble.proofs.Judged.{judged_long, judged_many}
use Rattle.bench_assemble.proofs.assembling.program_of.Goals as goal

pub returns-in-Err-Operations-clause-refused : goal.returns-in-Err-Operations-clause-refused
returns-in-Err-Operations-clause-refused c =
    let a = c.in-Err-Operations in
    judged_long (code_of_tree (tree_of c.args.frame.now)) (c.assemble.ensures.operations.0 (a.is ∙ ap Err a.field-0-is))

pub returns-in-Err-Messages-clause-refused : goal.returns-in-Err-Messages-clause-refused
returns-in-Err-Messages-clause-refused c =
    let a = c.in-Err-Messages in
    let h = c.assemble.ensures.messages.0 (a.is ∙ ap Err a.field-0-is) in
    judged_many (code_of_tree (tree_of c.args.frame.now)) h.0 h.1
