use Rattle.std.proofs.Common.{sym, subst, arith, rules}
use Rattle.frame_code.specs.Ranges.{IsImage}
use Rattle.frame_tree.specs.Tree.{tree_of}
use Rattle.frame_asm.proofs.Ranges.{code_is_image, assembled}
use Rattle.frame_tree.specs.declared.names.Scope.{the_lemmas}
use Rattle.frame_asm.proofs.build.Goals as goal

pub new-requires : goal.new-requires
new-requires g c =
    let t = tree_of c.args.frame.now in
    subst IsImage
    (sym (assembled t _ _ _ _ _ _ (search (rules, the_lemmas)) c.new-operations.ensures.items c.new-messages.ensures.items c.in_ok-emit_all.ensures.operations c.in_ok-emit_all.ensures.messages c.in_ok-put.ensures))
    (code_is_image t c.requires.defined c.requires.in_range (omega (arith, c.operation_count.ensures)) (omega (arith, c.entry_count.ensures)))
