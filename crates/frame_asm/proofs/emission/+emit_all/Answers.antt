use Rattle.std.proofs.Common.{◌≡◌, length, map, sym, ap, subst, ◌∙◌, arith, rules}
use Rattle.std.proofs.lemmas.Result.{on_ok_weaker}
use Rattle.frame_tree.specs.Tree.{define, chain, tree_of}
use Rattle.frame_tree.specs.Scopes.{scope_of}
use Rattle.frame_tree.specs.Bounds.{CallsKnown, IsDefined}
use Rattle.frame_tree.specs.declared.Frame.{the_lemmas}
use Rattle.frame_tree.proofs.Trees.{tree_seq, tree_define, chain_defined}
use Rattle.frame_asm.specs.Shapes.{size, entries}
use Rattle.frame_asm.proofs.Frames.{length_put, length_grown, length_entered, define_done, define_entered, rest_defined, rest_routines}
use Rattle.frame_asm.proofs.emission.+emit_all.Goals as goal

pub emit_all-requires : goal.emit_all-requires
emit_all-requires g t c κs within =
    let ds = scope_of c.args.scope.now in
    let b = tree_of c.in-Define.body.value in
    let r = tree_of c.in-Define.rest.value in
    let is : tree_of c.args.frame.now ≡ define c.in-Define.name b r = ap tree_of c.in-Define.is ∙ tree_define c.in-Define.name c.in-Define.body c.in-Define.rest in
    let body : tree_of c.deref.result.now ≡ b = ap tree_of c.deref.ensures in
    let now : tree_of c.deref-in-Define.result.now ≡ r = ap tree_of c.deref-in-Define.ensures in
    let one = length_grown ds (tree_of c.deref.result.now) c.args.operations.now.items c.emit.new.operations.items _ _ c.in_ok-emit-in-Define.ensures.operations in
    let two = length_put c.emit.new.operations.items c.put.new.operations.items _ c.in_ok-put-in-Define.ensures in
    let three = length_entered (tree_of c.deref.result.now) c.args.messages.now.items c.emit.new.messages.items c.in_ok-emit-in-Define.ensures.messages in
    let scope = c.with_routine-inner.ensures in (
      search (rules, the_lemmas),
      (
        search rules,
        (
          omega (arith, c.requires.room, ap size is, ap size body, ap size now, one, two),
          (
            omega (arith, c.requires.table, ap entries is, ap entries body, ap entries now, three),
            (rest_defined ds _ _ b r _ c.in-Define.name c.args.count is now c.requires.count scope c.requires.defined, (omega (arith, ap length scope, c.requires.count), rest_routines ds _ _ b r c.in-Define.name c.args.count is c.requires.count scope c.requires.defined c.requires.routines)),
          ),
        ),
      ),
    )

pub emit-requires-in-Seq-clause-calls : goal.emit-requires-in-Seq-clause-calls
emit-requires-in-Seq-clause-calls g t c =
    let ds = scope_of c.args.scope.now in
    let ts = map tree_of c.in-Seq.field-0.items in
    let is : tree_of c.args.frame.now ≡ chain ts = ap tree_of c.in-Seq.is ∙ tree_seq c.in-Seq.field-0 in
    let same : IsDefined ds (tree_of c.args.frame.now) ≡ CallsKnown ds (tree_of c.args.frame.now) = ap (IsDefined ds) is ∙ chain_defined ds ts ∙ sym (ap (CallsKnown ds) is) in
    subst (λ P. P) same c.requires.defined

pub returns-in_ok-put-in-Define-clause-operations : goal.returns-in_ok-put-in-Define-clause-operations
returns-in_ok-put-in-Define-clause-operations g t c =
    let b = tree_of c.in-Define.body.value in
    let r = tree_of c.in-Define.rest.value in
    let is : tree_of c.args.frame.now ≡ define c.in-Define.name b r = ap tree_of c.in-Define.is ∙ tree_define c.in-Define.name c.in-Define.body c.in-Define.rest in
    on_ok_weaker _ (define_done (scope_of c.args.scope.now) _ b _ r _ c.in-Define.name c.args.count _ c.args.operations.now.items c.emit.new.operations.items c.put.new.operations.items _ c.args.messages.now.items c.emit.new.messages.items is (ap tree_of c.deref.ensures) (ap tree_of c.deref-in-Define.ensures) c.requires.count c.with_routine-inner.ensures c.in_ok-emit-in-Define.ensures.operations c.in_ok-emit-in-Define.ensures.messages c.in_ok-put-in-Define.ensures) c.emit_all.ensures.operations

pub returns-in_ok-put-in-Define-clause-messages : goal.returns-in_ok-put-in-Define-clause-messages
returns-in_ok-put-in-Define-clause-messages g t c =
    let b = tree_of c.in-Define.body.value in
    let r = tree_of c.in-Define.rest.value in
    let is : tree_of c.args.frame.now ≡ define c.in-Define.name b r = ap tree_of c.in-Define.is ∙ tree_define c.in-Define.name c.in-Define.body c.in-Define.rest in
    on_ok_weaker _ (define_entered _ b _ r _ c.in-Define.name c.args.messages.now.items c.emit.new.messages.items _ is (ap tree_of c.deref.ensures) (ap tree_of c.deref-in-Define.ensures) c.in_ok-emit-in-Define.ensures.messages) c.emit_all.ensures.messages
