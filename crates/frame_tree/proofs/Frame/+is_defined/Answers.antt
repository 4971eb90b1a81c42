use Rattle.std.proofs.Common.{◌≡◌, sym, ap, subst, ◌∙◌, map}
use Rattle.frame_tree.specs.Tree.{tree_of, chain}
use Rattle.frame_tree.specs.Bounds.{CallsKnown, IsDefined}
use Rattle.frame_tree.specs.Scopes.{scope_of}
use Rattle.frame_tree.proofs.Trees.{tree_seq, chain_defined}
use Rattle.frame_tree.proofs.Frame.+is_defined.Goals as goal

pub returns-in-Seq : goal.returns-in-Seq
returns-in-Seq g t c =
    let ds = scope_of c.args.scope.now in
    let ts = map tree_of c.in-Seq.field-0.items in
    let is : tree_of c.args.self.now ≡ chain ts = ap tree_of c.in-Seq.is ∙ tree_seq c.in-Seq.field-0 in
    let same : IsDefined ds (tree_of c.args.self.now) ≡ CallsKnown ds (tree_of c.args.self.now) = ap (IsDefined ds) is ∙ chain_defined ds ts ∙ sym (ap (CallsKnown ds) is) in
    (λ x. subst (λ P. P) (sym same) (c.calls_known-in-Seq.ensures.0 x), λ x. c.calls_known-in-Seq.ensures.1 (subst (λ P. P) same x))
