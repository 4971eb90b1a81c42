use Rattle.std.proofs.Common.{arith}
use Rattle.frame_tree.specs.Tree.{tree_of}
use Rattle.frame_asm.proofs.Ranges.{operations_of, messages_in}
use Rattle.frame_asm.proofs.Loadable.{loadable_if}
use Rattle.frame_asm.proofs.assemble.Goals as goal

pub returns : goal.returns
returns g c =
    let t = tree_of c.args.frame.now in
    let r = c.build.ensures in
    record {
      image = r.image;
      loadable = loadable_if t c.requires c.build.result r.image r.range;
      operations = (λ e. omega (arith, operations_of t, r.operations.0 e), λ h. r.operations.1 (omega (arith, operations_of t, h)));
      messages = (λ e. (omega (arith, operations_of t, (r.messages.0 e).0), omega (arith, messages_in t, (r.messages.0 e).1)), λ h. r.messages.1 (omega (arith, operations_of t, h.0), omega (arith, messages_in t, h.1)));
    }
