use Rattle.std.proofs.Common.{◌≡◌, ◌++◌, length}
use Rattle.frame_asm.specs.Shapes.{shape, tree_messages}
use Rattle.frame_tree.specs.Scopes.{scope_of}
use Rattle.frame_asm.proofs.Chains.{front}
use Rattle.frame_asm.proofs.emission.+frames.Given as goal

abbrev pub invariant-emit_sequence-loop-frame : goal.invariant-emit_sequence-loop-frame
invariant-emit_sequence-loop-frame g l = record {
  operations : l.operations.items ≡ l.initial.operations.items ++ shape (scope_of l.initial.scope) (length l.initial.operations.items) (length l.initial.messages.items) (front l.frame-index l.frame-items);
  messages : l.messages.items ≡ l.initial.messages.items ++ tree_messages (front l.frame-index l.frame-items);
}
