use Rattle.std.proofs.Common.{arith}
use Rattle.frame_tree.specs.Scopes.{scope_of}
use Rattle.frame_asm.proofs.Ranges.{routine_small}
use Rattle.frame_asm.proofs.emission.routine_of.Goals as goal

pub overflow_cast-result : goal.overflow_cast-result
overflow_cast-result c = omega (arith, c.number_of.ensures, routine_small (scope_of c.args.scope.now) c.args.name.now c.requires)
