use Rattle.std.proofs.Common.{◌≡◌, ◌+◌, [], length, arith}
use Rattle.std.specs.Prelude.{slice_index_or}
use Rattle.std.proofs.lemmas.Bool.Decides.{nat_tests}
use Rattle.mil_terminal.proofs.Putting.{carries_none}
use Rattle.mil_terminal.proofs.blocks.Block.carry.Goals as goal

pub returns-else-not-is_empty : goal.returns-else-not-is_empty
returns-else-not-is_empty c =
    let empty : length c.at.result.now ≡ 0 = grind (arith, nat_tests) in
    let none : length (slice_index_or c.args.self.now (128 + c.args.sub) []) ≡ 0 = rw (← c.from.ensures, ← c.at.ensures.value) empty in
    carries_none c.args.self.now c.args.sub c.args.count none
