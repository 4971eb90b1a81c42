use Rattle.std.proofs.Common.{◌≡◌, ◌≤◌, length, take, vec_capacity}
use Rattle.bc_machine.proofs.beside.copies_of.Given as goal

-- the copies so far, and room for all
abbrev pub invariant-loop-one : goal.invariant-loop-one
invariant-loop-one l = record {
  copied : l.copies.items ≡ take l.one-index l.wholes;
  capacity : length l.wholes ≤ vec_capacity l.copies;
}
