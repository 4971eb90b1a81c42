-- What a controller's parts need for a step.
use Rattle.std.specs.Prelude.{◌≡◌, ◌≢◌, ℕ, ◌<◌, ◌≤◌, ◌^◌, Some, slice_get, length}
use Rattle.frame_code.specs.declared.Op.TheVariants as op
use Rattle.frame_code.specs.Ranges.{IsImage}
use Rattle.frame_code.specs.Table.{stuck}
use Rattle.bc_machine.specs.Running.{MachineState, turn_of, clock_in}
use Rattle.bc_machine.specs.Frames.{HaveBegun}

pub record IsAble (m : MachineState) : Type 0 where
  pub image : IsImage m.code
  pub going : turn_of m ≢ stuck
  pub inside : m.at.place < length m.code.operations
  pub room : (n : ℕ) → slice_get m.code.operations m.at.place ≡ Some (op.Loop n) → length m.at.counters < 17
  pub room_to_call : (k : ℕ) → slice_get m.code.operations m.at.place ≡ Some (op.Call k) → length m.at.returns < 32
  pub room_to_begin : slice_get m.code.operations m.at.place ≡ Some op.Begin → length m.at.frames < 16
  pub number : m.point.number ≤ 1000000
  pub counted : m.point.number ≡ length m.made
  pub taken : m.taken ≤ 100000000
  pub clock : clock_in m ≤ 2 ^ 48
  pub begun : HaveBegun m
