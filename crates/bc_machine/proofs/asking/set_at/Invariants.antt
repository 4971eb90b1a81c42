use Rattle.std.proofs.Common.{◌≡◌, drop, ℕ}
use Rattle.controller_host.specs.declared.destinations.Destination.{Destination}
use Rattle.controller_host.specs.Destinations.{IsPlace}
use Rattle.controller_host.specs.Sources.{source_in}
use Rattle.bc_machine.specs.Asking.{controls_at, with_controls}
use Rattle.bc_machine.specs.Hosting.{placed_at}
use Rattle.bc_machine.specs.Rows.{all_placed}
use Rattle.bc_machine.specs.Schedules.{HaveRoom}
use Rattle.bc_machine.proofs.asking.set_at.Given as goal

-- what is left makes of the sources what all make of them at first
abbrev pub invariant-loop-row : goal.invariant-loop-row
invariant-loop-row l = record {
  ready : l.sources.ready ≡ l.initial.sources.ready;
  room : HaveRoom l.sources.ready (placed_at l.number (all_placed l.beside.lists (drop l.row-index l.rows)));
  left : (d : Destination) (place : ℕ) → IsPlace d place
      → with_controls (controls_at l.number (all_placed l.beside.lists (drop l.row-index l.rows))) (source_in l.sources.rows d place) d place
      ≡ with_controls (controls_at l.number (all_placed l.beside.lists l.rows)) (source_in l.initial.sources.rows d place) d place;
}
