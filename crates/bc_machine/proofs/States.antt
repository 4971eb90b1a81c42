-- Two controllers with the same parts are the same.
use Rattle.std.proofs.Common.{◌≡◌, ℕ, List, Option, length, ap₂, ◌∙◌}
use Rattle.mil_message.specs.World.{Point}
use Rattle.mil_line.specs.Plans.{Planned}
use Rattle.mil_bus.specs.Exchange.{BusState}
use Rattle.mil_bus.specs.declared.outcomes.Outcome.{Outcome}
use Rattle.frame_code.specs.Table.{Code, Registers}
use Rattle.bc_machine.specs.declared.placed.Placed.{Placed}
use Rattle.bc_machine.specs.Agendas.{AgendaState}
use Rattle.bc_machine.specs.MadeMessages.{MadeMessage}
use Rattle.bc_machine.specs.Running.{MachineState}

pub same_parts : (a b : MachineState) → a.code ≡ b.code → a.plan ≡ b.plan → a.placed ≡ b.placed → a.capacity ≡ b.capacity → a.begun ≡ b.begun → a.taken ≡ b.taken → a.at ≡ b.at → a.point ≡ b.point
    → a.made ≡ b.made → a.latest ≡ b.latest → a ≡ b
same_parts a b code plan placed capacity begun taken at point made latest =
    ap₂ (λ (c : Code) (p : List Planned). record a { code = c; plan = p }) code plan
    ∙ ap₂ (λ (ps : List Placed) (k : ℕ). record a { code = b.code; plan = b.plan; placed = ps; capacity = k }) placed capacity
    ∙ ap₂ (λ (s : BusState) (n : ℕ). record a { code = b.code; plan = b.plan; placed = b.placed; capacity = b.capacity; begun = s; taken = n }) begun taken
    ∙ ap₂ (λ (r : Registers) (p : Point BusState Outcome). record b { at = r; point = p; made = a.made; latest = a.latest }) at point
    ∙ ap₂ (λ (ms : List MadeMessage) (o : Option Outcome). record b { made = ms; latest = o }) made latest

-- a controller with other things asked for
abbrev pub with_agenda : MachineState → AgendaState → MachineState
with_agenda m a = record m {
  placed = a.placed;
  capacity = a.capacity;
  point = record m.point { number = length a.made };
  made = a.made;
}
