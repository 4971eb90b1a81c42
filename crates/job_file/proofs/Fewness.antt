-- Facts of controllers under way.
use Rattle.std.proofs.Common.{◌≡◌, ◌+◌, ◌≤◌, ◌<◌, arith, subst, refl}
use Rattle.std.specs.Prelude.{slice_get, Option, Some, None}
use Rattle.std.specs.Option.{option_map}
use Rattle.mil_bus.specs.declared.outcomes.Outcome.{Outcome}
use Rattle.mil_bus.specs.declared.talks.Talk.{Talk}
use Rattle.frame_code.specs.declared.Op.TheVariants as op
use Rattle.frame_load.specs.Budget.{worst_messages}
use Rattle.frame_load.specs.Runs.{EachReached}
use Rattle.bc_machine.specs.Controller.{BusRun}
use Rattle.bc_machine.specs.declared.next_message.NextMessage.{NextMessage}
use Rattle.bc_machine.specs.NextMessage.{NextMessageIsSent, IsMade, Makes, coming_talk, in_advance}
use Rattle.bc_machine.specs.Running.{MachineState, HasEnded, after_steps, frames_point, world_in}
use Rattle.bc_machine.specs.UnderWay.{IsUnderWay}
use Rattle.bc_machine.proofs.Next.{few as few_made}
use Rattle.bc_machine.proofs.Reached.{is_halt}
use Rattle.bc_machine.proofs.Steps.{IsRunning, all_after}

-- at most 1,000,000 messages
pub few : (m : MachineState) → IsUnderWay m → m.point.number ≤ 1000000
few m way = few_made m way

-- and the next is one of these
pub one_more_of_few : EachReached BusRun Outcome (λ w code from x. x.point.number ≤ from.number + worst_messages code.operations) → NextMessageIsSent → (m : MachineState) (talk : Talk) → IsUnderWay m
    → coming_talk m ≡ Some talk → m.point.number < 1000000
one_more_of_few messages law m talk way is =
    let sent : IsMade m talk = subst (Makes m) is (law m way) in
    let running : IsRunning m = record { loadable = way.loadable; reached = way.reached; number = way.number; inserts = way.inserts } in
    let high : (after_steps 1 m).point.number ≤ 1000000 = all_after messages 1 m running way.within.1 in
    omega (arith, sent.number, high)

-- at its end it stands at a Halt
pub halt_there : (m : MachineState) → HasEnded m → slice_get m.code.operations m.at.place ≡ Some op.Halt
halt_there m e = is_halt (world_in m) (slice_get m.code.operations m.at.place) m.code m.at (frames_point m) e.halts

-- ---- the message that comes next

abbrev pub MessagesAreFew : Type 0
MessagesAreFew = EachReached BusRun Outcome (λ w code from x. x.point.number ≤ from.number + worst_messages code.operations)

pub few_where_next : MessagesAreFew → NextMessageIsSent → (m : MachineState) (next : NextMessage) → IsUnderWay m → Some next ≡ option_map in_advance (coming_talk m) → m.point.number < 1000000
few_where_next messages law m next way is = by_talk (coming_talk m) refl is
  where
    by_talk : (o : Option Talk) → coming_talk m ≡ o → Some next ≡ option_map in_advance o → m.point.number < 1000000
    by_talk None e f = absurd cc
    by_talk (Some talk) e f = one_more_of_few messages law m talk way e
