-- The message that comes next stays, as moments see it.
use Rattle.std.proofs.Common.{◌≡◌, ℕ, ◌+◌, ◌-◌, ◌<◌, ◌++◌, ◌∷◌, [], List, refl, sym, ap, subst, ◌∙◌}
use Rattle.std.specs.Prelude.{Option, Some, None, IfSome}
use Rattle.std.specs.Option.{option_map}
use Rattle.mil_host.specs.declared.actions.Action.{Action}
use Rattle.mil_line.specs.declared.faults.Fault.{Fault}
use Rattle.mil_message.specs.Forms.{first_command, second_command}
use Rattle.mil_bus.specs.declared.talks.Talk.{Talk}
use Rattle.bc_machine.specs.declared.next_message.NextMessage.{NextMessage}
use Rattle.bc_machine.specs.declared.placed.HostAction.{HostAction}
use Rattle.bc_machine.specs.declared.placed.HostAction.TheVariants.{Terminal}
use Rattle.bc_machine.specs.NextMessage.{coming_talk, in_advance, FaultsAreNotTold, TerminalActionsAreNotTold}
use Rattle.bc_machine.specs.Posting.{with_placed, at_next}
use Rattle.bc_machine.specs.Running.{MachineState}
use Rattle.job_moments.specs.declared.met.Met.{Met}
use Rattle.job_moments.specs.Planning.{PlannedFault}
use Rattle.job_file.specs.Timed.{met_of, coming_met, with_faults, faulted}

-- moments see no more of a message than what is told of it
abbrev seen_of : ℕ → NextMessage → Met
seen_of begin n = record {
  start = n.start - begin;
  first = first_command n.message;
  second = second_command n.message;
}

same_seen : (begin : ℕ) (a b : Option Talk) → option_map in_advance a ≡ option_map in_advance b → option_map (met_of begin) a ≡ option_map (met_of begin) b
same_seen begin None None e = refl
same_seen begin None (Some y) e = absurd cc
same_seen begin (Some x) None e = absurd cc
same_seen begin (Some x) (Some y) e = let same : in_advance x ≡ in_advance y = cc in ap (λ (n : NextMessage). Some (seen_of begin n)) same

-- with faults more
pub coming_with_faults : FaultsAreNotTold → (m n : MachineState) (due : List Fault) → n ≡ with_faults m due → coming_met n ≡ coming_met m
coming_with_faults law m n due is =
    let to = with_faults m due in
    ap coming_met is ∙ same_seen m.begun.start (coming_talk to) (coming_talk m) (law m to.plan)

-- and with what the host of a terminal is asked for
pub coming_with_action : TerminalActionsAreNotTold → (m n : MachineState) (a : HostAction) (address : ℕ) (action : Action)
    → n ≡ with_placed m (m.placed ++ at_next m a ∷ []) → a ≡ Terminal address action → coming_met n ≡ coming_met m
coming_with_action law m n a address action is terminal =
    let to = with_placed m (m.placed ++ at_next m (Terminal address action) ∷ []) in
    let placed : n ≡ to = is ∙ ap (λ (h : HostAction). with_placed m (m.placed ++ at_next m h ∷ [])) terminal in
    ap coming_met placed ∙ same_seen m.begun.start (coming_talk to) (coming_talk m) (law m (m.point.number + 1) address action)

-- as many messages were made
pub few_faulted : (faults : List PlannedFault) (m n : MachineState) (next : Option Met) → n ≡ faulted faults m → IfSome next (λ _. m.point.number < 1000000)
    → IfSome next (λ _. n.point.number < 1000000)
unfolding faulted
few_faulted faults m n next is few = subst (λ (v : MachineState). IfSome next (λ _. v.point.number < 1000000)) (sym is) few

pub few_placed : (m n : MachineState) (a : HostAction) → n ≡ with_placed m (m.placed ++ at_next m a ∷ []) → m.point.number < 1000000 → n.point.number < 1000000
few_placed m n a is few = subst (λ (v : MachineState). v.point.number < 1000000) (sym is) few
