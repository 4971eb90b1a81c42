-- The conditions of a terminal after one more event.
use Rattle.std.proofs.Common.{◌≡◌, ℕ, ◌∷◌, refl, sym, ◌∙◌}
use Rattle.std.specs.Prelude.{Bool, true, false, not, Some, None, if◌then◌else◌}
use Rattle.mil_word.specs.Words.{same_bool}
use Rattle.mil_terminal.specs.declared.events.Event.{Event}
use Rattle.mil_terminal.specs.History.{History}
use Rattle.mil_terminal.specs.Windows.{Ended, ended_by}
use Rattle.mil_terminal.specs.Verdicts.{verdict, is_good}
use Rattle.mil_terminal.specs.Host.{is_power_on}
use Rattle.mil_terminal.specs.Status.{conditions, conditions_at, no_conditions, leaves_status}
use Rattle.mil_terminal.specs.declared.conditions.Conditions.{Conditions}
use Rattle.mil_terminal.specs.declared.registers.Registers.{Registers}
use Rattle.mil_terminal.specs.Updates.{conditions_set, told}
use Rattle.mil_terminal.specs.StandsFor.{AreSettings, AreSwitches}
use Rattle.mil_terminal.proofs.Ends.{latest_none, latest_some}

pub conditions-none : (own : ℕ) (s : Conditions) (e : Event) (past : History) → is_power_on e ≡ false → ended_by own e past ≡ None → s ≡ conditions own past → s ≡ conditions own (e ∷ past)
unfolding conditions
conditions-none own s e past on none is = is ∙ sym (latest_none own _ _ _ e past on none)

same_true : (b : Bool) → same_bool b true ≡ b
same_true true = refl
same_true false = refl

-- a window ended: with its verdict, and the settings and switches before it
pub conditions-some : (r : Registers) (e : Event) (past : History) (w : Ended) (good asks : Bool) → ended_by r.own e past ≡ Some w → is_good (verdict r.own w) ≡ good → leaves_status r.own w ≡ asks → w.before ≡ past
    → AreSettings r.own r.host past → AreSwitches r.own r.switches past → r.conditions ≡ conditions r.own past
    → (told r w.window.command good asks).conditions ≡ conditions r.own (e ∷ past)
unfolding conditions
conditions-some r e past w good asks ends good_is asks_is before settings switches is = go asks good asks_is good_is
  where
    some : conditions r.own (e ∷ past) ≡ (if not (leaves_status r.own w) then conditions_at r.own w else conditions r.own past)
    some = latest_some r.own (λ e. not (leaves_status r.own e)) (conditions_at r.own) no_conditions e past w ends

    go : (asks good : Bool) → leaves_status r.own w ≡ asks → is_good (verdict r.own w) ≡ good
        → (if asks then r.conditions else conditions_set r w.window.command good) ≡ conditions r.own (e ∷ past)
    go true good asks_is good_is = is ∙ sym (some ∙ rw asks_is refl)
    go false true asks_is good_is =
        sym (some ∙ rw (asks_is, good_is, same_true, before, ← settings.service, ← settings.busy, ← settings.subsystem, ← settings.control, ← settings.fault, ← switches.inhibited) refl)
    go false false asks_is good_is =
        sym (some ∙ rw (asks_is, good_is, before, ← settings.service, ← settings.busy, ← settings.subsystem, ← settings.fault, ← switches.inhibited) refl)
