-- The switches of a terminal after one more event.
use Rattle.std.proofs.Common.{◌≡◌, ℕ, ◌∷◌, refl, sym, ◌∙◌, arith}
use Rattle.std.proofs.lemmas.Bool.Decides.{nat_tests}
use Rattle.std.specs.Prelude.{Bool, true, false, ◌&&◌, ◌||◌, ◌==◌, not, Some, None, if◌then◌else◌}
use Rattle.mil_word.specs.declared.Line.TheVariants.{A, B}
use Rattle.mil_word.specs.Words.{same_line, same_bool}
use Rattle.mil_word.specs.Fields.{is_transmit, code_of, is_mode}
use Rattle.mil_terminal.specs.declared.events.Event.{Event}
use Rattle.mil_terminal.specs.History.{History}
use Rattle.mil_terminal.specs.Host.{is_power_on}
use Rattle.mil_terminal.specs.Windows.{Ended, ended_by}
use Rattle.mil_terminal.specs.Verdicts.{verdict, is_good}
use Rattle.mil_terminal.specs.Registers.{is_transmitter_on, is_flag_inhibited}
use Rattle.mil_terminal.specs.declared.switches.Switches.{Switches}
use Rattle.mil_terminal.specs.Updates.{switched}
use Rattle.mil_terminal.specs.StandsFor.{AreSwitches}
use Rattle.mil_terminal.proofs.Ends.{latest_none, latest_some}

and_false : (b : Bool) → (b && false) ≡ false
and_false true = refl
and_false false = refl

-- no window ended
pub switches-none : (own : ℕ) (s : Switches) (e : Event) (past : History) → is_power_on e ≡ false → ended_by own e past ≡ None → AreSwitches own s past → AreSwitches own s (e ∷ past)
unfolding is_transmitter_on is_flag_inhibited
switches-none own s e past on none is = record {
  on_a = is.on_a ∙ sym (latest_none own _ _ _ e past on none);
  on_b = is.on_b ∙ sym (latest_none own _ _ _ e past on none);
  inhibited = is.inhibited ∙ sym (latest_none own _ _ _ e past on none);
}

-- a window ended that is not good
pub switches-bad : (own : ℕ) (s : Switches) (e : Event) (past : History) (w : Ended) → ended_by own e past ≡ Some w → is_good (verdict own w) ≡ false
    → AreSwitches own s past → AreSwitches own s (e ∷ past)
unfolding is_transmitter_on is_flag_inhibited
switches-bad own s e past w ends bad is = record {
  on_a = is.on_a ∙ sym (latest_some own _ _ _ e past w ends ∙ rw (bad, and_false) refl);
  on_b = is.on_b ∙ sym (latest_some own _ _ _ e past w ends ∙ rw (bad, and_false) refl);
  inhibited = is.inhibited ∙ sym (latest_some own _ _ _ e past w ends ∙ rw bad refl);
}

on_is : (m t other off : Bool) (code : ℕ)
    → not (if m && t && code == 8 then false else if other && (m && t && code == 4) then true else if other && (m && t && code == 5) then false else off)
    ≡ (if true && m && same_bool t true && code == 8 || other && (true && m && same_bool t true && code == 4 || true && m && same_bool t true && code == 5) then not (code == 4) else not off)
on_is false t true off code = refl
on_is false t false off code = refl
on_is true false true off code = refl
on_is true false false off code = refl
on_is true true true off code = grind (arith, nat_tests)
on_is true true false off code = grind (arith, nat_tests)

inhibited_is : (m t inhibited : Bool) (code : ℕ)
    → (if m && t && code == 6 then true else if m && t && code == 7 then false else if m && t && code == 8 then false else inhibited)
    ≡ (if true && m && same_bool t true && code == 6 || true && m && same_bool t true && code == 7 || true && m && same_bool t true && code == 8 then code == 6 else inhibited)
inhibited_is false t inhibited code = refl
inhibited_is true false inhibited code = refl
inhibited_is true true inhibited code = grind (arith, nat_tests)

-- a good window ended
pub switches-good : (own : ℕ) (s : Switches) (e : Event) (past : History) (w : Ended) → ended_by own e past ≡ Some w → is_good (verdict own w) ≡ true
    → AreSwitches own s past → AreSwitches own (switched s w.window.line w.window.command) (e ∷ past)
unfolding is_transmitter_on is_flag_inhibited
switches-good own s e past w ends good is =
    let c = w.window.command in
    record {
      on_a = on_is (is_mode c) (is_transmit c) (not (same_line w.window.line A)) s.off_a (code_of c) ∙ sym (latest_some own _ _ _ e past w ends ∙ rw (good, ← is.on_a) refl);
      on_b = on_is (is_mode c) (is_transmit c) (not (same_line w.window.line B)) s.off_b (code_of c) ∙ sym (latest_some own _ _ _ e past w ends ∙ rw (good, ← is.on_b) refl);
      inhibited = inhibited_is (is_mode c) (is_transmit c) s.inhibited (code_of c) ∙ sym (latest_some own _ _ _ e past w ends ∙ rw (good, ← is.inhibited) refl);
    }
