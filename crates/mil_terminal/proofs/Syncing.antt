-- The sync word and the BIT word of a terminal after one more event.
use Rattle.std.proofs.Common.{◌≡◌, ℕ, ◌∷◌, List, refl, sym, ◌∙◌, arith}
use Rattle.std.proofs.lemmas.Bool.Decides.{nat_tests}
use Rattle.std.specs.Prelude.{Bool, true, false, ◌&&◌, ◌||◌, ◌==◌, not, Some, None, if◌then◌else◌, unwrap_or}
use Rattle.mil_word.specs.Words.{same_bool}
use Rattle.mil_word.specs.Fields.{is_transmit, code_of, is_mode}
use Rattle.mil_terminal.specs.declared.events.Event.{Event}
use Rattle.mil_terminal.specs.History.{History}
use Rattle.mil_host.specs.declared.actions.Action.{Action}
use Rattle.mil_terminal.specs.declared.events.Event.TheVariants.{Host}
use Rattle.mil_terminal.specs.Host.{self_test, told_bit, turns_on, is_power_on}
use Rattle.mil_terminal.specs.Windows.{Ended, ended_by}
use Rattle.mil_terminal.specs.Verdicts.{verdict, is_good}
use Rattle.mil_terminal.specs.Registers.{window_data, first_or_zero, sync_word, bit_word, bit_set_or}
use Rattle.mil_terminal.specs.declared.synced.Synced.{Synced}
use Rattle.mil_terminal.specs.Updates.{synchronized}
use Rattle.mil_terminal.specs.StandsFor.{AreSynced}
use Rattle.mil_terminal.proofs.Ends.{latest_none, latest_some}

-- no window ended
pub synced-none : (own : ℕ) (s : Synced) (e : Event) (past : History) → is_power_on e ≡ false → ended_by own e past ≡ None → ((word : ℕ) → bit_set_or e word ≡ word)
    → AreSynced own s past → AreSynced own s (e ∷ past)
unfolding sync_word bit_word
synced-none own s e past on none unset is = record {
  sync = is.sync ∙ sym (latest_none own _ _ _ e past on none);
  bit = rw (on, none, unset) is.bit;
}

-- the host acts
pub synced-acts : (own word : ℕ) (s : Synced) (action : Action) (past : History) → turns_on action ≡ false → ended_by own (Host action) past ≡ None
    → word ≡ unwrap_or (told_bit action) s.bit_word
    → AreSynced own s past → AreSynced own (record s { bit_word = word }) (Host action ∷ past)
unfolding sync_word bit_word
synced-acts own word s action past on none word_is is = record {
  sync = is.sync ∙ sym (latest_none own _ _ _ (Host action) past on none);
  bit = rw (on, none, ← is.bit) word_is;
}

-- a window ended that is not good
pub synced-bad : (own : ℕ) (s : Synced) (e : Event) (past : History) (w : Ended) → ended_by own e past ≡ Some w → is_power_on e ≡ false → ((word : ℕ) → bit_set_or e word ≡ word) → is_good (verdict own w) ≡ false
    → AreSynced own s past → AreSynced own s (e ∷ past)
unfolding sync_word bit_word
synced-bad own s e past w ends on unset bad is = record {
  sync = is.sync ∙ sym (latest_some own _ _ _ e past w ends ∙ rw bad refl);
  bit = rw (on, ends, unset, bad) is.bit;
}

sync_is : (m t : Bool) (code was word : ℕ)
    → (if m && not t && code == 17 then word else if m && t && code == 1 then 0 else if m && t && code == 8 then 0 else was)
    ≡ (if true && m && same_bool t false && code == 17 || true && m && same_bool t true && code == 1 || true && m && same_bool t true && code == 8
    then (if code == 17 then word else 0) else was)
sync_is false t code was word = refl
sync_is true true code was word = grind (arith, nat_tests)
sync_is true false code was word = grind (arith, nat_tests)

bit_is : (m t : Bool) (code was word : ℕ)
    → (if m && t && code == 3 then word else was) ≡ (if true && m && same_bool t true && code == 3 then word else was)
bit_is false t code was word = refl
bit_is true true code was word = refl
bit_is true false code was word = refl

-- a good window ended
pub synced-good : (own : ℕ) (s : Synced) (e : Event) (past : History) (w : Ended) (words : List ℕ) (tested : ℕ) → ended_by own e past ≡ Some w → is_power_on e ≡ false → ((word : ℕ) → bit_set_or e word ≡ word) → is_good (verdict own w) ≡ true
    → window_data w ≡ words → tested ≡ self_test w.before
    → AreSynced own s past → AreSynced own (synchronized s w.window.command words tested) (e ∷ past)
unfolding sync_word bit_word
synced-good own s e past w words tested ends on unset good words_are tested_is is =
    let c = w.window.command in
    record {
      sync = sync_is (is_mode c) (is_transmit c) (code_of c) s.sync_word (first_or_zero words) ∙ sym (latest_some own _ _ _ e past w ends ∙ rw (good, words_are, ← is.sync) refl);
      bit = bit_is (is_mode c) (is_transmit c) (code_of c) s.bit_word tested ∙ rw (on, ends, unset, good, ← tested_is, ← is.bit) refl;
    }
