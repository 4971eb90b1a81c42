-- The words that a terminal keeps, after one more event.
use Rattle.std.proofs.Common.{◌≡◌, ℕ, ◌+◌, ◌<◌, ◌≤◌, List, [], ◌∷◌, length, refl, sym, ◌∙◌, arith, get_or-set_same, get_or-set_other, length-set}
use Rattle.std.proofs.lemmas.Bool.{eq-eqb, eqb-true, false≢true}
use Rattle.std.specs.Prelude.{Bool, true, false, ◌&&◌, ◌==◌, not, Some, None, if◌then◌else◌, slice_index_or, slice_set}
use Rattle.mil_word.specs.Words.{same_bool}
use Rattle.mil_word.specs.Fields.{is_broadcast, is_receive, sub_of}
use Rattle.mil_terminal.specs.declared.events.Event.{Event}
use Rattle.mil_terminal.specs.History.{History}
use Rattle.mil_terminal.specs.Host.{is_busy, is_power_on}
use Rattle.mil_terminal.specs.Windows.{Ended, ended_by}
use Rattle.mil_terminal.specs.Verdicts.{verdict, is_good}
use Rattle.mil_terminal.specs.Registers.{window_data, received, received_from_all}
use Rattle.mil_terminal.specs.Updates.{stored}
use Rattle.mil_terminal.specs.StandsFor.{AreReceived}
use Rattle.mil_terminal.proofs.Ends.{latest_none, latest_some}

-- no window ended
pub received-none : (own : ℕ) (block : List (List ℕ)) (e : Event) (past : History) → is_power_on e ≡ false → ended_by own e past ≡ None → AreReceived own block past → AreReceived own block (e ∷ past)
unfolding received received_from_all
received-none own block e past on none is = record {
  addressed = λ sub lt. is.addressed sub lt ∙ sym (latest_none own _ _ _ e past on none);
  from_all = λ sub lt. is.from_all sub lt ∙ sym (latest_none own _ _ _ e past on none);
}

-- a window ended that is not good
pub received-bad : (own : ℕ) (block : List (List ℕ)) (e : Event) (past : History) (w : Ended) → ended_by own e past ≡ Some w → is_good (verdict own w) ≡ false
    → AreReceived own block past → AreReceived own block (e ∷ past)
unfolding received received_from_all
received-bad own block e past w ends bad is = record {
  addressed = λ sub lt. is.addressed sub lt ∙ sym (latest_some own _ _ _ e past w ends ∙ rw bad refl);
  from_all = λ sub lt. is.from_all sub lt ∙ sym (latest_some own _ _ _ e past w ends ∙ rw bad refl);
}

-- a slot after a write of another, and of a slot of its kind
module _ (block : List (List ℕ)) (words : List ℕ) where
  kind_is : (at sub base : ℕ) → base + at < length block
      → slice_index_or (slice_set block (base + at) words) (base + sub) [] ≡ (if at == sub then words else slice_index_or block (base + sub) [])
  kind_is at sub base lt = go (at == sub) refl
    where
      go : (b : Bool) → (at == sub) ≡ b → slice_index_or (slice_set block (base + at) words) (base + sub) [] ≡ (if b then words else slice_index_or block (base + sub) [])
      go true same = rw (← eqb-true at sub same) (get_or-set_same block (base + at) words [] lt)
      go false other = get_or-set_other block (base + at) (base + sub) words [] (λ e. false≢true (sym other ∙ eq-eqb at sub (omega arith)))

  addressed_is : (r b busy : Bool) (at sub : ℕ) → at < 32 → sub < 32 → length block ≡ 160
      → slice_index_or (if r && not busy then slice_set block (if b then 32 + at else at) words else block) sub []
      ≡ (if true && r && at == sub && same_bool b false && not busy then words else slice_index_or block sub [])
  addressed_is false b busy at sub at_lt sub_lt long = refl
  addressed_is true b true at sub at_lt sub_lt long = go (at == sub) b
    where
      go : (s b : Bool) → slice_index_or block sub [] ≡ (if s && same_bool b false && false then words else slice_index_or block sub [])
      go true true = refl
      go true false = refl
      go false b = refl
  addressed_is true true false at sub at_lt sub_lt long = get_or-set_other block (32 + at) sub words [] (λ same. absurd (omega arith)) ∙ go (at == sub)
    where
      go : (s : Bool) → slice_index_or block sub [] ≡ (if s && false && true then words else slice_index_or block sub [])
      go true = refl
      go false = refl
  addressed_is true false false at sub at_lt sub_lt long = go (at == sub) refl
    where
      go : (s : Bool) → (at == sub) ≡ s → slice_index_or (slice_set block at words) sub [] ≡ (if s && true && true then words else slice_index_or block sub [])
      go true same = rw (← eqb-true at sub same) (get_or-set_same block at words [] (omega arith))
      go false other = get_or-set_other block at sub words [] (λ e. false≢true (sym other ∙ eq-eqb at sub (sym e)))

  from_all_is : (r b busy : Bool) (at sub : ℕ) → at < 32 → sub < 32 → length block ≡ 160
      → slice_index_or (if r && not busy then slice_set block (if b then 32 + at else at) words else block) (32 + sub) []
      ≡ (if true && r && at == sub && same_bool b true && not busy then words else slice_index_or block (32 + sub) [])
  from_all_is false b busy at sub at_lt sub_lt long = refl
  from_all_is true b true at sub at_lt sub_lt long = go (at == sub) b
    where
      go : (s b : Bool) → slice_index_or block (32 + sub) [] ≡ (if s && same_bool b true && false then words else slice_index_or block (32 + sub) [])
      go true true = refl
      go true false = refl
      go false b = refl
  from_all_is true false false at sub at_lt sub_lt long = get_or-set_other block at (32 + sub) words [] (λ same. absurd (omega arith)) ∙ go (at == sub)
    where
      go : (s : Bool) → slice_index_or block (32 + sub) [] ≡ (if s && false && true then words else slice_index_or block (32 + sub) [])
      go true = refl
      go false = refl
  from_all_is true true false at sub at_lt sub_lt long = go (at == sub) refl
    where
      go : (s : Bool) → (at == sub) ≡ s → slice_index_or (slice_set block (32 + at) words) (32 + sub) [] ≡ (if s && true && true then words else slice_index_or block (32 + sub) [])
      go true same = rw (← eqb-true at sub same) (get_or-set_same block (32 + at) words [] (omega arith))
      go false other = get_or-set_other block (32 + at) (32 + sub) words [] (λ e. false≢true (sym other ∙ eq-eqb at sub (omega arith)))

  put_up_is : (r b busy : Bool) (at slot : ℕ) → at < 32 → 64 ≤ slot
      → slice_index_or (if r && not busy then slice_set block (if b then 32 + at else at) words else block) slot [] ≡ slice_index_or block slot []
  put_up_is false b busy at slot at_lt le = refl
  put_up_is true b true at slot at_lt le = refl
  put_up_is true true false at slot at_lt le = get_or-set_other block (32 + at) slot words [] (λ same. absurd (omega arith))
  put_up_is true false false at slot at_lt le = get_or-set_other block at slot words [] (λ same. absurd (omega arith))

  long_is : (r b busy : Bool) (at : ℕ) → length (if r && not busy then slice_set block (if b then 32 + at else at) words else block) ≡ length block
  long_is false b busy at = refl
  long_is true b true at = refl
  long_is true true false at = length-set block (32 + at) words
  long_is true false false at = length-set block at words

sub_lt : (c : ℕ) → sub_of c < 32
sub_lt c = omega arith

-- a good window ended
pub received-good : (own : ℕ) (block : List (List ℕ)) (e : Event) (past : History) (w : Ended) (words : List ℕ) (busy : Bool) → ended_by own e past ≡ Some w → is_good (verdict own w) ≡ true
    → window_data w ≡ words → busy ≡ is_busy w.before → length block ≡ 160
    → AreReceived own block past → AreReceived own (stored block w.window.command busy words) (e ∷ past)
unfolding received received_from_all
received-good own block e past w words busy ends good words_are busy_is long is =
    let c = w.window.command in
    record {
      addressed = λ sub lt. addressed_is block words (is_receive c) (is_broadcast c) busy (sub_of c) sub (sub_lt c) lt long
          ∙ sym (latest_some own _ _ _ e past w ends ∙ rw (good, words_are, ← busy_is, ← is.addressed sub lt) refl);
      from_all = λ sub lt. from_all_is block words (is_receive c) (is_broadcast c) busy (sub_of c) sub (sub_lt c) lt long
          ∙ sym (latest_some own _ _ _ e past w ends ∙ rw (good, words_are, ← busy_is, ← is.from_all sub lt) refl);
    }

-- the words that are put up stay
pub put_up-stored : (block : List (List ℕ)) (c : ℕ) (busy : Bool) (words : List ℕ) (slot : ℕ) → 64 ≤ slot → slice_index_or (stored block c busy words) slot [] ≡ slice_index_or block slot []
put_up-stored block c busy words slot le = put_up_is block words (is_receive c) (is_broadcast c) busy (sub_of c) slot (sub_lt c) le

pub long-stored : (block : List (List ℕ)) (c : ℕ) (busy : Bool) (words : List ℕ) → length (stored block c busy words) ≡ length block
long-stored block c busy words = long_is block words (is_receive c) (is_broadcast c) busy (sub_of c)
