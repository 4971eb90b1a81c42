-- What is asked of the messages that have a signal is asked of them alone: their tally is that of the rule over them.
use Rattle.std.proofs.Common.{◌≡◌, ℕ, suc, ◌==◌, ◌&&◌, List, [], ◌∷◌, length, refl, ap, sym, ◌∙◌}
use Rattle.std.specs.Prelude.{Bool, true, false, not, Option, None, is_some, if◌then◌else◌}
use Rattle.std.specs.List.{filter}
use Rattle.std.proofs.lemmas.Bool.{and_parts}
use Rattle.ch11_layout.specs.Stamps.{Recorded}
use Rattle.ch11_layout.specs.BlockStatus.{has_error}
use Rattle.bench_select.specs.Selectors.{is_chosen, selects_commands}
use Rattle.bench_select.specs.Signals.{bits_at, has_signal}
use Rattle.bench_select.specs.Viewed.{Viewed}
use Rattle.signal_dictionary.specs.declared.signals.Signal.{Signal}
use Rattle.bench_judge.specs.Checks as checks
use Rattle.bench_judge.specs.Selection as plain
use Rattle.bench_judge.specs.Selection.{Origins}
use Rattle.bench_judge.specs.Verdicts as others
use Rattle.bench_judge.specs.Verdicts.{Moment, moments, newer}
use Rattle.signal_judge.specs.declared.rules.Asked.TheVariants.{OfMessages}
use Rattle.signal_judge.specs.declared.rules.SignalRule.{SignalRule}
use Rattle.signal_judge.specs.Tallies.{chosen}
use Rattle.signal_judge.specs.Verdicts.{counted, is_here, latest, meets, meets_by, missed, selected, selects}
use Rattle.signal_judge.proofs.Counting.{moment, selected-skip, selected-take, missed-skip, missed-met, missed-take}

-- a message that has a signal is of its commands
has_commands : (s : Signal) (channel : ℕ) (m : Recorded) → has_signal s channel m ≡ true → selects_commands s.selector m ≡ true
has_commands s channel m is = go (is_chosen s.channel channel && not (has_error m.block)) (selects_commands s.selector m) is
  where
    go : (a b : Bool) → is_some (if a && b then bits_at s.place m else None) ≡ true → b ≡ true
    go true true is = refl
    go true false is = absurd cc
    go false b is = absurd cc

pub rule_selects : (r : SignalRule) (origins : Origins) (channel : ℕ) (m : Recorded) → selects r origins channel m ≡ true → plain.selects r.rule origins channel m ≡ true
rule_selects r origins channel m is =
    let parts = and_parts (is_here r.rule origins channel m) (has_signal r.signal.now channel m) is in
    let commands : selects_commands r.rule.selector m ≡ true = ap (λ s. selects_commands s m) r.of ∙ has_commands r.signal.now channel m parts.1 in
    rw (parts.0, commands) refl

-- the chosen ones with one more
pub chosen-skip : (r : SignalRule) (origins : Origins) (h : Viewed) (history : List Viewed) → selects r origins h.0 h.1 ≡ false → chosen r origins (h ∷ history) ≡ chosen r origins history
chosen-skip r origins h history is = rw is refl

pub chosen-take : (r : SignalRule) (origins : Origins) (h : Viewed) (history : List Viewed) → selects r origins h.0 h.1 ≡ true → chosen r origins (h ∷ history) ≡ h ∷ chosen r origins history
chosen-take r origins h history is = rw is refl

-- what is compared with the next message of a channel
newest_other : (b : Bool) (other value : Option ℕ) → (if b && false then newer value other else other) ≡ other
newest_other true other value = refl
newest_other false other value = refl

pub same_latest : (r : SignalRule) (origins : Origins) (channel : ℕ) (history : List Viewed) → others.latest r.rule origins channel (chosen r origins history) ≡ latest r origins channel history
same_latest r origins channel [] = refl
same_latest r origins channel (h ∷ history) = go (selects r origins h.0 h.1) refl (same_latest r origins channel history)
  where
    go : (b : Bool) → selects r origins h.0 h.1 ≡ b → others.latest r.rule origins channel (chosen r origins history) ≡ latest r origins channel history
        → others.latest r.rule origins channel (chosen r origins (h ∷ history)) ≡ latest r origins channel (h ∷ history)
    go true is same = rw (chosen-take r origins h history is, rule_selects r origins h.0 h.1 is, is, same) refl
    go false is same = rw (chosen-skip r origins h history is, is, newest_other (h.0 == channel) (latest r origins channel history) (checks.compared r.rule.check h.1)) same

-- as many are selected
filter_take : {X : Type 0} (p : X → Bool) (x : X) (xs : List X) → p x ≡ true → filter p (x ∷ xs) ≡ x ∷ filter p xs
filter_take p x xs is = rw is refl

filter_skip : {X : Type 0} (p : X → Bool) (x : X) (xs : List X) → p x ≡ false → filter p (x ∷ xs) ≡ filter p xs
filter_skip p x xs is = rw is refl

taken : (r : SignalRule) (origins : Origins) (h : Viewed) (history : List Viewed) → selects r origins h.0 h.1 ≡ true → others.selected r.rule origins (h ∷ history) ≡ moment h history ∷ others.selected r.rule origins history
taken r origins h history is = filter_take (others.is_selected r.rule origins) (moment h history) (moments history) (rule_selects r origins h.0 h.1 is)

pub same_selected : (r : SignalRule) (origins : Origins) (history : List Viewed) → length (others.selected r.rule origins (chosen r origins history)) ≡ length (selected r origins history)
same_selected r origins [] = refl
same_selected r origins (h ∷ history) = go (selects r origins h.0 h.1) refl (same_selected r origins history)
  where
    go : (b : Bool) → selects r origins h.0 h.1 ≡ b → length (others.selected r.rule origins (chosen r origins history)) ≡ length (selected r origins history)
        → length (others.selected r.rule origins (chosen r origins (h ∷ history))) ≡ length (selected r origins (h ∷ history))
    go true is same =
        ap (λ (hs : List Viewed). length (others.selected r.rule origins hs)) (chosen-take r origins h history is)
        ∙ ap length (taken r origins h (chosen r origins history) is)
        ∙ ap suc same
        ∙ sym (ap length (selected-take r origins h history is))
    go false is same =
        ap (λ (hs : List Viewed). length (others.selected r.rule origins hs)) (chosen-skip r origins h history is)
        ∙ same
        ∙ sym (ap length (selected-skip r origins h history is))

-- what is asked of messages
pub meets_messages : (r : SignalRule) (origins : Origins) (history : List Viewed) (channel : ℕ) (m : Recorded) → r.asked ≡ OfMessages → meets r origins history channel m ≡ checks.meets r.rule.check (others.latest r.rule origins channel (chosen r origins history)) m
meets_messages r origins history channel m asked =
    ap (λ a. meets_by a r origins history channel m) asked
    ∙ ap (λ (t : Option ℕ). checks.meets r.rule.check t m) (sym (same_latest r origins channel history))

-- as many of them miss it
abbrev pub AreMissed : SignalRule → Origins → List Viewed → Type 0
AreMissed r origins history = length (others.missed r.rule origins (chosen r origins history)) ≡ length (missed r origins history)

pub same_missed : (r : SignalRule) (origins : Origins) (history : List Viewed) → r.asked ≡ OfMessages → AreMissed r origins history
same_missed r origins [] asked = refl
same_missed r origins (h ∷ history) asked = go (selects r origins h.0 h.1) refl (same_missed r origins history asked)
  where
    met : (b : Bool) → selects r origins h.0 h.1 ≡ true → meets r origins history h.0 h.1 ≡ b → AreMissed r origins history → length (others.missed r.rule origins (h ∷ chosen r origins history)) ≡ length (missed r origins (h ∷ history))
    met true is b same =
        let here : others.is_miss r.rule origins (moment h (chosen r origins history)) ≡ false = ap not (sym (meets_messages r origins history h.0 h.1 asked) ∙ b) in
        ap (λ (xs : List Moment). length (filter (others.is_miss r.rule origins) xs)) (taken r origins h (chosen r origins history) is)
        ∙ ap length (filter_skip (others.is_miss r.rule origins) (moment h (chosen r origins history)) (others.selected r.rule origins (chosen r origins history)) here)
        ∙ same
        ∙ sym (ap length (missed-met r origins h history is b))
    met false is b same =
        let here : others.is_miss r.rule origins (moment h (chosen r origins history)) ≡ true = ap not (sym (meets_messages r origins history h.0 h.1 asked) ∙ b) in
        ap (λ (xs : List Moment). length (filter (others.is_miss r.rule origins) xs)) (taken r origins h (chosen r origins history) is)
        ∙ ap length (filter_take (others.is_miss r.rule origins) (moment h (chosen r origins history)) (others.selected r.rule origins (chosen r origins history)) here)
        ∙ ap suc same
        ∙ sym (ap length (missed-take r origins h history is b))

    go : (b : Bool) → selects r origins h.0 h.1 ≡ b → AreMissed r origins history → length (others.missed r.rule origins (chosen r origins (h ∷ history))) ≡ length (missed r origins (h ∷ history))
    go true is same = ap (λ (hs : List Viewed). length (others.missed r.rule origins hs)) (chosen-take r origins h history is) ∙ met (meets r origins history h.0 h.1) is refl same
    go false is same =
        ap (λ (hs : List Viewed). length (others.missed r.rule origins hs)) (chosen-skip r origins h history is)
        ∙ same
        ∙ sym (ap length (missed-skip r origins h history is))

-- as many of them are counted
abbrev pub counts : SignalRule → Moment → Bool
counts r x = checks.is_counted r.rule.check x.message

abbrev pub AreCounted : SignalRule → Origins → List Viewed → Type 0
AreCounted r origins history = length (others.counted r.rule origins (chosen r origins history)) ≡ length (counted r origins history)

pub same_counted : (r : SignalRule) (origins : Origins) (history : List Viewed) → AreCounted r origins history
same_counted r origins [] = refl
same_counted r origins (h ∷ history) = go (selects r origins h.0 h.1) refl (same_counted r origins history)
  where
    each : (b : Bool) → selects r origins h.0 h.1 ≡ true → checks.is_counted r.rule.check h.1 ≡ b → AreCounted r origins history
        → length (others.counted r.rule origins (h ∷ chosen r origins history)) ≡ length (counted r origins (h ∷ history))
    each true is b same =
        ap (λ (xs : List Moment). length (filter (counts r) xs)) (taken r origins h (chosen r origins history) is)
        ∙ ap length (filter_take (counts r) (moment h (chosen r origins history)) (others.selected r.rule origins (chosen r origins history)) b)
        ∙ ap suc same
        ∙ sym (ap length (ap (filter (counts r)) (selected-take r origins h history is) ∙ filter_take (counts r) (moment h history) (selected r origins history) b))
    each false is b same =
        ap (λ (xs : List Moment). length (filter (counts r) xs)) (taken r origins h (chosen r origins history) is)
        ∙ ap length (filter_skip (counts r) (moment h (chosen r origins history)) (others.selected r.rule origins (chosen r origins history)) b)
        ∙ same
        ∙ sym (ap length (ap (filter (counts r)) (selected-take r origins h history is) ∙ filter_skip (counts r) (moment h history) (selected r origins history) b))

    go : (b : Bool) → selects r origins h.0 h.1 ≡ b → AreCounted r origins history → length (others.counted r.rule origins (chosen r origins (h ∷ history))) ≡ length (counted r origins (h ∷ history))
    go true is same = ap (λ (hs : List Viewed). length (others.counted r.rule origins hs)) (chosen-take r origins h history is) ∙ each (checks.is_counted r.rule.check h.1) is refl same
    go false is same =
        ap (λ (hs : List Viewed). length (others.counted r.rule origins hs)) (chosen-skip r origins h history is)
        ∙ same
        ∙ sym (ap length (ap (filter (counts r)) (selected-skip r origins h history is)))
