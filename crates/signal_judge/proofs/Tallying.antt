-- A tally of a rule about a signal when one more message is passed.
use Rattle.std.proofs.Common.{◌≡◌, ℕ, ◌+◌, ◌^◌, ◌<◌, ◌≤◌, ◌==◌, ◌&&◌, List, [], ◌∷◌, length, refl, ap, sym, ◌∙◌, subst, arith}
use Rattle.std.specs.Prelude.{Bool, true, false, not, if◌then◌else◌, Option, Some, None, nat_eq, option_map, is_some, ℤ, Result, Ok, Err, IfOk, OnOk}
use Rattle.std.specs.HashMap.{get}
use Rattle.std.specs.List.{filter}
use Rattle.ch11_layout.specs.Stamps.{Recorded}
use Rattle.bench_judge.specs.Selection.{Origins}
use Rattle.bench_select.specs.Signals.{field_in, has_signal, value_in}
use Rattle.bench_judge.specs.Checks as checks
use Rattle.bench_judge.specs.Tallies as plain
use Rattle.bench_judge.specs.Verdicts as others
use Rattle.signal_dictionary.specs.Fitting.{width_of}
use Rattle.signal_dictionary.specs.declared.signals.Signal.{Signal}
use Rattle.signal_dictionary.specs.declared.texts.Label.{Label}
use Rattle.signal_values.specs.Readings as values
use Rattle.signal_values.specs.Readings.{Value}
use Rattle.bench_select.specs.Viewed.{Viewed}
use Rattle.bench_judge.specs.Verdicts.{IsVerdictWith}
use Rattle.bench_judge.specs.declared.verdicts.RuleVerdict.{RuleVerdict}
use Rattle.signal_values.specs.Amounts.{number_of}
use Rattle.signal_values.specs.declared.exact.Amount.{Amount}
use Rattle.signal_judge.specs.declared.rules.Asked.{Asked}
use Rattle.signal_judge.specs.declared.rules.Asked.TheVariants.{OfMessages, Between, Told, Step}
use Rattle.signal_judge.specs.declared.rules.SignalRule.{SignalRule}
use Rattle.signal_judge.specs.declared.tallies.SignalTally.{SignalTally}
use Rattle.signal_judge.specs.Tallies.{chosen, misses_next, AreLatest, IsCounted, IsTally, IsTallyBy}
use Rattle.signal_judge.specs.Verdicts.{first_number, is_between, is_step, is_told, latest_number, meets, meets_by, number_if, number_in, selects, told_number, counted_by, is_here, IsVerdict}
use Rattle.signal_judge.proofs.Chosen.{chosen-skip, meets_messages, rule_selects, same_counted, same_missed, same_selected}
use Rattle.signal_judge.proofs.Counting.{selected-more, selected-skip, missed-met, missed-skip, missed-take, few-selected, few-missed}

-- whether the next message misses the rule
pub next-skip : (r : SignalRule) (origins : Origins) (h : Viewed) (history : List Viewed) → selects r origins h.0 h.1 ≡ false → false ≡ misses_next r origins history h
next-skip r origins h history is = rw is refl

pub next-met : (r : SignalRule) (origins : Origins) (h : Viewed) (history : List Viewed) → selects r origins h.0 h.1 ≡ true → meets r origins history h.0 h.1 ≡ true → false ≡ misses_next r origins history h
next-met r origins h history is met = rw (is, met) refl

pub next-missed : (r : SignalRule) (origins : Origins) (h : Viewed) (history : List Viewed) → selects r origins h.0 h.1 ≡ true → meets r origins history h.0 h.1 ≡ false → true ≡ misses_next r origins history h
next-missed r origins h history is met = rw (is, met) refl

pub next-selected : (r : SignalRule) (origins : Origins) (h : Viewed) (history : List Viewed) (told : Bool) → selects r origins h.0 h.1 ≡ true → told ≡ not (meets r origins history h.0 h.1) → told ≡ misses_next r origins history h
next-selected r origins h history told is not_met = not_met ∙ sym (rw is refl)

-- one that is selected, of fewer than can be counted
pub counted-more : (r : SignalRule) (origins : Origins) (h : Viewed) (history : List Viewed) (t next : SignalTally) (met : Bool) → selects r origins h.0 h.1 ≡ true → met ≡ meets r origins history h.0 h.1 → IsCounted r origins history t → length history + 1 < 2 ^ 64
    → (t.plain.selected + 1 < 2 ^ 64 → next.plain.selected ≡ t.plain.selected + 1) → next.plain.counted ≡ t.plain.counted → (t.plain.missed + 1 < 2 ^ 64 → next.plain.missed ≡ t.plain.missed + (if met then 0 else 1)) → IsCounted r origins (h ∷ history) next
counted-more r origins h history t next true is met c small more kinds missing = record {
  selected = omega (arith, more (omega (arith, c.selected, few-selected r origins history, small)), c.selected, selected-more r origins h history is);
  counted = kinds ∙ c.counted;
  missed = omega (arith, missing (omega (arith, c.missed, few-missed r origins history, small)), c.missed, ap length (missed-met r origins h history is (sym met)));
}
counted-more r origins h history t next false is met c small more kinds missing = record {
  selected = omega (arith, more (omega (arith, c.selected, few-selected r origins history, small)), c.selected, selected-more r origins h history is);
  counted = kinds ∙ c.counted;
  missed = omega (arith, missing (omega (arith, c.missed, few-missed r origins history, small)), c.missed, ap length (missed-take r origins h history is (sym met)));
}

-- one that is not
counted-skip : (r : SignalRule) (origins : Origins) (h : Viewed) (history : List Viewed) (t : SignalTally) → selects r origins h.0 h.1 ≡ false → IsCounted r origins history t → IsCounted r origins (h ∷ history) t
counted-skip r origins h history t is c = record {
  selected = c.selected ∙ sym (ap length (selected-skip r origins h history is));
  counted = c.counted;
  missed = c.missed ∙ sym (ap length (missed-skip r origins h history is));
}

told_no : (r : SignalRule) (origins : Origins) (channel : ℕ) (h : Viewed) → selects r origins h.0 h.1 ≡ false → told_number r origins channel h ≡ None
told_no r origins channel h is = go (h.0 == channel)
  where
    go : (b : Bool) → (if b && selects r origins h.0 h.1 then number_in r h.0 h.1 else None) ≡ None
    go true = rw is refl
    go false = refl

pub tally-skip : (r : SignalRule) (origins : Origins) (h : Viewed) (history : List Viewed) (t : SignalTally) → selects r origins h.0 h.1 ≡ false → IsTally r origins history t → IsTally r origins (h ∷ history) t
tally-skip r origins h history t is = cases r.asked
  where
    cases : (a : Asked) → IsTallyBy a r origins history t → IsTallyBy a r origins (h ∷ history) t
    cases OfMessages c = rw (chosen-skip r origins h history is) c
    cases (Between low high) c = counted-skip r origins h history t is c
    cases (Told label) c = counted-skip r origins h history t is c
    cases (Step most) c = (
      counted-skip r origins h history t is c.0,
      λ channel. c.1 channel ∙ ap (λ (z : Option ℤ). first_number z (latest_number r origins channel history)) (sym (told_no r origins channel h is)),
    )

-- a tally by what is asked
pub by_asked : (r : SignalRule) (origins : Origins) (history : List Viewed) (t : SignalTally) (a : Asked) → r.asked ≡ a → IsTallyBy a r origins history t → IsTally r origins history t
by_asked r origins history t a is tally = subst (λ (b : Asked). IsTallyBy b r origins history t) (sym is) tally

pub of_asked : (r : SignalRule) (origins : Origins) (history : List Viewed) (t : SignalTally) (a : Asked) → r.asked ≡ a → IsTally r origins history t → IsTallyBy a r origins history t
of_asked r origins history t a is tally = subst (λ (b : Asked). IsTallyBy b r origins history t) is tally

-- a tally of no messages
pub tally-none : (r : SignalRule) (origins : Origins) (t : SignalTally) → plain.IsTally r.rule origins [] t.plain → t.latest.entries ≡ [] → IsTally r origins [] t
tally-none r origins t is empty = cases r.asked
  where
    counted : IsCounted r origins [] t
    counted = record { selected = is.selected; counted = is.counted; missed = is.missed }

    none : AreLatest r origins [] t
    none = λ channel. rw empty refl

    cases : (a : Asked) → IsTallyBy a r origins [] t
    cases OfMessages = is
    cases (Between low high) = counted
    cases (Told label) = counted
    cases (Step most) = (counted, none)

-- the newest number of each channel behind one that is selected
pub latest-more : (r : SignalRule) (origins : Origins) (h : Viewed) (history : List Viewed) (t next : SignalTally) → selects r origins h.0 h.1 ≡ true → AreLatest r origins history t
    → ((c : ℕ) → option_map number_of (get nat_eq next.latest c) ≡ (if h.0 == c then first_number (number_in r h.0 h.1) (option_map number_of (get nat_eq t.latest c)) else option_map number_of (get nat_eq t.latest c)))
    → AreLatest r origins (h ∷ history) next
latest-more r origins h history t next is latest put = λ c. put c ∙ go c (h.0 == c) (latest c)
  where
    go : (c : ℕ) (b : Bool) → option_map number_of (get nat_eq t.latest c) ≡ latest_number r origins c history
        → (if b then first_number (number_in r h.0 h.1) (option_map number_of (get nat_eq t.latest c)) else option_map number_of (get nat_eq t.latest c))
        ≡ first_number (if b && selects r origins h.0 h.1 then number_in r h.0 h.1 else None) (latest_number r origins c history)
    go c true before = rw is (ap (first_number (number_in r h.0 h.1)) before)
    go c false before = before

-- the verdict of a tally
pub verdict_is : (r : SignalRule) (origins : Origins) (history : List Viewed) (t : SignalTally) (verdict : RuleVerdict) → IsTally r origins history t → IsVerdictWith r.rule t.plain.selected t.plain.counted t.plain.missed verdict → IsVerdict r origins history verdict
verdict_is r origins history t verdict tally = cases r.asked refl tally
  where
    valued : (a : Asked) → r.asked ≡ a → counted_by a r origins history ≡ 0 → IsCounted r origins history t → IsVerdictWith r.rule t.plain.selected t.plain.counted t.plain.missed verdict → IsVerdict r origins history verdict
    valued a is none c with = rw (c.selected, c.counted ∙ sym none ∙ ap (λ (a : Asked). counted_by a r origins history) (sym is), c.missed) at with

    cases : (a : Asked) → r.asked ≡ a → IsTallyBy a r origins history t → IsVerdictWith r.rule t.plain.selected t.plain.counted t.plain.missed verdict → IsVerdict r origins history verdict
    cases OfMessages is c with =
        rw (
          c.selected ∙ same_selected r origins history,
          c.counted ∙ same_counted r origins history ∙ ap (λ (a : Asked). counted_by a r origins history) (sym is),
          c.missed ∙ same_missed r origins history is,
        ) at with
    cases (Between low high) is c with = valued (Between low high) is refl c with
    cases (Told label) is c with = valued (Told label) is refl c with
    cases (Step most) is c with = valued (Step most) is refl c.0 with

-- what is asked of messages, of one that is selected
pub messages_told : (r : SignalRule) (origins : Origins) (history : List Viewed) (channel : ℕ) (m : Recorded) (told : Bool) → r.asked ≡ OfMessages → selects r origins channel m ≡ true → told ≡ plain.misses_next r.rule origins (chosen r origins history) (channel, m) → told ≡ not (meets r origins history channel m)
messages_told r origins history channel m told asked is next =
    next
    ∙ ap (λ (b : Bool). b && not (checks.meets r.rule.check (others.latest r.rule origins channel (chosen r origins history)) m)) (rule_selects r origins channel m is)
    ∙ ap not (sym (meets_messages r origins history channel m asked))

length-filter-le : {X : Type 0} (p : X → Bool) (xs : List X) → length (filter p xs) ≤ length xs
length-filter-le p [] = omega arith
length-filter-le p (x ∷ xs) = go (p x) refl (length-filter-le p xs)
  where
    go : (b : Bool) → p x ≡ b → length (filter p xs) ≤ length xs → length (filter p (x ∷ xs)) ≤ length (x ∷ xs)
    go true is le = rw is (omega (arith, le))
    go false is le = rw is (omega (arith, le))

pub few_chosen : (r : SignalRule) (origins : Origins) (history : List Viewed) → length (chosen r origins history) ≤ length history
few_chosen r origins history = length-filter-le (λ (h : Viewed). selects r origins h.0 h.1) history

-- what a value is asked
pub met_between : (r : SignalRule) (origins : Origins) (low high : Amount) (history : List Viewed) (channel : ℕ) (m : Recorded) (v : Value) (met : Bool) → r.asked ≡ Between low high → value_in r.signal.now channel m ≡ Some v → met ≡ is_between low high (number_if (Some v)) → met ≡ meets r origins history channel m
met_between r origins low high history channel m v met asked value is =
    is ∙ ap (λ (o : Option Value). is_between low high (number_if o)) (sym value) ∙ sym (ap (λ a. meets_by a r origins history channel m) asked)

pub met_told : (r : SignalRule) (origins : Origins) (label : Label) (history : List Viewed) (channel : ℕ) (m : Recorded) (v : Value) (met : Bool) → r.asked ≡ Told label → value_in r.signal.now channel m ≡ Some v → met ≡ is_told label.bytes.items r.signal.now.kind (Some v)
    → met ≡ meets r origins history channel m
met_told r origins label history channel m v met asked value is =
    is ∙ ap (λ (o : Option Value). is_told label.bytes.items r.signal.now.kind o) (sym value) ∙ sym (ap (λ a. meets_by a r origins history channel m) asked)

pub met_step : (r : SignalRule) (origins : Origins) (most : Amount) (history : List Viewed) (channel : ℕ) (m : Recorded) (v : Value) (before : Option ℤ) (met : Bool) → r.asked ≡ Step most → value_in r.signal.now channel m ≡ Some v → before ≡ latest_number r origins channel history
    → met ≡ is_step most before (number_if (Some v)) → met ≡ meets r origins history channel m
met_step r origins most history channel m v before met asked value latest is =
    is
    ∙ ap (λ (b : Option ℤ). is_step most b (number_if (Some v))) latest
    ∙ ap (λ (o : Option Value). is_step most (latest_number r origins channel history) (number_if o)) (sym value)
    ∙ sym (ap (λ a. meets_by a r origins history channel m) asked)

-- what holds of a result where it is Ok
pub if_ok : {X E : Type 0} (P Q : X → Type 0) (res : Result X E) → ((x : X) → P x → Q x) → IfOk res P → IfOk res Q
if_ok P Q (Ok x) f p = f x p
if_ok P Q (Err e) f p = tt

pub on_ok : {X E : Type 0} (P Q : Type 0) (res : Result X E) → (P → Q) → OnOk res P → OnOk res Q
on_ok P Q (Ok x) f p = f p
on_ok P Q (Err e) f p = tt

-- whether a message has a signal, by its value
pub has_value : (s : Signal) (channel : ℕ) (m : Recorded) (v : Value) → value_in s channel m ≡ Some v → has_signal s channel m ≡ true
has_value s channel m v is = go (field_in s channel m) is
  where
    go : (f : Option ℕ) → option_map (values.value_in (width_of s.place) s.kind) f ≡ Some v → is_some f ≡ true
    go None is = absurd cc
    go (Some field) is = refl

pub has_none : (s : Signal) (channel : ℕ) (m : Recorded) → value_in s channel m ≡ None → has_signal s channel m ≡ false
has_none s channel m is = go (field_in s channel m) is
  where
    go : (f : Option ℕ) → option_map (values.value_in (width_of s.place) s.kind) f ≡ None → is_some f ≡ false
    go None is = refl
    go (Some field) is = absurd cc

pub selects_no : (r : SignalRule) (origins : Origins) (channel : ℕ) (m : Recorded) → is_here r.rule origins channel m ≡ false → selects r origins channel m ≡ false
selects_no r origins channel m is = rw is refl

pub selects_none : (r : SignalRule) (origins : Origins) (channel : ℕ) (m : Recorded) → is_here r.rule origins channel m ≡ true → has_signal r.signal.now channel m ≡ false → selects r origins channel m ≡ false
selects_none r origins channel m here is = rw (here, is) refl

pub selects_it : (r : SignalRule) (origins : Origins) (channel : ℕ) (m : Recorded) → is_here r.rule origins channel m ≡ true → has_signal r.signal.now channel m ≡ true → selects r origins channel m ≡ true
selects_it r origins channel m here is = rw (here, is) refl

-- the value of the signal in a message that a rule selects, by whether it is of the channel, the line and the times
pub value_selected : (r : SignalRule) (origins : Origins) (channel : ℕ) (m : Recorded) (v : Value) → (if is_here r.rule origins channel m then value_in r.signal.now channel m else None) ≡ Some v
    → (is_here r.rule origins channel m ≡ true) × (value_in r.signal.now channel m ≡ Some v)
value_selected r origins channel m v is = go (is_here r.rule origins channel m) refl is
  where
    go : (b : Bool) → is_here r.rule origins channel m ≡ b → (if b then value_in r.signal.now channel m else None) ≡ Some v → (is_here r.rule origins channel m ≡ true) × (value_in r.signal.now channel m ≡ Some v)
    go true here some = (here, some)
    go false here some = absurd cc

pub none_selected : (r : SignalRule) (origins : Origins) (channel : ℕ) (m : Recorded) → (if is_here r.rule origins channel m then value_in r.signal.now channel m else None) ≡ None → selects r origins channel m ≡ false
none_selected r origins channel m is = go (is_here r.rule origins channel m) refl is
  where
    go : (b : Bool) → is_here r.rule origins channel m ≡ b → (if b then value_in r.signal.now channel m else None) ≡ None → selects r origins channel m ≡ false
    go true here none = selects_none r origins channel m here (has_none r.signal.now channel m none)
    go false here none = selects_no r origins channel m here

-- counts that are as they were
pub counted_same : (r : SignalRule) (origins : Origins) (history : List Viewed) (t u : SignalTally) → u.plain ≡ t.plain → IsCounted r origins history t → IsCounted r origins history u
counted_same r origins history t u same c = record { selected = ap (λ p. p.selected) same ∙ c.selected; counted = ap (λ p. p.counted) same ∙ c.counted; missed = ap (λ p. p.missed) same ∙ c.missed }

-- the newest number behind a value
pub step-latest : (r : SignalRule) (origins : Origins) (h : Viewed) (history : List Viewed) (v : Value) (t mid next : SignalTally) → selects r origins h.0 h.1 ≡ true → value_in r.signal.now h.0 h.1 ≡ Some v → AreLatest r origins history t
    → ((c : ℕ) → option_map number_of (get nat_eq mid.latest c) ≡ (if h.0 == c then first_number (number_if (Some v)) (option_map number_of (get nat_eq t.latest c)) else option_map number_of (get nat_eq t.latest c)))
    → next.latest ≡ mid.latest → AreLatest r origins (h ∷ history) next
step-latest r origins h history v t mid next is value latest put same =
    let mine : number_if (Some v) ≡ number_in r h.0 h.1 = ap number_if (sym value) in
    latest-more r origins h history t next is latest
    (λ c. ap (λ l. option_map number_of (get nat_eq l c)) same ∙ put c ∙ ap (λ (z : Option ℤ). if h.0 == c then first_number z (option_map number_of (get nat_eq t.latest c)) else option_map number_of (get nat_eq t.latest c)) mine)
