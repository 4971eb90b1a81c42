-- What a tally says of the messages that were passed.
use Rattle.std.specs.Prelude.{◌≡◌, ℕ, nat_eq, Bool, not, ◌&&◌, List, length, take, option_map}
use Rattle.std.specs.HashMap.{get}
use Rattle.std.specs.List.{filter, flat_map}
use Rattle.bench_judge.specs.Selection.{Origins}
use Rattle.bench_select.specs.Viewed.{Viewed}
use Rattle.signal_values.specs.Amounts.{number_of}
use Rattle.bench_judge.specs.Lines.{miss_line}
use Rattle.bench_judge.specs.Tallies as tallies
use Rattle.bench_judge.specs.declared.verdicts.Miss.{Miss}
use Rattle.signal_judge.specs.Verdicts.{latest_number, meets, missed, misses, selected, selects}
use Rattle.signal_judge.specs.declared.rules.Asked.{Asked}
use Rattle.signal_judge.specs.declared.rules.Asked.TheVariants.{OfMessages, Between, Told, Step}
use Rattle.signal_judge.specs.declared.rules.SignalRule.{SignalRule}
use Rattle.signal_judge.specs.declared.tallies.SignalTally.{SignalTally}

-- the messages of a history that a rule selects
abbrev pub chosen : SignalRule → Origins → List Viewed → List Viewed
chosen r origins history = filter (λ (h : Viewed). selects r origins h.0 h.1) history

-- how many messages were selected and missed; none is counted of a kind
pub record IsCounted (r : SignalRule) (origins : Origins) (history : List Viewed) (t : SignalTally) : Type 0 where
  pub selected : t.plain.selected ≡ length (selected r origins history)
  pub counted : t.plain.counted ≡ 0
  pub missed : t.plain.missed ≡ length (missed r origins history)

-- the newest number of each channel
abbrev pub AreLatest : SignalRule → Origins → List Viewed → SignalTally → Type 0
AreLatest r origins history t =
    (channel : ℕ) → option_map number_of (get nat_eq t.latest channel) ≡ latest_number r origins channel history

-- what is asked of messages is tallied as by other rules, over the messages that have the signal
abbrev pub IsTallyBy : Asked → SignalRule → Origins → List Viewed → SignalTally → Type 0
IsTallyBy OfMessages r origins history t = tallies.IsTally r.rule origins (chosen r origins history) t.plain
IsTallyBy (Between low high) r origins history t = IsCounted r origins history t
IsTallyBy (Told label) r origins history t = IsCounted r origins history t
IsTallyBy (Step most) r origins history t = IsCounted r origins history t × AreLatest r origins history t

abbrev pub IsTally : SignalRule → Origins → List Viewed → SignalTally → Type 0
IsTally r origins history t = IsTallyBy r.asked r origins history t

-- the next message is selected and misses the rule
abbrev pub misses_next : SignalRule → Origins → List Viewed → Viewed → Bool
misses_next r origins history h = selects r origins h.0 h.1 && not (meets r origins history h.0 h.1)

-- the lines of the messages that miss a rule
abbrev pub miss_lines : SignalRule → Origins → List Viewed → List ℕ
miss_lines r origins history = flat_map (miss_line r.rule.line) (misses r origins history)

-- the first messages that missed the rule so far, at most so many, were found
pub record IsFinding (r : SignalRule) (origins : Origins) (most : ℕ) (history : List Viewed) (found : List Miss)
    (t : SignalTally) : Type 0 where
  pub tallied : IsTally r origins history t
  pub first : found ≡ take most (misses r origins history)
