-- Runs that are sent as they should, by the values of their words (inside the bus).
use Rattle.std.specs.Prelude.{◌≡◌, ℕ, ◌+◌, ◌<◌, ◌≤◌, List, [], ◌∷◌, ◌++◌, length, map, take, drop, get_or}
use Rattle.mil_line.specs.Ranges.{most_sent}
use Rattle.mil_word.specs.Words.{command_wave, data_wave}
use Rattle.mil_terminal.specs.Runs.{AreSmall}
use Rattle.mil_bus.specs.declared.talks.Sent.{Sent}
use Rattle.mil_bus.specs.declared.wholes.Whole.{Whole}
use Rattle.mil_bus.specs.RunWords.{contiguous_run}

-- the waves of commands or a status word, and then of data words
abbrev pub run_waves : List ℕ → List ℕ → List ℕ
run_waves commands values = map command_wave commands ++ map data_wave values

-- the same, where so many of the values, the first, are those of commands or a status word
abbrev pub value_waves : ℕ → List ℕ → List ℕ
value_waves commands values = run_waves (take commands values) (drop commands values)

-- the words of such a run with these values
abbrev pub whole_words : Whole → List ℕ → List Sent
whole_words r values = contiguous_run r.number r.source r.gap (value_waves r.commands values)

-- the words of such runs, which have these values one after the other
abbrev pub all_words : List Whole → List ℕ → List Sent
all_words [] values = []
all_words (r ∷ rs) values = whole_words r (take r.count values) ++ all_words rs (drop r.count values)

-- how many words they have
abbrev pub words_in : List Whole → ℕ
words_in [] = 0
words_in (r ∷ rs) = r.count + words_in rs

-- such runs have a word each
abbrev pub AreSome : List Whole → Type 0
AreSome runs = (k : ℕ) (d : Whole) → k < length runs → 0 < (get_or runs k d).count

-- what is kept of the words on a line: such runs with their values, and behind them words one by one
pub record AreKeptWords (runs : List Whole) (values : List ℕ) (each : List Sent) : Type 0 where
  pub counted : words_in runs ≡ length values
  pub some : AreSome runs
  pub few : length values + length each ≤ most_sent
  pub small : AreSmall values
