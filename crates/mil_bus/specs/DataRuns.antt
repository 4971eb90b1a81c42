-- Words that are heard one after the other, and those that are no commands (inside the bus).
use Rattle.std.specs.Prelude.{ℕ, List, [], ◌∷◌}
use Rattle.std.proofs.Common.{zero, suc}
use Rattle.mil_word.specs.declared.Line.{Line}
use Rattle.mil_word.specs.Timing.{contiguous_gap}
use Rattle.mil_terminal.specs.Station.{Station}
use Rattle.mil_bus.specs.declared.talks.Sent.{Sent}
use Rattle.mil_bus.specs.declared.talk_runs.Run.{Run}
use Rattle.mil_bus.specs.Exchange.{hearing, contiguous_run}
pub use Rattle.mil_terminal.specs.Runs.{AreNoCommands}

-- words, each heard by one station
abbrev pub hearing_all : Line → List Sent → Station → Station
hearing_all line [] s = s
hearing_all line (w ∷ ws) s = hearing_all line ws (hearing line w s)

-- the words of a run with these waves, which follow one another at once
abbrev pub run_words : Run → List ℕ → List Sent
run_words run waves = contiguous_run run.number run.source run.gap waves

-- the gap of a word of a run, by its place
abbrev pub gap_at : ℕ → ℕ → ℕ
gap_at zero gap = gap
gap_at (suc place) gap = contiguous_gap

-- a run from a place on
abbrev pub run_from : ℕ → Run → Run
run_from place run = record { number = run.number; source = run.source; gap = gap_at place run.gap }
