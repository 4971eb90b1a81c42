-- The words of a run on a line (MIL-STD-1553B 4.3.3.6).
use Rattle.std.specs.Prelude.{ℕ, List, [], ◌∷◌, map}
use Rattle.mil_word.specs.Timing.{contiguous_gap}
use Rattle.mil_line.specs.declared.line_words.LineWord.{LineWord}
use Rattle.mil_bus.specs.declared.talks.Source.{Source}
use Rattle.mil_bus.specs.declared.talks.Sent.{Sent}

-- words of a run behind its first, each with its own gap
abbrev pub later_words : ℕ → Source → List LineWord → List Sent
later_words run source words =
    map (λ (w : LineWord). record { wave = w.wave; gap = w.gap; run = run; source = source }) words

-- the words of a run: the first has the run's gap, each other its own
abbrev pub words_of_run : ℕ → Source → ℕ → List LineWord → List Sent
words_of_run run source gap [] = []
words_of_run run source gap (w ∷ ws) = record { wave = w.wave; gap = gap; run = run; source = source }
    ∷ later_words run source ws

-- the words of a run that follow one another at once, by their waves: the first has the run's gap
abbrev pub contiguous_run : ℕ → Source → ℕ → List ℕ → List Sent
contiguous_run run source gap [] = []
contiguous_run run source gap (wave ∷ waves) = record { wave = wave; gap = gap; run = run; source = source }
    ∷ contiguous_run run source contiguous_gap waves
