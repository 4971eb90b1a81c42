-- What further data words of a run make of the counts of a talk (inside the bus).
use Rattle.std.specs.Prelude.{ℕ, ◌+◌, ◌<◌, ◌==◌, ◌≡◌, nat_lt, if◌then◌else◌, Bool, true, false, ◌&&◌, ◌||◌, not, List}
use Rattle.std.specs.Prelude.{get_or, Option, Some, None}
use Rattle.mil_word.specs.declared.Word.{Word}
use Rattle.mil_word.specs.Wave.{word_of}
use Rattle.mil_word.specs.Timing.{contiguous_gap}
use Rattle.mil_word.specs.Words.{is_command_sync}
use Rattle.mil_bus.specs.declared.talks.Sent.{Sent}
use Rattle.mil_bus.specs.declared.counts.Came.{Came}
use Rattle.mil_bus.specs.declared.counts.TalkCounts.{TalkCounts}
use Rattle.mil_bus.specs.Pass.{words_in}

-- a sound data word
abbrev pub is_data : Option Word → Bool
is_data None = false
is_data (Some word) = not (is_command_sync word.sync)

-- the first words, so many of them, are sound data words of a run, each of which follows the one before at once
abbrev pub AreLike : ℕ → ℕ → List Sent → Type 0
AreLike run count words = (k : ℕ) (d : Sent) → k < count → ((get_or words k d).run ≡ run)
    × (is_data (word_of (get_or words k d).wave) ≡ true) × ((get_or words k d).gap ≡ contiguous_gap)

-- a reply with so many words more
abbrev pub longer : Option Came → ℕ → Option Came
longer None more = None
longer (Some c) more = Some (record { gap = c.gap; first = c.first; count = c.count + more })

-- whether a further data word of the run is in its place, and its run not a new one
abbrev pub goes_on : ℕ → ℕ → TalkCounts → ℕ → Bool
goes_on commands due s run =
    if run == 0 then not (nat_lt s.controllers commands)
    else if run == 1 then nat_lt 0 (words_in s.one) && (s.beyond || not (nat_lt due 1))
    else if run == 2 then nat_lt 0 (words_in s.two) && (s.beyond || not (nat_lt due 2))
    else false

-- so many data words more
abbrev pub lengthened : TalkCounts → ℕ → ℕ → TalkCounts
lengthened s run more = record {
  controllers = if run == 0 then s.controllers + more else s.controllers;
  one = if run == 1 then longer s.one more else s.one;
  two = if run == 2 then longer s.two more else s.two;
  beyond = s.beyond;
  unsound = s.unsound;
  other_sync = s.other_sync;
  paused = s.paused;
}
