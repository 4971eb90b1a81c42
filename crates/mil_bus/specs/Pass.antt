-- What one more word makes of the counts of a talk.
use Rattle.std.specs.Prelude.{ℕ, ◌+◌, ◌==◌, nat_lt, if◌then◌else◌, Bool, ◌&&◌, ◌||◌, not, Option, Some, None}
use Rattle.std.specs.Option.{is_none}
use Rattle.mil_word.specs.declared.Word.{Word}
use Rattle.mil_word.specs.Timing.{contiguous_gap}
use Rattle.mil_word.specs.Wave.{word_of}
use Rattle.mil_bus.specs.declared.talks.Sent.{Sent}
use Rattle.mil_bus.specs.declared.counts.Came.{Came}
use Rattle.mil_bus.specs.declared.counts.TalkCounts.{TalkCounts}
use Rattle.mil_bus.specs.Counts.{takes_command, differs}

abbrev pub one_more : Option Came → ℕ → Option Word → Option Came
one_more None gap word = Some (record { gap = gap; first = word; count = 1 })
one_more (Some c) gap word = Some (record { gap = c.gap; first = c.first; count = c.count + 1 })

abbrev pub words_in : Option Came → ℕ
words_in None = 0
words_in (Some c) = c.count

-- where the next word of a run stands in it, as far as that matters
abbrev pub place_in : TalkCounts → ℕ → ℕ
place_in s run = if run == 0 then s.controllers else (if run == 1 then words_in s.one else words_in s.two)

-- whether a pause stands before the next word of a run, which has one before it, and counts: in the controller's run or
-- in a due reply
abbrev pub breaks : ℕ → TalkCounts → Sent → Bool
breaks due s w = not (w.gap == contiguous_gap) && (not (nat_lt due w.run) && nat_lt 0 (place_in s w.run))

abbrev pub noted : ℕ → ℕ → TalkCounts → Sent → TalkCounts
noted commands due s w = record {
  controllers = if w.run == 0 then s.controllers + 1 else s.controllers;
  one = if w.run == 1 then one_more s.one w.gap (word_of w.wave) else s.one;
  two = if w.run == 2 then one_more s.two w.gap (word_of w.wave) else s.two;
  beyond = s.beyond || nat_lt due w.run;
  unsound = s.unsound || is_none (word_of w.wave);
  other_sync = s.other_sync || differs (takes_command commands due w.run (place_in s w.run)) (word_of w.wave);
  paused = s.paused || breaks due s w;
}
