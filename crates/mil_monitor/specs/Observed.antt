-- What a bus monitor keeps of a finished talk (IRIG 106-17 Chapter 11, MIL-STD-1553 bus data packets, Format 1).
use Rattle.std.specs.Prelude.{ℕ, ◌+◌, ◌*◌, min, map, Option, Some, None}
use Rattle.mil_word.specs.Wave.{raw_of}
use Rattle.mil_bus.specs.declared.talks.Sent.{Sent}
use Rattle.mil_bus.specs.declared.talks.Talk.{Talk}
use Rattle.mil_bus.specs.declared.counts.Came.{Came}
use Rattle.mil_bus.specs.Counts.{seen_of}
use Rattle.mil_bus.specs.BlockStatus.{block_of}
use Rattle.ch11_f1.specs.declared.Record.{Record}

-- the gap of a reply in the gap times word: 0 where it did not come, 255 where it is more (own choice)
abbrev pub gap_half : Option Came → ℕ
gap_half None = 0
gap_half (Some came) = min came.gap 255

-- the time stamp is the talk's start; GAP2 stands in the high half of the gap times word; a word is recorded by its 16
-- information bits, sound or not
abbrev pub observed : Talk → Record
observed t = record {
  stamp = t.start;
  block = block_of t.line t.message (seen_of t.message t.sent.items);
  gaps = gap_half (seen_of t.message t.sent.items).two * 256 + gap_half (seen_of t.message t.sent.items).one;
  words = record { items = map (λ (w : Sent). raw_of w.wave) t.sent.items };
}
