-- Messages of a recording on their way to a writer, and what printing a recording comes to.
use Rattle.std.specs.Prelude.{◌≡◌, ℕ, List, [], ◌++◌, length, map, reverse, Option}
use Rattle.std.specs.Io.KnownBytes.{Appends}
use Rattle.ch11_f1.specs.BodyReading.{Message}
use Rattle.ch11_layout.specs.Stamps.{kind_of, recorded}
use Rattle.ch11_reader.specs.declared.skip.Skip.{Skip}
use Rattle.ch11_reader.specs.Recording.{Found}
use Rattle.ch11_reader.specs.Skipping as whole
use Rattle.ch11_reader.specs.Skipping.{packets_among}
use Rattle.ch11_stream.specs.declared.stretch.Stretch.{Stretch}
use Rattle.ch11_stream.specs.declared.stretch.Stretch.TheVariants.{Sound, Skipped}
use Rattle.bench_dump.specs.SkippingText.{skip_line, skip_lines}
use Rattle.bench_select.specs.Viewed.{channels_of, Viewed}
use Rattle.bench_decode.specs.declared.chosen.Chosen.{Chosen}
use Rattle.bench_decode.specs.declared.printing.Output.{Output}
use Rattle.bench_decode.specs.declared.printing.Printing.{Printing}
use Rattle.bench_decode.specs.ByTime.{AreByTime, Told, chosen, told_of}
use Rattle.bench_decode.specs.Numbering.{AreCounts}
use Rattle.bench_decode.specs.RecordingText.{chosen_in, lines_next, messages_text, stretches_text}
use Rattle.bench_decode.specs.Waiting.{IsPut}

-- what is kept behind a history, which stands newest first: how many messages each channel had, and how many were
-- chosen
pub record IsBehind (o : Output) (history : List Viewed) (p : Printing) : Type 0 where
  pub counts : AreCounts (channels_of history) p.numbers.counts.items
  pub count : p.count ≡ length (chosen o.selection history)
  pub shown : p.line.shown ≡ o.shown

-- the next messages behind a history were printed
pub record HavePrinted (o : Output) (history later : List Viewed) (got : Option (List ℕ)) (before : Printing)
    (gets : Option (List ℕ)) (after : Printing) : Type 0 where
  pub put : IsPut got before.line gets after.line (lines_next o history later)
  pub kept : IsBehind o (reverse later ++ history) after

-- a stretch was printed behind a history: the messages of a sound packet, or the line of a skip
abbrev pub HasPrinted : Output → List Viewed → Stretch → List Message → Option (List ℕ) → Printing → Option (List ℕ)
    → Printing → Type 0
HasPrinted o history (Sound p) given got before gets after =
    p.before ≡ length history
    → HavePrinted o history (map (λ (m : Message). (p.header.channel, recorded (kind_of p.header) m)) given) got before
    gets after
HasPrinted o history (Skipped s) given got before gets after =
    IsPut got before.line gets after.line (skip_line s) × IsBehind o history after

-- messages were printed in the order of their stamps, in front of which none stood
pub record AreSorted (o : Output) (messages : List Told) (got : Option (List ℕ)) (before : Printing)
    (gets : Option (List ℕ)) (after : Printing) : Type 0 where
  pub sorted : List Chosen
  pub order : AreByTime messages sorted
  pub put : IsPut got before.line gets after.line (messages_text o (map told_of sorted))
  pub count : after.count ≡ length sorted

-- the writer got the text of a recording's chosen messages, and the answer is how many there are
pub record AreDecoded (o : Output) (got gets : Option (List ℕ)) (ps : List Found) (count : ℕ) : Type 0 where
  pub written : Appends got gets (messages_text o (chosen_in o ps))
  pub counted : count ≡ length (chosen_in o ps)

-- it got that of a recording that may be damaged
pub record AreDecodedSound (o : Output) (got gets : Option (List ℕ)) (stretches : List whole.Stretch)
    (count : ℕ) : Type 0 where
  pub written : Appends got gets (stretches_text o [] stretches)
  pub counted : count ≡ length (chosen_in o (packets_among stretches))

-- it got the lines of skips, and behind them those of the chosen messages in the order of their stamps
pub record AreDecodedByTime (o : Output) (got gets : Option (List ℕ)) (skips : List Skip) (ps : List Found)
    (count : ℕ) : Type 0 where
  pub sorted : List Chosen
  pub order : AreByTime (chosen_in o ps) sorted
  pub written : Appends got gets (skip_lines skips ++ messages_text o (map told_of sorted))
  pub counted : count ≡ length sorted
