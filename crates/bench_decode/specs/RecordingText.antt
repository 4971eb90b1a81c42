-- The text of a recording whose messages are printed (own choice): a line for each chosen message, as people read it or
-- as a dump has it, and where a recording may be damaged one for each skip. In front of the first line that people read
-- stand the names of the columns.
use Rattle.std.specs.Prelude.{ℕ, ◌+◌, ◌==◌, ◌&&◌, if◌then◌else◌, List, [], ◌∷◌, ◌++◌, length, reverse}
use Rattle.ch11_f1.specs.BodyReading.{Message}
use Rattle.ch11_layout.specs.Stamps.{Recorded}
use Rattle.ch11_reader.specs.Contents.{count_in}
use Rattle.ch11_reader.specs.Recording.{Found}
use Rattle.ch11_reader.specs.Skipping.{Stretch, Read, Skipped}
use Rattle.bench_dump.specs.DumpText as dump
use Rattle.bench_dump.specs.SkippingText.{skip_line}
use Rattle.bench_select.specs.Viewed.{channels_of, viewed_in, viewed_of, Viewed}
use Rattle.bench_select.specs.declared.selection.Selection.{Selection}
use Rattle.bench_decode.specs.declared.messages.Place.{Place}
use Rattle.bench_decode.specs.declared.printing.Output.{Output}
use Rattle.bench_decode.specs.ByTime.{Told, chosen, is_chosen}
use Rattle.bench_decode.specs.MessageText.{columns_line, message_line_with}

-- a message as a dump reads it, whose stamp is a number
abbrev pub dumped : Recorded → Message
dumped m = record { stamp = m.number; block = m.block; gaps = m.gaps; bytes = m.bytes }

-- the line of a message
abbrev pub line_of : Output → Place → Recorded → List ℕ
line_of o place m =
    if o.decoded then message_line_with o.signals.now o.shown place m
    else dump.message_line place.number place.channel (dumped m)

abbrev pub place_of : Told → Place
place_of t = record { number = t.number; channel = t.channel; in_channel = t.in_channel }

-- what stands in front of the line of a message, behind so many others
unfoldable pub names_behind : Output → ℕ → List ℕ
names_behind o count = if o.decoded && count == 0 then columns_line o.shown else []

-- the lines of messages, behind those of so many others
abbrev pub lines_behind : Output → ℕ → List Told → List ℕ
lines_behind o count [] = []
lines_behind o count (t ∷ ts) =
    names_behind o count ++ (line_of o (place_of t) t.message ++ lines_behind o (count + 1) ts)

abbrev pub messages_text : Output → List Told → List ℕ
messages_text o ts = lines_behind o 0 ts

-- the messages of packets that are chosen, in the file's order
abbrev pub chosen_in : Output → List Found → List Told
chosen_in o ps = chosen o.selection (reverse (viewed_in ps))

-- the next message behind a history, which stands newest first
abbrev pub told_next : List Viewed → Viewed → Told
told_next earlier h = record {
  number = length earlier + 1;
  channel = h.0;
  in_channel = count_in h.0 (channels_of earlier) + 1;
  message = h.1;
}

-- those of the next messages that are chosen
abbrev pub chosen_next : Selection → List Viewed → List Viewed → List Told
chosen_next s earlier [] = []
chosen_next s earlier (h ∷ later) =
    if is_chosen s (told_next earlier h) then told_next earlier h ∷ chosen_next s (h ∷ earlier) later
    else chosen_next s (h ∷ earlier) later

-- their lines
abbrev pub lines_next : Output → List Viewed → List Viewed → List ℕ
lines_next o earlier later =
    lines_behind o (length (chosen o.selection earlier)) (chosen_next o.selection earlier later)

-- the text of a recording that may be damaged, stretch by stretch in the file's order, behind a history
abbrev pub stretches_text : Output → List Viewed → List Stretch → List ℕ
stretches_text o earlier [] = []
stretches_text o earlier (Read p ∷ later) =
    lines_next o earlier (viewed_of p) ++ stretches_text o (reverse (viewed_of p) ++ earlier) later
stretches_text o earlier (Skipped s ∷ later) = skip_line s ++ stretches_text o earlier later
