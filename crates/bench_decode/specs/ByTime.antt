-- The chosen messages of a recording in the order of their stamps (own choice; a stamp is a time in ticks of 0.1 µs:
-- IRIG 106-17 Chapter 11, MIL-STD-1553 bus data packets, Format 1).
use Rattle.std.specs.Prelude.{◌≡◌, ℕ, ◌+◌, Bool, List, [], ◌∷◌, length, map, reverse}
use Rattle.std.specs.List.{filter}
use Rattle.std.specs.List.Sorted.{IsPermutation, IsNonDecreasingBy, IsStableByKey}
use Rattle.std.specs.Ordering.{nat_cmp}
use Rattle.ch11_layout.specs.Stamps.{Recorded, recorded}
use Rattle.ch11_f1.specs.Views.{message_of}
use Rattle.ch11_reader.specs.Contents.{count_in}
use Rattle.bench_select.specs.Viewed.{channels_of, Viewed}
use Rattle.bench_select.specs.declared.selection.Selection.{Selection}
use Rattle.bench_select.specs.Selecting.{selects}
use Rattle.bench_decode.specs.declared.chosen.Chosen.{Chosen}
use Rattle.bench_decode.specs.declared.chosen.Choosing.{Choosing}
use Rattle.bench_decode.specs.Numbering.{AreCounts}

-- a message with its number in the file and its number in its channel, both counted from 1
pub record Told : Type 0 where
  pub number : ℕ
  pub channel : ℕ
  pub in_channel : ℕ
  pub message : Recorded

-- the messages of a history, newest first
abbrev pub told : List Viewed → List Told
told [] = []
told (h ∷ earlier) =
    record {
      number = length earlier + 1;
      channel = h.0;
      in_channel = count_in h.0 (channels_of earlier) + 1;
      message = h.1;
    } ∷ told earlier

abbrev pub is_chosen : Selection → Told → Bool
is_chosen s t = selects s t.number t.channel t.message

-- those that a selection chooses, oldest first
abbrev pub chosen : Selection → List Viewed → List Told
chosen s history = reverse (filter (is_chosen s) (told history))

abbrev pub told_of : Chosen → Told
told_of c = record {
  number = c.place.number;
  channel = c.place.channel;
  in_channel = c.place.in_channel;
  message = recorded c.kind (message_of c.seen);
}

abbrev pub stamp_of : Chosen → ℕ
stamp_of c = c.seen.stamp

-- these messages, sorted by their stamps: none is missing, no stamp falls, and those of one stamp stand in the order
-- that they had
pub record AreByTime (messages : List Told) (sorted : List Chosen) : Type 0 where
  pub found : List Chosen
  pub these : map told_of found ≡ messages
  pub all : IsPermutation found sorted
  pub rising : IsNonDecreasingBy stamp_of sorted
  pub stable : IsStableByKey stamp_of nat_cmp found sorted

-- what was found of a history so far, and how many messages each channel had
pub record AreChosen (s : Selection) (history : List Viewed) (c : Choosing) : Type 0 where
  pub found : map told_of c.found.items ≡ chosen s history
  pub counts : AreCounts (channels_of history) c.numbers.counts.items
