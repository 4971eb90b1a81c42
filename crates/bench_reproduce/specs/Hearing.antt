-- The messages of a channel that were heard, their words one behind the other (own choice).
use Rattle.std.specs.Prelude.{ℕ, ◌+◌, ◌≤◌, List, [], ◌∷◌, length, slice_range}
use Rattle.ch11_layout.specs.Stamps.{Recorded, recorded}
use Rattle.bench_reproduce.specs.declared.hearing.MessageHead.{MessageHead}

-- a message whose words lie among these bytes
abbrev pub message_in : List ℕ → MessageHead → Recorded
message_in words h = recorded h.kind (record {
  stamp = h.stamp;
  block = h.block;
  gaps = h.gaps;
  bytes = slice_range words h.start (h.start + h.size);
})

-- the words of each lie there
abbrev pub AreInside : List ℕ → List MessageHead → Type 0
AreInside words [] = Unit {0}
AreInside words (h ∷ hs) = (h.start + h.size ≤ length words) × AreInside words hs
