-- The number of a message in its channel: how many messages of the channel stand before it in the file, and one.
use Rattle.std.specs.Prelude.{◌≡◌, ℕ, ◌+◌, ◌<◌, ◌^◌, List, length, slice_index_or}
use Rattle.ch11_reader.specs.Contents.{count_in}

-- a count for each channel, of the messages passed, the newest first
pub record AreCounts (passed : List ℕ) (counts : List ℕ) : Type 0 where
  pub many : length counts ≡ 65536
  pub each : (channel : ℕ) → channel < 65536 → slice_index_or counts channel 0 ≡ count_in channel passed

-- the same, of fewer messages than 64 bits count
abbrev pub ArePassed : List ℕ → List ℕ → Type 0
ArePassed passed counts = AreCounts passed counts × (length passed + 1 < 2 ^ 64)
