-- What a reading keeps of the packets so far.
use Rattle.std.specs.Prelude.{◌≡◌, ℕ, List, slice_index_or, Option, None}
use Rattle.ch11_header.specs.declared.header.Header.{Header}
use Rattle.ch11_reader.specs.Recording.{Found, packet_messages}
use Rattle.ch11_reader.specs.Contents.{total_in}
use Rattle.ch11_reader.specs.Listing.{latest_sequence}

-- the packet that begins these bytes, which stand at an offset
abbrev pub found_at : ℕ → Header → List ℕ → Found
found_at offset h bytes = record { offset = offset; header = h; messages = packet_messages h bytes }

-- how many messages there were, and the latest sequence number of each channel; the packets stand newest first
pub record IsListingTally (latest : List (Option ℕ)) (before : ℕ) (earlier : List Found) : Type 0 where
  pub counted : before ≡ total_in earlier
  pub sequences : (channel : ℕ) → slice_index_or latest channel None ≡ latest_sequence channel earlier
