-- A recording that is being written: what its builders hold, how far its writer came, and how many packets the sink
-- took whole.
use Rattle.std.specs.Prelude.{◌≡◌, ◌≢◌, ℕ, ◌-◌, ◌≤◌, List, [], ◌∷◌, ◌++◌, length, map, slice_get, Option, Some}
use Rattle.std.specs.List.{AllByRecursion}
use Rattle.ch11_writer.specs.Writing.{Writing, IsWritten, progress_of}
use Rattle.ch11_builder.specs.Held.{Held}
use Rattle.ch11_recording.specs.declared.item.Item.{Item}
use Rattle.ch11_recording.specs.WrittenFile.{Format, held_in, written_file, closed_packets, whole_packets}

-- what each channel holds, the writer, and how many packets the sink took whole
pub record Recording (S : Type 0) : Type 0 where
  pub held : List Held
  pub writing : Writing S
  pub packets : ℕ

-- how many bytes a packet may have at most
abbrev pub IsLimit : ℕ → Type 0
IsLimit limit = (256 ≤ limit) × (limit ≤ 524288)

-- The recording of these items: each channel holds what it does after them, their file was put, and of its packets
-- behind the prologue those are counted that the sink took whole. `before` is what the sink had taken when the
-- recording began, and `taken` shows what a sink has taken.
pub record IsRecordingOf {S : Type 0} (taken : S → Option (List ℕ)) (f : Format) (prologue : List ℕ)
    (before : Option (List ℕ)) (channels : List ℕ) (items : List Item) (r : Recording S) : Type 0 where
  pub held : r.held ≡ map (λ channel. held_in f channel items) channels
  pub written : IsWritten (written_file f prologue items) before (progress_of taken r.writing)
  pub packets : r.packets ≡ whole_packets (r.writing.taken - length prologue) (closed_packets f items)

-- no channel stands twice
abbrev pub AreDistinct : List ℕ → Type 0
AreDistinct [] = Unit {0}
AreDistinct (channel ∷ others) = AllByRecursion (λ other. other ≢ channel) others × AreDistinct others

-- Whatever recording it was, it is that of one more item now, which is one of the channel at this index.
abbrev pub GoesOn : {S : Type 0} → (S → Option (List ℕ)) → ℕ → (ℕ → Item) → Recording S → Recording S → Type 0
GoesOn taken index item old new =
    (f : Format) (prologue : List ℕ) (before : Option (List ℕ)) (channels : List ℕ) (channel : ℕ) (items : List Item)
    → AreDistinct channels → slice_get channels index ≡ Some channel
    → IsRecordingOf taken f prologue before channels items old
    → IsRecordingOf taken f prologue before channels (items ++ item channel ∷ []) new
