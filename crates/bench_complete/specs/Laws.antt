-- What holds of complete files.
use Rattle.std.specs.Prelude.{◌≡◌, ℕ, ◌<◌, ◌≤◌, ◌^◌, List, [], ◌∷◌, slice_index, Ok, None, option_map}
use Rattle.ch11_reader.specs.Recording.{Found, packets_in}
use Rattle.ch11_reader.specs.Contents.{reading}
use Rattle.bench_complete.specs.declared.additions.Additions.{Additions}
use Rattle.bench_complete.specs.Pieces.{Piece, kept_packets, leading}
use Rattle.bench_complete.specs.Merging.{of_channel, IsMerge}
use Rattle.bench_complete.specs.Complete.{IsComplete, plan_for}
use Rattle.bench_complete.specs.Judging.{judged_additions}

-- counters never fall
abbrev pub NeverFalls : List Piece → Type 0
NeverFalls [] = Unit {0}
NeverFalls (p ∷ []) = Unit {0}
NeverFalls (p ∷ (q ∷ ps)) = (p.header.counter ≤ q.header.counter) × NeverFalls (q ∷ ps)

-- there is no other merge of the same channels
abbrev pub MergeIsUnique : Type 0
MergeIsUnique = (parts other a b : List Piece) → ((channel : ℕ) → of_channel channel parts ≡ of_channel channel other)
    → IsMerge parts a → IsMerge other b → a ≡ b

-- where the counters of no channel fall, those of the merge don't
abbrev pub CountersStayInOrder : Type 0
CountersStayInOrder = (parts merged : List Piece) → IsMerge parts merged
    → ((channel : ℕ) → NeverFalls (of_channel channel parts)) → NeverFalls merged

-- a merge that is merged again stays as it is
abbrev pub MergeIsMerged : Type 0
MergeIsMerged = (parts merged : List Piece) → IsMerge parts merged → IsMerge merged merged

-- the numbers of the options fit their bytes
pub record AreOptions (a : Additions) : Type 0 where
  pub channel : a.time_channel < 2 ^ 16
  pub version : a.version < 2 ^ 8

-- the complete file of a recording can be read, and each channel of it is read as in the recording
abbrev pub ReadingStays : Type 0
ReadingStays =
    (file bytes : List ℕ) (a : Additions) (ps : List Found) → ((k : ℕ) → slice_index file k < 256) → AreOptions a
    → packets_in file ≡ Ok ps → judged_additions file (Ok ps) a ≡ Ok ps → IsComplete (plan_for file ps a) bytes
    → (qs : List Found) × (packets_in bytes ≡ Ok qs) × ((channel : ℕ) → reading qs channel ≡ reading ps channel)

-- a complete file can be read, nothing of it is refused where nothing is added, and its complete file has its bytes
abbrev pub StaysComplete : Type 0
StaysComplete =
    (file bytes : List ℕ) (a none : Additions) (ps : List Found) → ((k : ℕ) → slice_index file k < 256) → AreOptions a
    → packets_in file ≡ Ok ps → judged_additions file (Ok ps) a ≡ Ok ps → IsComplete (plan_for file ps a) bytes
    → none.setup ≡ None → none.start ≡ None
    → (qs : List Found) × (packets_in bytes ≡ Ok qs) × (judged_additions bytes (Ok qs) none ≡ Ok qs)
    × ((again : List ℕ) → IsComplete (plan_for bytes qs none) again → again ≡ bytes)

-- the packets of two recordings that go over: the same setup records lead them, and each channel has the same packets
-- in the same order
pub record HaveEqualParts (ps qs : List Piece) : Type 0 where
  pub leading : leading ps ≡ leading qs
  pub channels : (channel : ℕ) → of_channel channel ps ≡ of_channel channel qs

-- the same is added
pub record AddEqually (a b : Additions) : Type 0 where
  pub setup : option_map (λ text. text.now) a.setup ≡ option_map (λ text. text.now) b.setup
  pub start : a.start ≡ b.start
  pub channel : a.time_channel ≡ b.time_channel
  pub version : a.version ≡ b.version

-- recordings with equal parts are completed to the same file: two runs of the same jobs, whatever the order in which
-- their channels were written
abbrev pub EqualPartsEqualFiles : Type 0
EqualPartsEqualFiles =
    (file other bytes others : List ℕ) (a b : Additions) (ps qs : List Found)
    → HaveEqualParts (kept_packets file ps) (kept_packets other qs) → AddEqually a b
    → IsComplete (plan_for file ps a) bytes → IsComplete (plan_for other qs b) others → bytes ≡ others
