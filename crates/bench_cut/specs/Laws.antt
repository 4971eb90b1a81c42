-- What holds of recordings that are cut from others.
use Rattle.std.specs.Prelude.{◌≡◌, ℕ, ◌+◌, ◌-◌, ◌%◌, ◌<◌, ◌==◌, true, false, ◌&&◌, if◌then◌else◌, List, []}
use Rattle.std.specs.Prelude.{◌∷◌, ◌++◌, length, slice_index, Ok}
use Rattle.std.specs.List.{AllByRecursion}
use Rattle.ch11_f1.specs.BodyReading.{Message}
use Rattle.ch11_layout.specs.Stamps.{kind_of}
use Rattle.ch11_reader.specs.Contents.{reading}
use Rattle.ch11_reader.specs.Recording.{Found, packets_in}
use Rattle.ch11_header.specs.Kinds.{recording_index}
use Rattle.bench_select.specs.declared.selection.Selection.{Selection}
use Rattle.bench_select.specs.Selecting.{is_all}
use Rattle.bench_cut.specs.Cut.{cut_bytes}
use Rattle.bench_cut.specs.Numbers.{is_of, number_behind, went_over}
use Rattle.bench_cut.specs.Parts.{Part, chosen_among, goes_over}

-- ---- what is read of it

-- the messages of a channel that are chosen, in the file's order, behind so many messages of the file
abbrev pub chosen_behind : Selection → ℕ → ℕ → List Found → List Message
chosen_behind s channel before [] = []
chosen_behind s channel before (p ∷ ps) =
    (if p.header.channel == channel then chosen_among s (kind_of p.header) before p.header.channel p.messages else [])
    ++ chosen_behind s channel (before + length p.messages) ps

-- what was cut can be read, and of each channel it is read as what was chosen of it, in order
abbrev pub CutIsRead : Type 0
CutIsRead =
    (s : Selection) (file : List ℕ) (ps : List Found) → ((k : ℕ) → slice_index file k < 256) → packets_in file ≡ Ok ps
    → (qs : List Found) × (packets_in (cut_bytes s file ps) ≡ Ok qs)
    × ((channel : ℕ) → reading qs channel ≡ chosen_behind s channel 0 ps)

-- ---- the loss that its numbers tell

-- what a number is above the one before it and 1, modulo 256
abbrev pub jump : ℕ → ℕ → ℕ
jump before number = (number + (255 - before)) % 256

-- the jumps of a channel of the recording, up to this number, since the last packet of it that went over
abbrev pub jumps_up_to : ℕ → List Part → ℕ → ℕ
jumps_up_to channel [] number = 0
jumps_up_to channel (p ∷ earlier) number =
    if is_of channel p
    then jump p.header.sequence number + (if goes_over p then 0 else jumps_up_to channel earlier p.header.sequence)
    else jumps_up_to channel earlier number

-- the number with which the last packet of the channel went over
abbrev pub last_number : ℕ → List Part → ℕ
last_number channel [] = 0
last_number channel (p ∷ earlier) =
    if is_of channel p && goes_over p then number_behind earlier p else last_number channel earlier

-- a packet whose sequence number is a byte
abbrev pub IsNumbered : Part → Type 0
IsNumbered p = p.header.sequence < 256

-- The first packet of a channel that goes over keeps its number; each later one has that of the one before it and 1,
-- and besides the jumps of the recording between the two.
abbrev pub NumbersTellLoss : Type 0
NumbersTellLoss =
    (earlier : List Part) (p : Part) → AllByRecursion IsNumbered earlier → IsNumbered p
    → (went_over p.header.channel earlier ≡ false → number_behind earlier p ≡ p.header.sequence)
    × (went_over p.header.channel earlier ≡ true → number_behind earlier p
    ≡ (last_number p.header.channel earlier + 1 + jumps_up_to p.header.channel earlier p.header.sequence) % 256)

-- ---- a copy

-- no packet is an index of a recording
abbrev pub HaveNoIndex : List Found → Type 0
HaveNoIndex ps = AllByRecursion (λ (p : Found). (p.header.kind == recording_index) ≡ false) ps

-- where nothing is asked of messages, and there is no index of a recording, what was cut is the recording itself
abbrev pub CopyStays : Type 0
CopyStays =
    (s : Selection) (file : List ℕ) (ps : List Found) → ((k : ℕ) → slice_index file k < 256) → packets_in file ≡ Ok ps
    → is_all s ≡ true → HaveNoIndex ps → cut_bytes s file ps ≡ file
