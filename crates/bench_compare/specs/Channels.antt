-- A channel of two recordings, compared message by message.
use Rattle.std.specs.Prelude.{◌≡◌, ℕ, List, [], ◌∷◌, ◌++◌, Option, None, Some, Result, Ok, Err}
use Rattle.ch11_layout.specs.Stamps.{Recorded}
use Rattle.ch11_reader.specs.Recording.{Found}
use Rattle.ch11_stream.specs.Folding.{IsFaultOf}
use Rattle.bench_select.specs.declared.selection.Selection.{Selection}
use Rattle.bench_compare.specs.Chosen.{chosen_in}
use Rattle.bench_compare.specs.Differences.{difference, differs_behind, first_stamp}
use Rattle.bench_compare.specs.Passes.{IsUnderWay, Passing, pass_to_come}
use Rattle.bench_compare.specs.declared.channels.Asked.{Asked}
use Rattle.bench_compare.specs.declared.channels.Standing.{Standing}
use Rattle.bench_compare.specs.declared.differences.Difference.{Difference}
use Rattle.bench_compare.specs.declared.differences.Origins.{Origins}
use Rattle.bench_compare.specs.declared.fault.CompareFault.{CompareFault}
use Rattle.bench_compare.specs.declared.fault.CompareFault.TheVariants.{First, Second}
use Rattle.bench_compare.specs.declared.fault.SideFault.{SideFault}
use Rattle.bench_compare.specs.declared.fault.SideFault.TheVariants.{Opening, Reading}

-- the stamps from which those of a channel are told: those that are known, or else these
abbrev pub origins_by : Option Origins → ℕ → ℕ → Origins
origins_by None first second = record { first = first; second = second }
origins_by (Some o) first second = o

abbrev pub origins_at : Option Origins → List Recorded → List Recorded → Origins
origins_at known xs ys = origins_by known (first_stamp xs) (first_stamp ys)

-- the first message that differs, where so much was compared and these are to come
abbrev pub left_of : ℕ → Standing → List Recorded → List Recorded → Option Difference
left_of within st xs ys = differs_behind within st.same (origins_at st.origins xs ys) xs ys

-- a message was compared with the next of the second recording, if there is one: it differs, or the rest decides
abbrev pub Compares : ℕ → Option Difference → Recorded → Option Recorded → Standing → Standing → Type 0
Compares within (Some d) a None before now = (xs : List Recorded) → left_of within before (a ∷ xs) [] ≡ Some d
Compares within None a None before now = ⊥
Compares within (Some d) a (Some b) before now =
    (xs ys : List Recorded) → left_of within before (a ∷ xs) (b ∷ ys) ≡ Some d
Compares within None a (Some b) before now =
    (xs ys : List Recorded) → left_of within before (a ∷ xs) (b ∷ ys) ≡ left_of within now xs ys

-- a fault of one of two recordings
abbrev pub IsFaultOfSide : List ℕ → SideFault → Type 0
IsFaultOfSide file (Opening e) = Unit {0}
IsFaultOfSide file (Reading f) = IsFaultOf file f

abbrev pub IsFaultOfSides : List ℕ → List ℕ → CompareFault → Type 0
IsFaultOfSides file other (First f) = IsFaultOfSide file f
IsFaultOfSides file other (Second f) = IsFaultOfSide other f

-- messages were compared with the next ones of the second recording: one differs, or the rest decides
abbrev pub ComparesAll : ℕ → Selection → ℕ → List ℕ → List ℕ → List Found → List Recorded
    → Result (Option Difference) CompareFault → Standing → Passing → Standing → Passing → Type 0
ComparesAll within s channel file other qs ms (Ok (Some d)) before pass now left =
    (xs : List Recorded) → left_of within before (ms ++ xs) (pass_to_come s channel qs pass) ≡ Some d
ComparesAll within s channel file other qs ms (Ok None) before pass now left =
    IsUnderWay other left.reading
    × ((xs : List Recorded) → left_of within before (ms ++ xs) (pass_to_come s channel qs pass)
    ≡ left_of within now xs (pass_to_come s channel qs left))
ComparesAll within s channel file other qs ms (Err f) before pass now left = IsFaultOfSides file other f

-- nothing more is to come of the first recording: the next message of the second is missing there, or there is none
abbrev pub EndsWith : ℕ → Selection → ℕ → List ℕ → List ℕ → List Found → Result (Option Difference) CompareFault
    → Standing → Passing → Type 0
EndsWith within s channel file other qs (Ok d) before pass =
    d ≡ left_of within before [] (pass_to_come s channel qs pass)
EndsWith within s channel file other qs (Err f) before pass = IsFaultOfSides file other f

-- the answer is the first message of the channel that differs, if any does
abbrev pub FindsDifference : Asked → List ℕ → List ℕ → List Found → List Found → Result (Option Difference) CompareFault
    → Type 0
FindsDifference asked file other ps qs (Ok d) =
    d ≡ difference asked.within (chosen_in asked.first.selection.now asked.first.channel ps)
    (chosen_in asked.second.selection.now asked.second.channel qs)
FindsDifference asked file other ps qs (Err f) = IsFaultOfSides file other f
