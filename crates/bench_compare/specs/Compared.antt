-- Two recordings, compared channel by channel (own choice).
use Rattle.std.specs.Prelude.{◌≡◌, ℕ, ◌==◌, ◌&&◌, Bool, if◌then◌else◌, List, [], ◌∷◌}
use Rattle.std.specs.Prelude.{◌++◌, length}
use Rattle.std.specs.Prelude.{Option, Result, Ok, Err, count_by, is_some}
use Rattle.std.specs.List.{flat_map, range_with_len}
use Rattle.ch11_layout.specs.Stamps.{Recorded}
use Rattle.ch11_reader.specs.Indexed.{found_in}
use Rattle.ch11_reader.specs.Recording.{Found, packets_in}
use Rattle.bench_select.specs.declared.selection.Selection.{Selection}
use Rattle.std.specs.Global.{Vec}
use Rattle.bench_compare.specs.Channels.{IsFaultOfSide, IsFaultOfSides}
use Rattle.bench_compare.specs.Chosen.{chosen_in}
use Rattle.bench_compare.specs.Differences.{difference}
use Rattle.bench_compare.specs.Counting.{AreCounts}
use Rattle.bench_compare.specs.declared.differences.Compared.{Compared}
use Rattle.bench_compare.specs.declared.differences.Difference.{Difference}
use Rattle.bench_compare.specs.declared.fault.CompareFault.{CompareFault}
use Rattle.bench_compare.specs.declared.fault.SideFault.{SideFault}

-- a channel of which these are the chosen messages
abbrev pub compared_of : ℕ → ℕ → List Recorded → List Recorded → Compared
compared_of within channel xs ys = record {
  channel = channel;
  first = length xs;
  second = length ys;
  difference = difference within xs ys;
}

-- none where neither recording has any
abbrev pub compared_if : Bool → Compared → List Compared
compared_if none c = if none then [] else c ∷ []

abbrev pub channel_of : ℕ → Selection → Selection → List Found → List Found → ℕ → List Compared
channel_of within s t ps qs channel =
    compared_if (length (chosen_in s channel ps) == 0 && length (chosen_in t channel qs) == 0)
    (compared_of within channel (chosen_in s channel ps) (chosen_in t channel qs))

-- the channels below a number of which one of them has a chosen message, in the order of their numbers
unfoldable pub compared_below : ℕ → Selection → Selection → List Found → List Found → ℕ → List Compared
compared_below within s t ps qs bound = flat_map (channel_of within s t ps qs) (range_with_len 0 bound)

-- all channels of which one of them has one
abbrev pub compared_in : ℕ → Selection → Selection → List Found → List Found → List Compared
compared_in within s t ps qs = compared_below within s t ps qs 65536

-- ---- on the way

-- how many messages of each channel of a file are chosen, or why they were not counted
abbrev pub CountsFile : Selection → List ℕ → Result (Vec ℕ) SideFault → Type 0
CountsFile s file (Ok counts) = (packets_in file ≡ Ok (found_in file)) × AreCounts s (found_in file) counts.items
CountsFile s file (Err f) = IsFaultOfSide file f

-- the first message of a channel that differs
abbrev pub FindsIn : ℕ → Selection → Selection → ℕ → List ℕ → List ℕ → List Found → List Found
    → Result (Option Difference) CompareFault → Type 0
FindsIn within s t channel file other ps qs (Ok d) =
    d ≡ difference within (chosen_in s channel ps) (chosen_in t channel qs)
FindsIn within s t channel file other ps qs (Err f) = IsFaultOfSides file other f

-- a channel was compared of which the recordings have so many messages
abbrev pub AddsChannel : ℕ → Selection → Selection → ℕ → List ℕ → List ℕ → List Found → List Found → ℕ × ℕ
    → {A : Type 0} → Result A CompareFault → List Compared → List Compared → Type 0
AddsChannel within s t channel file other ps qs counts (Ok x) before after =
    counts.0 ≡ length (chosen_in s channel ps) → counts.1 ≡ length (chosen_in t channel qs)
    → after ≡ before ++ channel_of within s t ps qs channel
AddsChannel within s t channel file other ps qs counts (Err f) before after = IsFaultOfSides file other f

abbrev pub ComparesCounted : ℕ → Selection → Selection → List ℕ → List ℕ → List Found → List Found
    → Result (Vec Compared) CompareFault → Type 0
ComparesCounted within s t file other ps qs (Ok cs) = cs.items ≡ compared_in within s t ps qs
ComparesCounted within s t file other ps qs (Err f) = IsFaultOfSides file other f

-- how many of them differ
abbrev pub differing : List Compared → ℕ
differing cs = count_by (λ (c : Compared). is_some c.difference) cs

-- what comparing two files comes to
abbrev pub ComparesFiles : ℕ → Selection → Selection → List ℕ → List ℕ → Result (Vec Compared) CompareFault → Type 0
ComparesFiles within s t file other (Ok cs) =
    (packets_in file ≡ Ok (found_in file)) × (packets_in other ≡ Ok (found_in other))
    × (cs.items ≡ compared_in within s t (found_in file) (found_in other))
ComparesFiles within s t file other (Err f) = IsFaultOfSides file other f
