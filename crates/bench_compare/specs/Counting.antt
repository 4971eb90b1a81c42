-- How many messages of each channel are chosen.
use Rattle.std.specs.Prelude.{◌≡◌, ℕ, ◌<◌, List, length, slice_index}
use Rattle.ch11_reader.specs.Recording.{Found}
use Rattle.bench_select.specs.declared.selection.Selection.{Selection}
use Rattle.bench_compare.specs.Chosen.{chosen_in}

abbrev pub AreCounts : Selection → List Found → List ℕ → Type 0
AreCounts s ps counts = (channel : ℕ) → channel < 65536
    → slice_index counts channel ≡ length (chosen_in s channel ps)
