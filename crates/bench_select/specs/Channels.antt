-- A mark for each channel; the number of a channel has 16 bits (IRIG 106-17, 11.2.1.1).
use Rattle.std.specs.Prelude.{◌≡◌, ℕ, ◌<◌, Bool, false, List, slice_index_or}

-- there is a mark at each channel that meets the test, and at no other
abbrev pub AreMarks : (ℕ → Bool) → List Bool → Type 0
AreMarks has marks = (channel : ℕ) → channel < 65536 → slice_index_or marks channel false ≡ has channel
