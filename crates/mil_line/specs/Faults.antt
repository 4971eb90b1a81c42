-- What the planned faults make of one run (own choice).
use Rattle.std.specs.Prelude.{ℕ, Bool, false, ◌&&◌, ◌==◌, if◌then◌else◌, List, [], ◌∷◌, ◌++◌, map, Option}
use Rattle.std.specs.Prelude.{None, bit_xor, replicate}
use Rattle.std.specs.List.{list_any, filter_map, flat_map}
use Rattle.std.proofs.Common.{suc}
use Rattle.mil_word.specs.Timing.{contiguous_gap}
use Rattle.mil_word.specs.Wave.{wave_of}
use Rattle.mil_word.specs.Words.{value_if, data_wave}
use Rattle.mil_line.specs.declared.faults.Fault.{Fault}
use Rattle.mil_line.specs.declared.faults.Fault.TheVariants.{Mask, Drop, Add, Late, Mute, Early, Pause, Babble}
use Rattle.mil_line.specs.declared.line_words.LineWord.{LineWord}

-- the half bits that a fault inverts at a place of a run
abbrev pub mask_at : ℕ → ℕ → Fault → Option ℕ
mask_at run index (Mask r i half_bits) = value_if (r == run && i == index) half_bits
mask_at run index _ = None

-- whether a fault leaves out the word at a place
abbrev pub drops : ℕ → ℕ → Fault → Bool
drops run index (Drop r i) = r == run && i == index
drops run index _ = false

-- the gap that a fault sets for the word at a place
abbrev pub pause_at : ℕ → ℕ → Fault → Option ℕ
pause_at run index (Pause r i ticks) = value_if (r == run && i == index) ticks
pause_at run index _ = None

-- the wave that a fault adds after a place
abbrev pub added_at : ℕ → ℕ → Fault → Option ℕ
added_at run index (Add r i word) = value_if (r == run && i == index) (wave_of word)
added_at run index _ = None

-- the waves that a fault adds behind the words of a run
abbrev pub babble_of : ℕ → Fault → List ℕ
babble_of run (Babble r count word) = if r == run then replicate count (data_wave word) else []
babble_of run _ = []

-- whether a fault silences a run
abbrev pub mutes : ℕ → Fault → Bool
mutes run (Mute r) = r == run
mutes run _ = false

-- the gap that a fault sets for a run
abbrev pub reply_gap_by : ℕ → Fault → Option ℕ
reply_gap_by run (Late r ticks) = value_if (r == run) ticks
reply_gap_by run (Early r ticks) = value_if (r == run) ticks
reply_gap_by run _ = None

-- a wave under masks, which add up bit by bit
abbrev pub inverted : List ℕ → ℕ → ℕ
inverted [] wave = wave
inverted (mask ∷ masks) wave = inverted masks (bit_xor wave mask)

abbrev pub last_or : ℕ → List ℕ → ℕ
last_or x [] = x
last_or x (y ∷ ys) = last_or y ys

-- a word that follows the one before at once (MIL-STD-1553B 4.3.3.6)
abbrev pub at_once : ℕ → LineWord
at_once wave = record { wave = wave; gap = contiguous_gap }

-- the word at a place, as it comes on the line: with a pause before it, the last one there, or at once
abbrev pub word_under_faults : List Fault → ℕ → ℕ → ℕ → LineWord
word_under_faults faults run index wave = record {
  wave = inverted (filter_map (mask_at run index) faults) wave;
  gap = last_or contiguous_gap (filter_map (pause_at run index) faults);
}

-- what comes on the line for one word: it, unless it is dropped, and then what is added, in the plan's order
abbrev pub words_under_faults : List Fault → ℕ → ℕ → ℕ → List LineWord
words_under_faults faults run index wave =
    (if list_any (drops run index) faults then [] else word_under_faults faults run index wave ∷ [])
    ++ map at_once (filter_map (added_at run index) faults)

-- what comes on the line for the words from an index on
abbrev pub altered_from : List Fault → ℕ → ℕ → List ℕ → List LineWord
altered_from faults run index [] = []
altered_from faults run index (wave ∷ waves) = words_under_faults faults run index wave
    ++ altered_from faults run (suc index) waves

-- What comes on the line for the words of a run, and behind them what is added to the run, in the plan's order: nothing
-- of a run that is silenced. The gap of the first of them does not count: the run has a gap of its own.
abbrev pub altered : List Fault → ℕ → List ℕ → List LineWord
altered faults run waves = if list_any (mutes run) faults then []
    else altered_from faults run 0 waves ++ map at_once (flat_map (babble_of run) faults)

-- the gap of a run, where its sender gives this one: the last fault counts
abbrev pub gap_of : List Fault → ℕ → ℕ → ℕ
gap_of faults run gap = last_or gap (filter_map (reply_gap_by run) faults)
