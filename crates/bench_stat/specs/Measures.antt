-- How long messages take, and how numbers are put together (own choice).
use Rattle.std.specs.Prelude.{ℕ, ◌+◌, ◌*◌, ◌-◌, Bool, if◌then◌else◌, List, [], ◌∷◌, min, max}
use Rattle.mil_word.specs.Timing.{word_time, contiguous_gap}
use Rattle.ch11_layout.specs.Stamps.{Recorded}
use Rattle.ch11_layout.specs.Layouts.{size_of, first_gap, second_gap}
use Rattle.ch11_reader.specs.Contents.{capped}

abbrev pub one_if : Bool → ℕ
one_if b = if b then 1 else 0

-- how long a message takes, in ticks: 200 a word, and what lies between its words. A gap is measured from the middle
-- of a parity bit to the middle of a sync, which is 20 ticks where nothing lies between (4.3.3.7, 4.3.3.8).
abbrev pub duration : Recorded → ℕ
duration m = word_time * size_of m + ((first_gap m - contiguous_gap) + (second_gap m - contiguous_gap))

-- the end of a message, in ticks
abbrev pub end_of : Recorded → ℕ
end_of m = capped (m.stamp + duration m)

-- the least number of a list, or a bound
abbrev pub least : ℕ → List ℕ → ℕ
least bound [] = bound
least bound (n ∷ ns) = min n (least bound ns)

-- the greatest number of a list, 0 where it is empty
abbrev pub greatest : List ℕ → ℕ
greatest [] = 0
greatest (n ∷ ns) = max n (greatest ns)
