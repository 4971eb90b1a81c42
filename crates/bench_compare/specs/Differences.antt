-- In what two messages differ, and the first two of a channel that do (own choice). Times are in ticks of 0.1 µs; a
-- stamp is told by its distance from the first message of its channel (IRIG 106-17 Chapter 11, MIL-STD-1553 bus data
-- packets, Format 1: time stamp, block status word, gap times word, bus words).
use Rattle.std.specs.Prelude.{ℕ, ◌+◌, ◌-◌, ◌/◌, ◌%◌, ◌==◌, Bool, true, false, not, ◌&&◌, ◌||◌, nat_le, if◌then◌else◌}
use Rattle.std.specs.Prelude.{List, [], ◌∷◌, Option, None, Some}
use Rattle.std.specs.Str.{bytes_eq}
use Rattle.ch11_layout.specs.BlockStatus.{is_on_line_b}
use Rattle.ch11_layout.specs.Stamps.{Recorded}
use Rattle.bench_compare.specs.declared.differences.Difference.{Difference}
use Rattle.bench_compare.specs.declared.differences.Origins.{Origins}
use Rattle.bench_compare.specs.declared.differences.Part.{Part}
use Rattle.bench_compare.specs.declared.differences.Part.TheVariants.{Stamp, Line, Words, Block, Gaps}
use Rattle.bench_compare.specs.declared.differences.Part.TheVariants.{MissingInFirst, MissingInSecond}

-- ---- two messages

-- how far two numbers are apart
abbrev pub apart : ℕ → ℕ → ℕ
apart a b = (a - b) + (b - a)

-- the distances of two stamps from the first ones are at most so many ticks apart
abbrev pub are_near : ℕ → Origins → ℕ → ℕ → Bool
are_near within o stamp other = nat_le (apart (stamp + o.second) (other + o.first)) within

-- neither reply is there, or both are and their gaps are at most so many ticks apart
abbrev pub is_like : ℕ → ℕ → ℕ → Bool
is_like within gap other = if gap == 0 || other == 0 then gap == other else nat_le (apart gap other) within

-- of both replies
abbrev pub are_like : ℕ → ℕ → ℕ → Bool
are_like within gaps other = is_like within (gaps % 256) (other % 256) && is_like within (gaps / 256) (other / 256)

-- both are on line B, or neither is
abbrev pub are_equal : Bool → Bool → Bool
are_equal true b = b
are_equal false b = not b

-- the first part in which two messages differ, if any does
abbrev pub part_of : ℕ → Origins → Recorded → Recorded → Option Part
part_of within o a b =
    if not (are_near within o a.stamp b.stamp) then Some Stamp
    else if not (are_equal (is_on_line_b a.block) (is_on_line_b b.block)) then Some Line
    else if not (bytes_eq a.bytes b.bytes) then Some Words
    else if not (a.block == b.block) then Some Block
    else if not (are_like within a.gaps b.gaps) then Some Gaps
    else None

-- ---- two readings of a channel

-- the stamp of a first message, 0 where there is none
abbrev pub first_stamp : List Recorded → ℕ
first_stamp [] = 0
first_stamp (m ∷ ms) = m.stamp

abbrev pub origins_of : List Recorded → List Recorded → Origins
origins_of xs ys = record { first = first_stamp xs; second = first_stamp ys }

abbrev pub difference_at : ℕ → Part → Origins → Option Recorded → Option Recorded → Difference
difference_at number part o first second = record {
  number = number;
  part = part;
  first = first;
  second = second;
  origins = o;
}

-- what comes of two messages, where the rest comes to this
abbrev pub differs_by : Option Part → ℕ → Origins → Recorded → Recorded → Option Difference → Option Difference
differs_by None number o a b others = others
differs_by (Some part) number o a b others = Some (difference_at number part o (Some a) (Some b))

-- the first message that differs, behind so many that don't
abbrev pub differs_behind : ℕ → ℕ → Origins → List Recorded → List Recorded → Option Difference
differs_behind within same o [] [] = None
differs_behind within same o [] (b ∷ ys) = Some (difference_at (same + 1) MissingInFirst o None (Some b))
differs_behind within same o (a ∷ xs) [] = Some (difference_at (same + 1) MissingInSecond o (Some a) None)
differs_behind within same o (a ∷ xs) (b ∷ ys) =
    differs_by (part_of within o a b) (same + 1) o a b (differs_behind within (same + 1) o xs ys)

-- the first message in which two readings of a channel differ, if any does
abbrev pub difference : ℕ → List Recorded → List Recorded → Option Difference
difference within xs ys = differs_behind within 0 (origins_of xs ys) xs ys
