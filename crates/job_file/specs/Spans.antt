-- The messages of a line that speaks of many, and the actions of a series (own choice).
use Rattle.std.specs.Prelude.{ℕ, ◌+◌, ◌-◌, ◌*◌, ◌/◌, ◌%◌, ◌≤◌, List, [], ◌∷◌, map}
use Rattle.std.specs.List.{range_with_len}
use Rattle.mil_host.specs.declared.actions.Action.TheVariants.{Transmit}
use Rattle.bc_machine.specs.declared.placed.Placed.{Placed}
use Rattle.bc_machine.specs.declared.placed.HostAction.TheVariants.{Terminal}
use Rattle.job_file.specs.declared.spans.Span.{Span}
use Rattle.job_file.specs.declared.spans.Series.{Series}

-- each number in its range, and the first no later than the last
pub record IsSpan (s : Span) : Type 0 where
  pub low : 1 ≤ s.first
  pub rising : s.first ≤ s.last
  pub high : s.last ≤ 1000000
  pub apart : 1 ≤ s.step

-- how many messages there are from the first to the last, one at each step
abbrev pub span_count : Span → ℕ
span_count s = (s.last - s.first) / s.step + 1

-- the number of the k-th of them, k from 0
abbrev pub span_number : Span → ℕ → ℕ
span_number s k = s.first + k * s.step

-- FIRST, FIRST + STEP and so on, up to LAST
abbrev pub numbers_of : Span → List ℕ
numbers_of s = map (span_number s) (range_with_len 0 (span_count s))

-- the data word of the k-th message of a series
abbrev pub word_at : Series → ℕ → ℕ
word_at s k = (s.start + k * s.add) % 65536

-- its action: the terminal puts this word up for a transmit command at the subaddress
abbrev pub placed_at : Series → ℕ → Placed
placed_at s k = record {
  number = span_number s.span k;
  action = Terminal s.address (Transmit (record { sub = s.sub; words = word_at s k ∷ [] }));
}

abbrev pub placed_by : Series → List Placed
placed_by s = map (placed_at s) (range_with_len 0 (span_count s.span))
