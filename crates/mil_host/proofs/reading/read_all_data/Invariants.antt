use Rattle.std.proofs.Common.{◌≡◌, ◌+◌, ◌-◌, ◌≤◌, ◌++◌, List, ℕ, length}
use Rattle.std.specs.Prelude.{Ok}
use Rattle.mil_host.specs.Reading.{and_then, all_data}
use Rattle.mil_host.proofs.reading.read_all_data.Given as goal

abbrev pub invariant-loop-word : goal.invariant-loop-word
invariant-loop-word l = record {
  few : length l.values.items ≤ 32;
  long : length l.initial.words ≡ length l.values.items + length l.words;
  read : all_data 32 l.initial.words ≡ and_then (all_data (32 - length l.values.items) l.words) (λ (rest : List ℕ). Ok (l.values.items ++ rest));
}

abbrev pub decreases-loop-word : goal.decreases-loop-word
decreases-loop-word l = length l.words
