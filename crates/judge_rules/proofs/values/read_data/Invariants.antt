use Rattle.std.proofs.Common.{◌≡◌, ◌+◌, ◌-◌, ◌≤◌, ◌++◌, List, length}
use Rattle.std.specs.Prelude.{Ok}
use Rattle.judge_rules.specs.declared.rules.Datum.{Datum}
use Rattle.judge_rules.specs.Values.{and_then, all_data}
use Rattle.judge_rules.proofs.values.read_data.Given as goal

abbrev pub invariant-loop-word : goal.invariant-loop-word
invariant-loop-word l = record {
  few : length l.found.items ≤ 32;
  long : length l.initial.words ≡ length l.found.items + length l.words;
  read : all_data 32 l.initial.words ≡ and_then (all_data (32 - length l.found.items) l.words) (λ (rest : List Datum). Ok (l.found.items ++ rest));
}

abbrev pub decreases-loop-word : goal.decreases-loop-word
decreases-loop-word l = length l.words
