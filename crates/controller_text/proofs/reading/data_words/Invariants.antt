use Rattle.std.proofs.Common.{◌≡◌, ◌+◌, ◌-◌, ◌≤◌, ◌++◌, List, ℕ, length}
use Rattle.std.specs.Prelude.{Ok}
use Rattle.text_lines.specs.Words.{words}
use Rattle.mil_host.specs.Reading.{and_then, all_data}
use Rattle.controller_text.proofs.reading.data_words.Given as goal

-- the data words so far, and those that are left
abbrev pub invariant-words : goal.invariant-words
invariant-words l = record {
  few : length l.values.items ≤ l.most;
  long : length (words l.text) ≡ length l.values.items + length (words l.rest);
  read : all_data l.most (words l.text) ≡ and_then (all_data (l.most - length l.values.items) (words l.rest)) (λ (rest : List ℕ). Ok (l.values.items ++ rest));
}

abbrev pub decreases-words : goal.decreases-words
decreases-words l = length (words l.rest)
