use Rattle.std.proofs.Common.{◌≡◌, ◌++◌, length}
use Rattle.std.specs.List.{flat_map}
use Rattle.bench_judge.specs.Told.{datum_told}
use Rattle.bench_judge.proofs.expected.put_each.Given as goal

-- those so far are written
abbrev pub invariant-words : goal.invariant-words
invariant-words l = l.text.items ++ flat_map datum_told l.rest ≡ l.fn.text.items ++ flat_map datum_told l.wanted

abbrev pub decreases-words : goal.decreases-words
decreases-words l = length l.rest
