use Rattle.std.proofs.Common.{◌≡◌, ◌++◌, length}
use Rattle.std.specs.Prelude.{map}
use Rattle.bench_judge.specs.Colored.{steady}
use Rattle.bench_judge.proofs.colored.put_name.Given as goal

-- those so far are written
abbrev pub invariant-bytes : goal.invariant-bytes
invariant-bytes l = l.text.items ++ map steady l.rest ≡ l.fn.text.items ++ map steady l.name

abbrev pub decreases-bytes : goal.decreases-bytes
decreases-bytes l = length l.rest
