use Rattle.std.proofs.Common.{◌≡◌, ◌++◌, length}
use Rattle.bench_judge.specs.Junit.{escaped, escaped_behind}
use Rattle.bench_judge.proofs.escaping.put_escaped.Given as goal

-- those so far are written
abbrev pub invariant-bytes : goal.invariant-bytes
invariant-bytes l = l.text.items ++ escaped_behind l.inside l.rest ≡ l.fn.text.items ++ escaped l.value

abbrev pub decreases-bytes : goal.decreases-bytes
decreases-bytes l = length l.rest
