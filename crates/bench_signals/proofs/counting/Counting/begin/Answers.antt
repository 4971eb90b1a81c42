use Rattle.std.proofs.Common.{◌≡◌, ℕ, None}
use Rattle.std.specs.Prelude.{nat_eq}
use Rattle.std.specs.HashMap.{get}
use Rattle.bench_signals.proofs.Counted.{nothing_counted}
use Rattle.bench_signals.proofs.counting.Counting.begin.Goals as goal

pub returns : goal.returns
returns c = λ selection signals.
    let none : (key : ℕ) → get nat_eq c.new.result key ≡ None = λ key. rw c.new.ensures.empty in
    nothing_counted selection signals _ none
