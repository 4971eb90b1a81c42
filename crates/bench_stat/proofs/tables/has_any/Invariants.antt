use Rattle.std.proofs.Common.{◌≡◌, take}
use Rattle.std.specs.Prelude.{false}
use Rattle.std.specs.List.{list_any}
use Rattle.bench_stat.specs.PageText.{has_messages}
use Rattle.bench_stat.proofs.tables.has_any.Given as goal

-- none so far
abbrev pub invariant-loop-flow : goal.invariant-loop-flow
invariant-loop-flow l = list_any (λ x. has_messages x) (take l.flow-index l.flows) ≡ false
