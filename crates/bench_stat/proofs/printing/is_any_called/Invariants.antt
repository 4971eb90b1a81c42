use Rattle.std.proofs.Common.{◌≡◌, take}
use Rattle.std.specs.Prelude.{false}
use Rattle.std.specs.List.{list_any}
use Rattle.bench_stat.specs.ChannelText.{is_called}
use Rattle.bench_stat.proofs.printing.is_any_called.Given as goal

-- none so far
abbrev pub invariant-loop-terminal : goal.invariant-loop-terminal
invariant-loop-terminal l = list_any (λ x. is_called x) (take l.terminal-index l.terminals) ≡ false
