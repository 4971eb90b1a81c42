use Rattle.std.proofs.Common.{◌≡◌, ◌++◌, drop}
use Rattle.bench_view.specs.Lines.{values_text}
use Rattle.bench_view.proofs.line.put_values.Given as goal

-- the values so far, and those of the signals that are left
abbrev pub invariant-signals : goal.invariant-signals
invariant-signals l = l.text.items ++ values_text (drop l.index l.signals) l.index l.channel l.view
    ≡ l.fn.text.items ++ values_text l.signals 0 l.channel l.view
