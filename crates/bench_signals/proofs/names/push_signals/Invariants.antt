use Rattle.std.proofs.Common.{◌≡◌, ◌++◌, drop}
use Rattle.bench_signals.specs.Sheets.{signal_names}
use Rattle.bench_signals.proofs.names.push_signals.Given as goal

-- the names so far, and those that are left
abbrev pub invariant-signals : goal.invariant-signals
invariant-signals l = l.row ++ signal_names (drop l.signal-index l.signals) ≡ l.fn.row ++ signal_names l.signals
