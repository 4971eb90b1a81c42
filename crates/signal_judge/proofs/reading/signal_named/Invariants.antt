use Rattle.std.proofs.Common.{◌≡◌, drop}
use Rattle.signal_judge.specs.Rules.{named}
use Rattle.signal_judge.proofs.reading.signal_named.Given as goal

-- none of the signals so far has the name
abbrev pub invariant-loop-signal : goal.invariant-loop-signal
invariant-loop-signal l = named l.signals l.name ≡ named (drop l.signal-index l.signals) l.name
