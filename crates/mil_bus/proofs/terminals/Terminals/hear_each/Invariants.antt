use Rattle.std.proofs.Common.{◌≡◌, drop}
use Rattle.mil_bus.specs.Exchange.{all_hearing}
use Rattle.mil_bus.proofs.terminals.Terminals.hear_each.Given as goal

abbrev pub invariant-loop-word : goal.invariant-loop-word
invariant-loop-word l = all_hearing l.line (drop l.word-index l.words) l.self ≡ all_hearing l.line l.words l.fn.self
