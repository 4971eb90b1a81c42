use Rattle.std.proofs.Common.{◌≡◌, ◌≤◌, length, take}
use Rattle.std.specs.Option.{option_or}
use Rattle.mil_bus.specs.Index.{HasCome, first_answer}
use Rattle.mil_bus.proofs.telling.tell_all.Given as goal

abbrev pub invariant-loop-step : goal.invariant-loop-step
invariant-loop-step g l = record {
  come : HasCome (g.C.Coming.makes l.coming) l.fn.terminals.items l.terminals.items l.from l.opened;
  first : g.C.Coming.answered l.answer ≡ option_or (g.C.Coming.answered l.fn.answer) (first_answer (g.C.Coming.answers l.coming) (take l.from l.fn.terminals.items));
  far : l.from ≤ l.count;
  near : l._step ≤ l.from;
  count : l.count ≡ length l.fn.terminals.items;
}
