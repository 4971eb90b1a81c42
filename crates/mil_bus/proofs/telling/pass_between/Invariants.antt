use Rattle.std.proofs.Common.{◌≡◌, ℕ, ◌≤◌, List, length, get_or, take}
use Rattle.mil_terminal.specs.Station.{Station}
use Rattle.mil_bus.specs.Index.{HasCome, first_answer}
use Rattle.mil_bus.proofs.telling.pass_between.Given as goal

abbrev pub invariant-loop-i : goal.invariant-loop-i
invariant-loop-i g l = record {
  long : length l.terminals.items ≡ length l.fn.terminals.items;
  rest : (k : ℕ) (d : Station) → l.i ≤ k → get_or l.terminals.items k d ≡ get_or l.fn.terminals.items k d;
  come : (old : List Station) (opened : ℕ) → HasCome (g.C.Coming.makes l.coming) old l.fn.terminals.items l.from opened → HasCome (g.C.Coming.makes l.coming) old l.terminals.items l.i opened;
  silent : (old : List Station) (opened : ℕ) → HasCome (g.C.Coming.makes l.coming) old l.fn.terminals.items l.from opened → first_answer (g.C.Coming.answers l.coming) (take l.i old) ≡ first_answer (g.C.Coming.answers l.coming) (take l.from old);
}
