use Rattle.std.proofs.Common.{◌∙◌, refl, sym}
use Rattle.signal_judge.proofs.tallies.value_selected.Goals as goal

pub returns-then-here : goal.returns-then-here
returns-then-here c = rw (sym c.is_here-here.ensures ∙ c.if-here.true) c.value_in.ensures

pub returns-else-here : goal.returns-else-here
returns-else-here c = rw (sym c.is_here-here.ensures ∙ c.if-here.false) refl
