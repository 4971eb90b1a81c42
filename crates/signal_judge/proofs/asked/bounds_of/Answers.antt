use Rattle.std.proofs.Common.{◌∙◌, ap}
use Rattle.judge_rules.specs.Faults.{made}
use Rattle.signal_judge.specs.Asked.{in_order}
use Rattle.signal_judge.proofs.Asking.{numbers_both, numbers_of}
use Rattle.signal_judge.proofs.asked.bounds_of.Goals as goal

pub returns-in-Ok : goal.returns-in-Ok
returns-in-Ok c = c.in_order.ensures ∙ ap in_order (ap (made numbers_of) c.in-Ok.ensures ∙ numbers_both _ _ _ _ c.amount_in-least.ensures c.amount_in-most.ensures)

pub returns-in-Err : goal.returns-in-Err
returns-in-Err c = ap in_order (ap (made numbers_of) c.in-Err.ensures ∙ numbers_both _ _ _ _ c.amount_in-least.ensures c.amount_in-most.ensures)
