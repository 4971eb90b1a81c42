use Rattle.std.proofs.Common.{◌≡◌, ◌-◌, ◌<◌, ◌≤◌, true, length, get_or, arith, rules}
use Rattle.mil_bus.specs.declared.wholes.Whole.{Whole}
use Rattle.mil_bus.proofs.KeptRuns.{last-all, last-none}
use Rattle.mil_bus.proofs.sent_words.is_controllers_run.Goals as goal

pub returns-in-Some : goal.returns-in-Some
returns-in-Some c = λ more.
    let rs = c.args.runs.now in
    let r : Whole = c.in-Some.last.now in
    let one : 0 < length rs = c.in-Some.ensures.item.3.0 in
    let is : get_or rs (length rs - 1) r ≡ r = search rules in
    last-all true rs c.args.values.now r more c.requires.counted c.requires.some one is

pub returns-in-None : goal.returns-in-None
returns-in-None c = λ more.
    let none : length c.args.runs.now ≤ 0 = c.in-None.ensures.item.3 in
    last-none c.args.runs.now c.args.values.now more (omega (arith, none))
