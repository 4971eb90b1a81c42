use Rattle.std.proofs.Common.{◌≡◌, length, sym, ◌∙◌}
use Rattle.mil_bus.specs.Offers.{offered, given}
use Rattle.mil_bus.proofs.OneRun.{runs-unsaid, runs-said}
use Rattle.mil_bus.proofs.runs.turn.Goals as goal

pub returns-then-not-say_run : goal.returns-then-not-say_run
returns-then-not-say_run c = λ left.
    runs-unsaid left c.args.line c.args.faults.now c.args.number (offered c.args.offer.now) c.args.sent.now.items c.say_run.new.sent.items c.args.terminals.now c.say_run.new.terminals
    c.say_run.ensures.said (sym c.say_run.ensures.some ∙ c.if-not-say_run.true)

pub returns : goal.returns
returns c = λ left.
    runs-said left c.args.line c.args.faults.now c.args.number (offered c.args.offer.now) c.args.sent.now.items c.say_run.new.sent.items c.args.terminals.now c.say_run.new.terminals c.quiet.new.self
    (given c.quiet.result c.quiet.new.offer) c.say_run.ensures.said (sym c.say_run.ensures.some ∙ c.if-not-say_run.false) c.quiet.ensures.after c.quiet.ensures.first
