use Rattle.bc_machine.proofs.Coming.{still, halt_answers, not_stops}
use Rattle.bc_machine.proofs.parts.Parts.upcoming.Goals as goal

pub returns-in-Halt : goal.returns-in-Halt
returns-in-Halt c = halt_answers c.args.self.now c.requires.counted c.inserted.result c.in-Halt.ensures c.inserted.ensures.comes c.inserted.ensures.soon

pub returns-in_default : goal.returns-in_default
returns-in_default c =
    still c.args.self.now c.requires.counted c.op.result c.op.ensures c.requires.going (not_stops c.op.result c.in_default.not-Halt c.in_default.not-Send c.in_default.not-Alt)
