use Rattle.bc_machine.proofs.Coming.{not_stops}
use Rattle.bc_machine.proofs.Ahead.{halt_comes, quiet_comes}
use Rattle.bc_machine.proofs.parts.Parts.next_message.Goals as goal

pub returns-in-Halt-clause-value : goal.returns-in-Halt-clause-value
returns-in-Halt-clause-value c = halt_comes c.args.self.now c.next_waiting.result c.in-Halt.ensures c.next_waiting.ensures.value

pub returns-in_default-clause-value : goal.returns-in_default-clause-value
returns-in_default-clause-value c =
    quiet_comes c.args.self.now c.op.result c.op.ensures (not_stops c.op.result c.in_default.not-Halt c.in_default.not-Send c.in_default.not-Alt)
