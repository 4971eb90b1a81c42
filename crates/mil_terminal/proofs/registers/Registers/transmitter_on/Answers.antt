use Rattle.mil_terminal.proofs.Quiets.{reads_on}
use Rattle.mil_terminal.proofs.registers.Registers.transmitter_on.Goals as goal

pub returns : goal.returns
returns c = λ h is. reads_on c.args.self.now c.args.line c.is_on.result h c.is_on.ensures is
