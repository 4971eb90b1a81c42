use Rattle.mil_terminal.proofs.Quiets.{reads_status}
use Rattle.mil_terminal.proofs.registers.Registers.status.Goals as goal

pub returns : goal.returns
returns c = λ h is. reads_status c.args.self.now c.word.result h c.word.ensures is
