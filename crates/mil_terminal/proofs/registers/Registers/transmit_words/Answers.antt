use Rattle.mil_terminal.proofs.Quiets.{reads_put_up}
use Rattle.mil_terminal.proofs.registers.Registers.transmit_words.Goals as goal

pub returns : goal.returns
returns c = λ h is. reads_put_up c.args.self.now c.args.sub c.put_up.result.now h c.requires c.put_up.ensures.value is
