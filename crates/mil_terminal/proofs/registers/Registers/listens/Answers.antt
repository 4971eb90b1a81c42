use Rattle.mil_terminal.proofs.Acts.{listens-none, listens-some}
use Rattle.mil_terminal.proofs.registers.Registers.listens.Goals as goal

pub returns-in-Some : goal.returns-in-Some
returns-in-Some c = λ h is. listens-some c.args.self.now c.in-Some.pending c.args.line h c.same_line.result c.in-Some.is c.same_line.ensures is

pub returns-in-None : goal.returns-in-None
returns-in-None c = λ h is. listens-none c.args.self.now c.args.line h c.in-None.is is
