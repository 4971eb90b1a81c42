use Rattle.mil_terminal.proofs.Bits.{is_read}
use Rattle.mil_terminal.proofs.marks.Marks.has.Goals as goal

pub returns : goal.returns
returns c = is_read c.args.self.now c.args.transmit c.args.sub c.args.count c.row_of.result c.row_of.ensures.value
