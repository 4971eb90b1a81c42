use Rattle.mil_terminal.proofs.Bits.{mode_is_read}
use Rattle.mil_terminal.proofs.marks.Marks.has_mode.Goals as goal

pub returns : goal.returns
returns c = mode_is_read c.args.self.now c.args.transmit c.args.code c.row_of.result c.row_of.ensures.value
