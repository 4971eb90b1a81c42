use Rattle.controller_text.proofs.ControlsBack.{back, one_line}
use Rattle.controller_text.proofs.printing.reads_back.Goals as goal

pub returns-clause-back : goal.returns-clause-back
returns-clause-back c = back c.args.control.now c.keeps_ranges.ensures

pub returns-clause-one_line : goal.returns-clause-one_line
returns-clause-one_line c = one_line c.args.control.now c.keeps_ranges.ensures
