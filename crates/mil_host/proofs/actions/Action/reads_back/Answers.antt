use Rattle.mil_host.proofs.ReadingBack.{reads-back, one_line}
use Rattle.mil_host.proofs.actions.Action.reads_back.Goals as goal

pub returns-clause-back : goal.returns-clause-back
returns-clause-back c = reads-back c.args.self.now c.keeps_ranges.ensures

pub returns-clause-one_line : goal.returns-clause-one_line
returns-clause-one_line c = one_line c.args.self.now c.keeps_ranges.ensures
