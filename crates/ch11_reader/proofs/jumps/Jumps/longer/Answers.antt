use Rattle.ch11_reader.proofs.Walks.{three_jumps}
use Rattle.ch11_reader.proofs.jumps.Jumps.longer.Goals as goal

pub returns : goal.returns
returns c = three_jumps c.args.self.now c.args.place c.args.next c.known-first.result c.known-second.result c.requires.order c.requires.leads c.known-first.ensures c.known-second.ensures
