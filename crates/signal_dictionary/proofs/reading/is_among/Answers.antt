use Rattle.signal_dictionary.proofs.Among.{among_parts}
use Rattle.signal_dictionary.proofs.reading.is_among.Goals as goal

pub returns : goal.returns
returns c = rw c.has_name.ensures (among_parts c.args.name.now c.args.signals.now)
