use Rattle.ch11_stream.proofs.WholeSkips.{all_given}
use Rattle.ch11_stream.proofs.laws.stretches_read_the_file.Goals as goal

pub returns : goal.returns
returns c = all_given
