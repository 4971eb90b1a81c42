use Rattle.ch11_stream.proofs.Readings.{all_read}
use Rattle.ch11_stream.proofs.laws.steps_read_the_file.Goals as goal

pub returns : goal.returns
returns c = all_read
