use Rattle.ch11_header.proofs.Again.{read_again}
use Rattle.ch11_header.proofs.laws.written_is_read.Goals as goal

pub returns : goal.returns
returns c = read_again
