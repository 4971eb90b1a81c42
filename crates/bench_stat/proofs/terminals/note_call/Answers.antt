use Rattle.bench_stat.specs.declared.terminals.TerminalFigures.{TerminalFigures}
use Rattle.bench_stat.proofs.Addresses.{one_more_call}
use Rattle.bench_stat.proofs.terminals.note_call.Goals as goal

-- what a place past the end is read as
abbrev nothing : TerminalFigures
nothing = record { receive = 0; transmit = 0; mode = 0; errors = 0; responses = 0; total = 0; least = 0; greatest = 0 }

pub returns-clause-noted : goal.returns-clause-noted
returns-clause-noted c calls same = rw (c.note.ensures, c.from-place.ensures, same) (one_more_call c.args.call.now calls nothing c.requires.range)
