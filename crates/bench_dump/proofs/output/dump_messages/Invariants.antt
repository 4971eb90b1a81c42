use Rattle.std.proofs.Common.{length}
use Rattle.bench_dump.proofs.Steps.{IsGoing}
use Rattle.bench_dump.proofs.output.dump_messages.Given as goal

abbrev pub invariant-lines : goal.invariant-lines
invariant-lines g l = IsGoing (g.W.Write.contents l.fn.out) l.fn.text (g.W.Write.contents l.out) l.text l.fn.clock l.fn.kind l.fn.before l.number l.channel l.fn.messages l.rest

abbrev pub decreases-lines : goal.decreases-lines
decreases-lines g l = length l.rest
