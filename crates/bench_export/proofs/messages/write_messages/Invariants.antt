use Rattle.std.proofs.Common.{length}
use Rattle.csv.specs.Writing.{text_written}
use Rattle.bench_export.specs.Between.{IsBetween}
use Rattle.bench_export.proofs.Written.{IsGoing}
use Rattle.bench_export.proofs.messages.write_messages.Given as goal

abbrev pub invariant-rows : goal.invariant-rows
invariant-rows g l = record {
  going : IsGoing l.table l.fn.clock l.kind (text_written g.W.Write.contents l.fn.writer) (text_written g.W.Write.contents l.writer) l.fn.packet.before l.number l.channel l.fn.messages l.rest;
  between : IsBetween l.writer;
}

abbrev pub decreases-rows : goal.decreases-rows
decreases-rows g l = length l.rest
