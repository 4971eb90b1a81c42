use Rattle.std.proofs.Common.{◌≤◌, length}
use Rattle.std.specs.Io.KnownBytes.{Keeps, prepend_known}
use Rattle.ch11_stream.proofs.feed.fill.Given as goal

abbrev pub invariant-reads : goal.invariant-reads
invariant-reads g l = record {
  kept : Keeps (prepend_known l.fn.buffer.ready (g.R.Read.remaining l.fn.input)) (prepend_known l.buffer.ready (g.R.Read.remaining l.input));
  more : length l.fn.buffer.ready ≤ length l.buffer.ready;
}
