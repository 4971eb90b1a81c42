use Rattle.std.proofs.Common.{◌≡◌, ◌≤◌, ◌-◌, length, take}
use Rattle.std.specs.Io.KnownBytes.{Appends}
use Rattle.ch11_writer.proofs.writer.send.Given as goal

abbrev pub invariant-loop-count : goal.invariant-loop-count
invariant-loop-count g l = record {
  within : l.count ≤ length l.bytes;
  appended : Appends (g.S.Sink.taken l.fn.sink) (g.S.Sink.taken l.sink) (take l.count l.bytes);
  failures : g.S.Sink.failures l.sink ≡ g.S.Sink.failures l.fn.sink;
  finished : g.S.Sink.finished l.sink ≡ g.S.Sink.finished l.fn.sink;
}

abbrev pub decreases-loop-count : goal.decreases-loop-count
decreases-loop-count g l = length l.initial.bytes - l.count
