use Rattle.std.proofs.Common.{◌≡◌, ◌<◌, ◌≤◌, ◌+◌, ◌*◌, ◌^◌, false, length, sum}
use Rattle.mil_trunk.specs.Ends.{IsTakerOf, bounds_in, received}
use Rattle.bench_run.specs.Writer.{Records}
use Rattle.bench_run.proofs.writer.write.Given as goal

abbrev pub invariant-loop : goal.invariant-loop
invariant-loop g l = record {
  again : (goal.iterator-loop g).can_next l.iterator' × (goal.iterator-loop g).is_finite l.iterator';
  ours : IsTakerOf l.trunk l.taker;
  bounds : sum (bounds_in l.taker) ≤ 32 * 1065537;
  recorded : Records g.S.Sink.taken g.S.Sink.failures l.channels (received l.fn.taker) l.fn.log.recorder l.fn.log.whole (received l.taker) l.log.recorder l.log.whole;
  unfinished : l.log.recorder.writing.finished ≡ false;
  few : l.log.recorder.writing.taken < 2 ^ 63 + 524288 * length (received l.taker);
}
