use Rattle.std.proofs.Common.{◌≡◌, ◌<◌, ◌+◌, ◌*◌, ◌^◌, ℕ, true, false, length}
use Rattle.mil_trunk.specs.Ends.{IsTicketOf, IsTakerOf, bounds_of, received, sent, tags_of}
use Rattle.mil_trunk.specs.Tags.{has}
use Rattle.bench_run.specs.Writer.{Records}
use Rattle.bench_run.proofs.writer.settle.Given as goal

abbrev pub invariant-loop : goal.invariant-loop
invariant-loop g l = record {
  again : (goal.iterator-loop g).can_next l.iterator' × (goal.iterator-loop g).is_finite l.iterator';
  ours : IsTicketOf l.trunk l.ticket × IsTakerOf l.trunk l.taker;
  all : (t : ℕ) → t < 64 → has (tags_of l.ticket) t ≡ true;
  same : sent l.ticket ≡ sent l.fn.ticket;
  bounds : bounds_of l.ticket ≡ bounds_of l.fn.ticket;
  recorded : Records g.S.Sink.taken g.S.Sink.failures l.channels (received l.fn.taker) l.fn.log.recorder l.fn.log.whole (received l.taker) l.log.recorder l.log.whole;
  unfinished : l.log.recorder.writing.finished ≡ false;
  few : l.log.recorder.writing.taken < 2 ^ 63 + 524288 * length (received l.taker);
}
