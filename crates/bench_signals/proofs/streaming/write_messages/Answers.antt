use Rattle.std.proofs.Common.{refl, ap, arith, length, subst}
use Rattle.csv.specs.Writing.{text_written}
use Rattle.ch11_f1.specs.Views.{message_of}
use Rattle.ch11_layout.specs.declared.stamps.StampKind.{StampKind}
use Rattle.bench_select.specs.Viewed.{viewed_behind}
use Rattle.bench_select.proofs.Passed.{passing-none, passing-more, passing-all}
use Rattle.bench_signals.specs.Latest.{AreWritten}
use Rattle.bench_signals.proofs.Written.{written_more}
use Rattle.bench_signals.proofs.streaming.write_messages.Goals as goal

pub messages-init : goal.messages-init
messages-init g c = record {
  counted = refl;
  between = c.requires.between;
  passing = λ history got is from. passing-none (λ hs. AreWritten c.args.sheet.now c.args.clock.now got hs (text_written g.W.Write.contents c.args.writer.now) c.args.room.now.latest) _ _ _ history is;
}

pub messages-preserved : goal.messages-preserved
messages-preserved g c = record {
  counted = omega (arith, c.messages.invariant.counted, ap length c.in-Some.ensures.steps);
  between = c.in_ok-write.ensures.between;
  passing = λ history got is from.
      passing-more (λ hs. AreWritten c.args.sheet.now c.args.clock.now got hs (text_written g.W.Write.contents c.messages.writer) c.messages.room.latest)
      (λ hs. AreWritten c.args.sheet.now c.args.clock.now got hs (text_written g.W.Write.contents c.write.new.writer) c.write.new.self.latest) _ _ _ _ c.next.new.self
      (message_of c.in-Some.seen) history (c.messages.invariant.passing history got is from) c.in-Some.ensures.steps
      (λ hs now many.
      written_more c.args.sheet.now c.args.clock.now got _ _ hs _ _ _ now
      (rw c.of.ensures at c.in_ok-write.ensures.latest hs now.kept (omega (arith, many, from, c.messages.invariant.counted)))
      (rw c.of.ensures at c.in_ok-write.ensures.written hs now.kept (omega (arith, many, from, c.messages.invariant.counted))));
}

pub returns-clause-written : goal.returns-clause-written
returns-clause-written g c = λ history got is from.
    subst (λ (kind : StampKind). AreWritten c.args.sheet.now c.args.clock.now got (viewed_behind kind c.args.packet.now.header.channel c.args.messages history) (text_written g.W.Write.contents c.messages.writer) c.messages.room.latest) c.of-kind.ensures
    (passing-all (λ hs. AreWritten c.args.sheet.now c.args.clock.now got hs (text_written g.W.Write.contents c.messages.writer) c.messages.room.latest) _ _ _ _ history (c.messages.invariant.passing history got is from) c.in_default.ensures.steps.0)
