use Rattle.std.proofs.Common.{sym, subst, List}
use Rattle.ch11_reader.specs.Recording.{Found}
use Rattle.ch11_stream.specs.Reading.{last_found}
use Rattle.ch11_stream.proofs.Folding.{all_found, not_found}
use Rattle.ch11_stream.proofs.Readings.{amid_on, amid_start}
use Rattle.bench_decode.proofs.Recordings.{ArePrinted, all_decoded, before_step, few_step, printed_more, printed_none}
use Rattle.bench_decode.proofs.streaming.decode_packets.Goals as goal

pub packets-init : goal.packets-init
packets-init g c = record {
  known = λ file is. rw (c.in_ok-packets.ensures, is) (amid_start file);
  printed = rw c.in_ok-packets.ensures (printed_none c.args.output.now (g.W.Write.contents c.args.out.now) c.in_ok-printing.printing c.in_ok-printing.ensures.behind c.in_ok-printing.ensures.line);
}

pub put_messages-requires : goal.put_messages-requires
put_messages-requires g c =
    let s = rw c.in-Ok-Some.field-0-is at c.in-Ok-Some.ensures in
    rw c.messages.ensures (few_step c.packets.packets c.next.new.self c.in-Ok-Some.packet s)

pub packets-preserved : goal.packets-preserved
packets-preserved g c =
    let s = rw c.in-Ok-Some.field-0-is at c.in-Ok-Some.ensures in
    let now = c.next.new.self in
    let p = c.in-Ok-Some.packet in
    let put = rw c.messages.ensures at c.in_ok-put_messages-in-Ok-Some.ensures _ c.packets.invariant.printed.kept (before_step c.packets.packets now p s) in
    record {
      known = λ file is. amid_on file c.packets.packets now p s (c.packets.invariant.known file is);
      printed = subst (λ (ps : List Found). ArePrinted c.args.output.now ps (g.W.Write.contents c.args.out.now) (g.W.Write.contents c.put_messages.new.out) c.put_messages.new.printing) (sym s.entered)
          (printed_more c.args.output.now _ _ _ (last_found now p) c.packets.packets.earlier c.packets.printing c.put_messages.new.printing c.packets.invariant.printed put);
    }

pub returns-in-Ok-None : goal.returns-in-Ok-None
returns-in-Ok-None g c file is =
    let e = rw c.in-Ok-None.field-0-is at c.in-Ok-None.ensures in
    let all = all_found file c.packets.packets c.next.new.self e (c.packets.invariant.known file is) in (
      all.0,
      all_decoded c.args.output.now _ _ _ c.packets.packets.earlier _ c.packets.printing c.packets.invariant.printed c.in_ok-finish-in-Ok-None.ensures.gone all.1,
    )

pub returns-in-Err : goal.returns-in-Err
returns-in-Err g c file is = not_found file c.packets.packets c.next.new.self c.in-Err.fault c.in-Err.ensures (c.packets.invariant.known file is)
