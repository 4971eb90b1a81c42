use Rattle.std.proofs.Common.{ap}
use Rattle.ch11_stream.specs.Reading.{Reading}
use Rattle.ch11_stream.proofs.Readings.{amid_on, amid_start}
use Rattle.bench_dump.proofs.Streamed.{all_put, not_read, nothing_put, one_put}
use Rattle.bench_dump.proofs.streaming.print_packets_by.Goals as goal

pub packets-init : goal.packets-init
packets-init g c = record {
  known = λ file is. rw (c.in_ok-packets.ensures, is) (amid_start file);
  put = nothing_put c.args.clock.now c.args.timed _ _ _ c.new-text.ensures (ap (λ (x : Reading). x.earlier) c.in_ok-packets.ensures);
}

pub packets-preserved : goal.packets-preserved
packets-preserved g c =
    let s = rw c.in-Ok-Some.field-0-is at c.in-Ok-Some.ensures in
    record {
      known = λ file is. amid_on file c.packets.packets c.next.new.self c.in-Ok-Some.packet s (c.packets.invariant.known file is);
      put = one_put c.args.clock.now c.args.timed (g.W.Write.contents c.args.out.now) (g.W.Write.contents c.packets.out) (g.W.Write.contents c.dump_packet.new.out) c.packets.text c.dump_packet.new.text c.packets.packets c.next.new.self c.in-Ok-Some.packet s c.packets.invariant.put
          (rw c.messages.ensures at c.in_ok-dump_packet-in-Ok-Some.ensures.printed);
    }

pub returns-in-Ok-None : goal.returns-in-Ok-None
returns-in-Ok-None g c file is =
    let e = rw c.in-Ok-None.field-0-is at c.in-Ok-None.ensures in
    all_put c.args.clock.now c.args.timed file (g.W.Write.contents c.args.out.now) (g.W.Write.contents c.packets.out) (g.W.Write.contents c.finish.new.out) c.packets.text c.packets.packets c.next.new.self e (c.packets.invariant.known file is) c.packets.invariant.put
    c.in_ok-finish-in-Ok-None.ensures.printed

pub returns-in-Err : goal.returns-in-Err
returns-in-Err g c file is =
    not_read c.args.clock.now c.args.timed file (g.W.Write.contents c.args.out.now) (g.W.Write.contents c.packets.out) c.packets.packets c.next.new.self c.in-Err.fault c.in-Err.ensures (c.packets.invariant.known file is)
