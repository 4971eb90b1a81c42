use Rattle.std.proofs.Common.{◌∙◌, ap}
use Rattle.ch11_stream.proofs.Folding.{all_found}
use Rattle.ch11_stream.proofs.Readings.{amid_on, amid_start}
use Rattle.bench_reproduce.specs.Readings.{messages_in}
use Rattle.bench_reproduce.proofs.Keeping.{heard_on}
use Rattle.bench_reproduce.proofs.hearing.hear.Goals as goal

pub packets-init : goal.packets-init
packets-init g c = record {
  known = λ file is. rw (c.in_ok-packets.ensures, is) (amid_start file);
  heard = rw c.in_ok-packets.ensures c.none-heard.ensures;
}

pub packets-preserved : goal.packets-preserved
packets-preserved g c =
    let s = rw c.in-Ok-Some.field-0-is at c.in-Ok-Some.ensures in
    record {
      known = λ file is. amid_on file c.packets.packets c.next.new.self c.in-Ok-Some.packet s (c.packets.invariant.known file is);
      heard = heard_on c.args.channel c.packets.packets c.next.new.self c.in-Ok-Some.packet c.packets.heard c.keep_packet.new.heard s c.packets.invariant.heard (rw c.messages-messages.ensures at c.in_ok-keep_packet-in-Ok-Some.ensures);
    }

pub returns-in-Ok-None : goal.returns-in-Ok-None
returns-in-Ok-None g c file is =
    let e = rw c.in-Ok-None.field-0-is at c.in-Ok-None.ensures in
    let all = all_found file c.packets.packets c.next.new.self e (c.packets.invariant.known file is) in
    (all.0, c.settle.ensures ∙ c.packets.invariant.heard ∙ ap (messages_in c.args.channel) all.1)
