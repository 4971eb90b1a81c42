use Rattle.std.proofs.Common.{◌≡◌, List, sym, subst, reverse, take}
use Rattle.std.specs.List.{flat_map}
use Rattle.ch11_reader.specs.Listing.{listing}
use Rattle.ch11_reader.specs.declared.packet.Packet.{Packet}
use Rattle.ch11_reader.specs.Recording.{Found}
use Rattle.ch11_stream.proofs.Folding.{all_found, not_found}
use Rattle.ch11_stream.proofs.Readings.{amid_on, amid_start}
use Rattle.bench_judge.specs.Packets.{packets_missed}
use Rattle.bench_judge.specs.Tallies.{IsPacketTelling}
use Rattle.bench_judge.specs.Told.{told_packet}
use Rattle.bench_judge.proofs.Losing.{listed_next}
use Rattle.bench_judge.proofs.Missing.{told-none}
use Rattle.bench_judge.proofs.telling.tell_packets.Goals as goal

pub packets-init : goal.packets-init
packets-init g c = record {
  known = λ file is. rw (c.in_ok-packets.ensures, is) (amid_start file);
  told = rw (c.in_ok-packets.ensures, c.new-text.ensures.items) (told-none c.args.skips.now c.args.rule.now c.args.most);
}

pub packets-preserved : goal.packets-preserved
packets-preserved g c =
    let s = rw c.in-Ok-Some.field-0-is at c.in-Ok-Some.ensures in
    let now = c.next.new.self in
    let earlier = c.packets.packets.earlier in
    let p = c.in-Ok-Some.packet in
    let told = c.in_ok-left-in-Ok-Some.ensures (listing (reverse earlier)) c.args.most c.packets.invariant.told in
    record {
      known = λ file is. amid_on file c.packets.packets now p s (c.packets.invariant.known file is);
      told = subst (λ (ps : List Packet). IsPacketTelling c.args.skips.now c.args.rule.now c.args.most ps c.tell_one.new.text.items c.in_ok-left-in-Ok-Some.left) (sym (listed_next c.packets.packets now p s)) told;
    }

pub returns-in-Ok-None : goal.returns-in-Ok-None
returns-in-Ok-None g c file is =
    let e = rw c.in-Ok-None.field-0-is at c.in-Ok-None.ensures in
    let all = all_found file c.packets.packets c.next.new.self e (c.packets.invariant.known file is) in (
      all.0,
      subst (λ (ps : List Found). c.packets.text.items ≡ flat_map (told_packet c.args.skips.now) (take c.args.most (packets_missed c.args.rule.now (listing ps)))) all.1 c.packets.invariant.told.told,
    )

pub returns-in-Err : goal.returns-in-Err
returns-in-Err g c file is = not_found file c.packets.packets c.next.new.self c.in-Err.fault c.in-Err.ensures (c.packets.invariant.known file is)
