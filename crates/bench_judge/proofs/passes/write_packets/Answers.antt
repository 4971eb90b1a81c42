use Rattle.std.proofs.Common.{List, sym, subst, reverse}
use Rattle.std.specs.Io.KnownBytes.{Appends}
use Rattle.std.specs.List.{flat_map}
use Rattle.ch11_reader.specs.Listing.{listing}
use Rattle.ch11_reader.specs.declared.packet.Packet.{Packet}
use Rattle.ch11_reader.specs.Recording.{Found}
use Rattle.ch11_stream.proofs.Folding.{all_found, not_found}
use Rattle.ch11_stream.proofs.Readings.{amid_on, amid_start}
use Rattle.bench_dump.proofs.Steps.{appends_nothing}
use Rattle.bench_judge.specs.Lines.{packet_line}
use Rattle.bench_judge.specs.Packets.{packets_missed}
use Rattle.bench_judge.proofs.Losing.{listed_next}
use Rattle.bench_judge.proofs.Missing.{lines-more}
use Rattle.bench_judge.proofs.passes.write_packets.Goals as goal

pub packets-init : goal.packets-init
packets-init g c = record {
  known = λ file is. rw (c.in_ok-packets.ensures, is) (amid_start file);
  written = rw c.in_ok-packets.ensures (appends_nothing (g.W.Write.contents c.args.out.now));
}

pub packets-preserved : goal.packets-preserved
packets-preserved g c =
    let s = rw c.in-Ok-Some.field-0-is at c.in-Ok-Some.ensures in
    let now = c.next.new.self in
    let earlier = c.packets.packets.earlier in
    let p = c.in-Ok-Some.packet in
    let rule = c.args.rule.now in
    let skips = c.args.skips.now in
    let got = g.W.Write.contents c.args.out.now in
    let gets = g.W.Write.contents c.write_if_missed.new.out in
    let more = lines-more rule (packet_line skips rule.line) (listing (reverse earlier)) p got (g.W.Write.contents c.packets.out) gets c.packets.invariant.written c.in_ok-write_if_missed-in-Ok-Some.ensures in
    record {
      known = λ file is. amid_on file c.packets.packets now p s (c.packets.invariant.known file is);
      written = subst (λ (ps : List Packet). Appends got gets (flat_map (packet_line skips rule.line) (packets_missed rule ps))) (sym (listed_next c.packets.packets now p s)) more;
    }

pub returns-in-Ok-None : goal.returns-in-Ok-None
returns-in-Ok-None g c file is =
    let e = rw c.in-Ok-None.field-0-is at c.in-Ok-None.ensures in
    let all = all_found file c.packets.packets c.next.new.self e (c.packets.invariant.known file is) in (
      all.0,
      subst (λ (ps : List Found). Appends (g.W.Write.contents c.args.out.now) (g.W.Write.contents c.packets.out) (flat_map (packet_line c.args.skips.now c.args.rule.now.line) (packets_missed c.args.rule.now (listing ps)))) all.1 c.packets.invariant.written,
    )

pub returns-in-Err : goal.returns-in-Err
returns-in-Err g c file is = not_found file c.packets.packets c.next.new.self c.in-Err.fault c.in-Err.ensures (c.packets.invariant.known file is)
