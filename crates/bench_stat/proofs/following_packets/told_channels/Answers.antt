use Rattle.std.proofs.Common.{◌-◌, ◌<◌, ◌^◌, List, length, refl, ap, reverse, subst, arith}
use Rattle.ch11_reader.specs.Recording.{Found}
use Rattle.ch11_stream.specs.Reading.{last_found}
use Rattle.ch11_stream.proofs.Folding.{all_found, not_found}
use Rattle.ch11_stream.proofs.Readings.{amid_on, amid_start}
use Rattle.bench_stat.specs.Told.{AreTold}
use Rattle.bench_stat.proofs.Telling.{listed_next, told_on}
use Rattle.bench_stat.proofs.following_packets.told_channels.Goals as goal

pub packets-init : goal.packets-init
packets-init g c = record {
  known = λ file is. rw (c.in_ok-packets.ensures, is) (amid_start file);
  counted = λ file is. rw c.in_ok-packets.ensures (c.in_ok-told.ensures c.args.selection.now);
  many = rw c.in_ok-packets.ensures refl;
}

pub packets-preserved : goal.packets-preserved
packets-preserved g c =
    let s = rw c.in-Ok-Some.field-0-is at c.in-Ok-Some.ensures in
    let before = c.packets.packets in
    let now = c.next.new.self in
    let p = c.in-Ok-Some.packet in
    let few : length before.earlier < 2 ^ 64 - 1 = omega (arith, c.packets.invariant.many, c.packets-test.true) in
    record {
      known = λ file is. amid_on file before now p s (c.packets.invariant.known file is);
      counted = λ file is.
          let a = c.packets.invariant.known file is in
          let next = listed_next before now p c.messages.result a.rest s a.left c.messages.ensures few in
          told_on c.args.shown.now c.args.selection.now c.args.figures.now before now p c.note_packet.new.self s
          (c.in_ok-note_packet-in-Ok-Some.ensures c.args.shown.now c.args.figures.now (reverse before.earlier) (last_found now p) next (c.packets.invariant.counted file is));
      many = omega (arith, ap (λ (ps : List Found). length ps) s.entered, c.packets.invariant.many);
    }

pub returns-in-Ok-None : goal.returns-in-Ok-None
returns-in-Ok-None g c file is =
    let e = rw c.in-Ok-None.field-0-is at c.in-Ok-None.ensures in
    let all = all_found file c.packets.packets c.next.new.self e (c.packets.invariant.known file is) in (
      all.0,
      subst (λ (ps : List Found). AreTold c.args.shown.now c.args.selection.now c.args.figures.now ps c.packets.told) all.1 (c.packets.invariant.counted file is),
    )

pub returns-in-Err : goal.returns-in-Err
returns-in-Err g c file is = not_found file c.packets.packets c.next.new.self c.in-Err.fault c.in-Err.ensures (c.packets.invariant.known file is)
