use Rattle.std.proofs.Common.{◌∙◌, reverse}
use Rattle.ch11_stream.proofs.Folding.{all_found, not_found}
use Rattle.ch11_stream.proofs.Readings.{amid_on, amid_start}
use Rattle.bench_export.specs.Changes.{changes_in}
use Rattle.bench_export.proofs.Streamed.{changes_step}
use Rattle.bench_export.proofs.waves.write_merged.Goals as goal

pub packets-init : goal.packets-init
packets-init g c = record {
  lag = c.behind-merge.ensures.lag;
  known = λ file is. rw (c.in-Ok.ensures, is) (amid_start file);
  merging = rw c.in-Ok.ensures (c.behind-merge.ensures.merging (g.W.Write.contents c.args.out.now));
}

pub packets-preserved : goal.packets-preserved
packets-preserved g c =
    let s = rw c.in-Ok-Some.field-0-is at c.in-Ok-Some.ensures in
    let before = c.packets.packets in
    let now = c.next.new.self in
    let p = c.in-Ok-Some.packet in
    record {
      lag = c.take_packet.ensures.lag ∙ c.packets.invariant.lag;
      known = λ file is. amid_on file before now p s (c.packets.invariant.known file is);
      merging = rw (c.messages.ensures, changes_step c.args.selection.now before now p s) at
          (c.in_ok-take_packet-in-Ok-Some.ensures.merging c.args.told (g.W.Write.contents c.args.out.now) (changes_in c.args.selection.now (reverse before.earlier)) c.packets.invariant.merging);
    }

pub returns-in-Ok-None : goal.returns-in-Ok-None
returns-in-Ok-None g c file is =
    let e = rw c.in-Ok-None.field-0-is at c.in-Ok-None.ensures in
    let all = all_found file c.packets.packets c.next.new.self e (c.packets.invariant.known file is) in (
      all.0,
      λ l.
          rw all.1 at (c.in_ok-write_rest-in-Ok-None.ensures c.args.told (g.W.Write.contents c.args.out.now) (changes_in c.args.selection.now (reverse c.packets.packets.earlier)) c.packets.invariant.merging
          (rw (c.packets.invariant.lag, all.1) l)),
    )

pub returns-in-Err : goal.returns-in-Err
returns-in-Err g c file is = not_found file c.packets.packets c.next.new.self c.in-Err.fault c.in-Err.ensures (c.packets.invariant.known file is)
