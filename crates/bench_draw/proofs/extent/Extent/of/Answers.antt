use Rattle.std.proofs.Common.{◌≡◌, ap, sym, subst, arith, length, reverse, List}
use Rattle.ch11_reader.specs.declared.packet.Packet.{Packet}
use Rattle.ch11_reader.specs.Contents.{total_in, capped}
use Rattle.ch11_reader.specs.Recording.{Found}
use Rattle.ch11_stream.specs.Reading.{last_found}
use Rattle.ch11_stream.proofs.Folding.{all_found, not_found}
use Rattle.ch11_stream.proofs.Readings.{amid_on, amid_start}
use Rattle.bench_draw.specs.Chosen.{chosen}
use Rattle.bench_draw.proofs.Counting.{one_streamed}
use Rattle.bench_draw.proofs.extent.Extent.of.Goals as goal

pub packets-init : goal.packets-init
packets-init g c = record {
  known = λ file is. rw (c.in_ok-packets.ensures, is) (amid_start file);
  counted = rw c.in_ok-packets.ensures (omega (arith, c.none-extent.ensures));
}

pub widen_by-requires : goal.widen_by-requires
widen_by-requires g c =
    let s = rw c.in-Ok-Some.field-0-is at c.in-Ok-Some.ensures in
    omega (arith, ap (λ (x : Packet). x.before) s.listed, s.few, ap total_in s.entered, ap length c.messages.ensures)

pub packets-preserved : goal.packets-preserved
packets-preserved g c =
    let s = rw c.in-Ok-Some.field-0-is at c.in-Ok-Some.ensures in
    let now = c.next.new.self in
    let p = c.in-Ok-Some.packet in
    record {
      known = λ file is. amid_on file c.packets.packets now p s (c.packets.invariant.known file is);
      counted = subst (λ (qs : List Found). c.widen_by.new.extent.messages ≡ capped (chosen c.args.selection.now (reverse qs))) (sym s.entered)
          (one_streamed c.args.selection.now c.packets.extent.messages _ c.packets.packets.earlier (last_found now p) c.packets.invariant.counted
          (rw (c.messages.ensures, ap (λ (x : Packet). x.before) s.listed) at c.in_ok-widen_by-in-Ok-Some.ensures));
    }

pub returns-in-Ok-None : goal.returns-in-Ok-None
returns-in-Ok-None g c file is =
    let e = rw c.in-Ok-None.field-0-is at c.in-Ok-None.ensures in
    let all = all_found file c.packets.packets c.next.new.self e (c.packets.invariant.known file is) in (
      all.0,
      subst (λ (ps : List Found). c.packets.extent.messages ≡ capped (chosen c.args.selection.now ps)) all.1 c.packets.invariant.counted,
    )

pub returns-in-Err : goal.returns-in-Err
returns-in-Err g c file is = not_found file c.packets.packets c.next.new.self c.in-Err.fault c.in-Err.ensures (c.packets.invariant.known file is)
