use Rattle.std.proofs.Common.{◌∙◌, List, ap, reverse}
use Rattle.ch11_reader.specs.Recording.{Found}
use Rattle.ch11_stream.specs.Reading.{last_found}
use Rattle.ch11_stream.proofs.Folding.{all_found, not_found}
use Rattle.ch11_stream.proofs.Readings.{amid_on, amid_start}
use Rattle.bench_stat.specs.Figures.{statistics}
use Rattle.bench_stat.proofs.Streamed.{counted_on, next_one, nothing_yet}
use Rattle.bench_stat.proofs.streaming.stat.Goals as goal

pub packets-init : goal.packets-init
packets-init g c = record {
  known = λ file is. rw (c.in_ok-packets.ensures, is) (amid_start file);
  counted = λ file is. rw c.in_ok-packets.ensures (nothing_yet c.args.selection.now c.none-so_far.result c.none-so_far.ensures);
}

pub packets-preserved : goal.packets-preserved
packets-preserved g c =
    let s = rw c.in-Ok-Some.field-0-is at c.in-Ok-Some.ensures in
    let before = c.packets.packets in
    let now = c.next.new.self in
    let p = c.in-Ok-Some.packet in
    record {
      known = λ file is. amid_on file before now p s (c.packets.invariant.known file is);
      counted = λ file is.
          let a = c.packets.invariant.known file is in
          let next = next_one before now p c.messages.result a.rest s a.left c.messages.ensures in
          counted_on c.args.selection.now before now p c.note_packet.new.so_far s
          (c.in_ok-note_packet-in-Ok-Some.ensures (reverse before.earlier) (last_found now p) (c.packets.invariant.counted file is) next);
    }

pub returns-in-Ok-None : goal.returns-in-Ok-None
returns-in-Ok-None g c file is =
    let e = rw c.in-Ok-None.field-0-is at c.in-Ok-None.ensures in
    let all = all_found file c.packets.packets c.next.new.self e (c.packets.invariant.known file is) in (
      all.0,
      c.in_ok-figures-in-Ok-None.ensures c.args.selection.now (reverse c.packets.packets.earlier) (c.packets.invariant.counted file is) ∙ ap (λ (ps : List Found). statistics c.args.selection.now ps) all.1,
    )

pub returns-in-Err : goal.returns-in-Err
returns-in-Err g c file is = not_found file c.packets.packets c.next.new.self c.in-Err.fault c.in-Err.ensures (c.packets.invariant.known file is)
