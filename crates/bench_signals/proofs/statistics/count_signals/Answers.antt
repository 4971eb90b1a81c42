use Rattle.std.proofs.Common.{◌≡◌, ◌∙◌, List, ap, sym, subst, length}
use Rattle.ch11_reader.specs.declared.packet.Packet.{Packet}
use Rattle.ch11_reader.specs.Contents.{total_in}
use Rattle.ch11_reader.specs.Recording.{Found}
use Rattle.ch11_stream.specs.Reading.{last_found}
use Rattle.ch11_stream.proofs.Folding.{all_found, not_found}
use Rattle.ch11_stream.proofs.Readings.{amid_on, amid_start}
use Rattle.bench_select.specs.Viewed.{Viewed}
use Rattle.bench_select.proofs.Passed.{viewed_count, viewed_more, viewed_so_far}
use Rattle.bench_signals.specs.Counting.{AreCounted}
use Rattle.bench_signals.specs.Figures.{figures_in}
use Rattle.bench_signals.proofs.statistics.count_signals.Goals as goal

pub packets-init : goal.packets-init
packets-init g c = record {
  known = λ file is. rw (c.in_ok-packets.ensures, is) (amid_start file);
  counted = rw c.in_ok-packets.ensures (c.begin-counting.ensures c.args.selection.now c.args.signals.now);
}

pub packets-preserved : goal.packets-preserved
packets-preserved g c =
    let s = rw c.in-Ok-Some.field-0-is at c.in-Ok-Some.ensures in
    let now = c.next.new.self in
    let earlier = c.packets.packets.earlier in
    let p = c.in-Ok-Some.packet in
    let front : p.before ≡ total_in earlier = ap (λ (x : Packet). x.before) s.listed in
    let behind : p.before ≡ length (viewed_so_far earlier) = front ∙ sym (viewed_count earlier) in
    record {
      known = λ file is. amid_on file c.packets.packets now p s (c.packets.invariant.known file is);
      counted = subst (λ (hs : List Viewed). AreCounted c.args.selection.now c.args.signals.now hs c.note_packet.new.self) (viewed_more (last_found now p) earlier ∙ ap viewed_so_far (sym s.entered))
          (rw c.messages.ensures at c.in_ok-note_packet-in-Ok-Some.ensures (viewed_so_far earlier) c.packets.invariant.counted behind);
    }

pub returns-in-Ok-None : goal.returns-in-Ok-None
returns-in-Ok-None g c file is =
    let e = rw c.in-Ok-None.field-0-is at c.in-Ok-None.ensures in
    let all = all_found file c.packets.packets c.next.new.self e (c.packets.invariant.known file is) in (
      all.0,
      c.in_ok-figures-in-Ok-None.ensures c.args.selection.now (viewed_so_far c.packets.packets.earlier) c.packets.invariant.counted
          ∙ ap (λ (ps : List Found). figures_in c.args.selection.now c.args.signals.now ps) all.1,
    )

pub returns-in-Err : goal.returns-in-Err
returns-in-Err g c file is = not_found file c.packets.packets c.next.new.self c.in-Err.fault c.in-Err.ensures (c.packets.invariant.known file is)
