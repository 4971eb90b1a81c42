use Rattle.std.proofs.Common.{◌≡◌, ◌∙◌, List, refl, ap, sym, subst, reverse, length}
use Rattle.std.specs.Io.KnownBytes.{Appends}
use Rattle.csv.specs.Writing.{text_written}
use Rattle.ch11_reader.specs.declared.packet.Packet.{Packet}
use Rattle.ch11_reader.specs.Contents.{total_in}
use Rattle.ch11_reader.specs.Recording.{Found}
use Rattle.ch11_stream.specs.Reading.{last_found}
use Rattle.ch11_stream.proofs.Folding.{all_found, not_found}
use Rattle.ch11_stream.proofs.Readings.{amid_on, amid_start}
use Rattle.bench_export.specs.Choosing.{selects_any}
use Rattle.bench_export.proofs.Streamed.{selects_on}
use Rattle.bench_select.specs.Viewed.{viewed_in, Viewed}
use Rattle.bench_select.proofs.Passed.{viewed_so_far, viewed_more, viewed_count}
use Rattle.bench_signals.specs.Latest.{AreWritten}
use Rattle.bench_signals.specs.Sheets.{rows_of}
use Rattle.bench_signals.proofs.Written.{written_none}
use Rattle.bench_signals.proofs.streaming.write_packets.Goals as goal

pub packets-init : goal.packets-init
packets-init g c = record {
  known = λ file is. rw (c.in-Ok.ensures, is) (amid_start file);
  between = c.requires;
  written = rw c.in-Ok.ensures (written_none c.args.sheet.now c.args.clock.now (text_written g.W.Write.contents c.args.writer.now) c.new-room.result.latest c.new-room.ensures);
  selected = rw c.in-Ok.ensures refl;
}

pub packets-preserved : goal.packets-preserved
packets-preserved g c =
    let s = rw c.in-Ok-Some.field-0-is at c.in-Ok-Some.ensures in
    let now = c.next.new.self in
    let earlier = c.packets.packets.earlier in
    let p = c.in-Ok-Some.packet in
    let got = text_written g.W.Write.contents c.args.writer.now in
    let front : p.before ≡ total_in earlier = ap (λ (x : Packet). x.before) s.listed in
    let behind : p.before ≡ length (viewed_so_far earlier) = front ∙ sym (viewed_count earlier) in
    let one = c.in_ok-selected-in-Ok-Some.ensures in
    record {
      known = λ file is. amid_on file c.packets.packets now p s (c.packets.invariant.known file is);
      between = one.between;
      written = subst (λ (hs : List Viewed). AreWritten c.args.sheet.now c.args.clock.now got hs (text_written g.W.Write.contents c.write_packet.new.writer) c.write_packet.new.room.latest) (viewed_more (last_found now p) earlier ∙ ap viewed_so_far (sym s.entered))
          (one.written (viewed_so_far earlier) got c.packets.invariant.written behind);
      selected = selects_on c.args.sheet.now.table.selection c.packets.selected c.in_ok-selected-in-Ok-Some.selected c.packets.packets now p s c.packets.invariant.selected one.selected;
    }

pub returns-in-Ok-None : goal.returns-in-Ok-None
returns-in-Ok-None g c file is =
    let e = rw c.in-Ok-None.field-0-is at c.in-Ok-None.ensures in
    let all = all_found file c.packets.packets c.next.new.self e (c.packets.invariant.known file is) in (
      all.0,
      (
        subst (λ (ps : List Found). Appends (text_written g.W.Write.contents c.args.writer.now) (text_written g.W.Write.contents c.packets.writer) (rows_of c.args.sheet.now c.args.clock.now (reverse (viewed_in ps)))) all.1 c.packets.invariant.written.written,
        subst (λ (ps : List Found). c.packets.selected ≡ selects_any c.args.sheet.now.table.selection ps) all.1 c.packets.invariant.selected,
      ),
    )

pub returns-in-Err : goal.returns-in-Err
returns-in-Err g c file is = not_found file c.packets.packets c.next.new.self c.in-Err.fault c.in-Err.ensures (c.packets.invariant.known file is)
