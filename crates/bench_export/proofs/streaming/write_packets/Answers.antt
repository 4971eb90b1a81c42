use Rattle.std.proofs.Common.{◌≡◌, List, refl, subst}
use Rattle.std.specs.Io.KnownBytes.{Appends}
use Rattle.csv.specs.Writing.{text_written}
use Rattle.ch11_reader.specs.Recording.{Found}
use Rattle.ch11_stream.proofs.Folding.{all_found, not_found}
use Rattle.ch11_stream.proofs.Readings.{amid_on, amid_start}
use Rattle.bench_dump.proofs.Steps.{appends_nothing}
use Rattle.bench_export.specs.Choosing.{selects_any}
use Rattle.bench_export.specs.Tables.{packets_text}
use Rattle.bench_export.proofs.Streamed.{rows_on, selects_on}
use Rattle.bench_export.proofs.streaming.write_packets.Goals as goal

pub packets-init : goal.packets-init
packets-init g c = record {
  known = λ file is. rw (c.in-Ok.ensures, is) (amid_start file);
  between = c.requires;
  written = rw c.in-Ok.ensures (appends_nothing (text_written g.W.Write.contents c.args.writer.now));
  selected = rw c.in-Ok.ensures refl;
}

pub packets-preserved : goal.packets-preserved
packets-preserved g c =
    let s = rw c.in-Ok-Some.field-0-is at c.in-Ok-Some.ensures in
    let now = c.next.new.self in
    record {
      known = λ file is. amid_on file c.packets.packets now c.in-Ok-Some.packet s (c.packets.invariant.known file is);
      between = c.in_ok-selected-in-Ok-Some.ensures.between;
      written = rows_on c.args.table.now c.args.clock.now _ _ _ c.packets.packets now c.in-Ok-Some.packet s c.packets.invariant.written c.in_ok-selected-in-Ok-Some.ensures.written;
      selected = selects_on c.args.table.now.selection c.packets.selected c.in_ok-selected-in-Ok-Some.selected c.packets.packets now c.in-Ok-Some.packet s c.packets.invariant.selected c.in_ok-selected-in-Ok-Some.ensures.selected;
    }

pub returns-in-Ok-None : goal.returns-in-Ok-None
returns-in-Ok-None g c file is =
    let e = rw c.in-Ok-None.field-0-is at c.in-Ok-None.ensures in
    let all = all_found file c.packets.packets c.next.new.self e (c.packets.invariant.known file is) in (
      all.0,
      (
        subst (λ (ps : List Found). Appends (text_written g.W.Write.contents c.args.writer.now) (text_written g.W.Write.contents c.packets.writer) (packets_text c.args.table.now c.args.clock.now 0 ps)) all.1 c.packets.invariant.written,
        subst (λ (ps : List Found). c.packets.selected ≡ selects_any c.args.table.now.selection ps) all.1 c.packets.invariant.selected,
      ),
    )

pub returns-in-Err : goal.returns-in-Err
returns-in-Err g c file is = not_found file c.packets.packets c.next.new.self c.in-Err.fault c.in-Err.ensures (c.packets.invariant.known file is)
