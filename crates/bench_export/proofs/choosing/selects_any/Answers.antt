use Rattle.std.proofs.Common.{◌≡◌, List, refl, subst}
use Rattle.ch11_reader.specs.Recording.{Found}
use Rattle.ch11_stream.proofs.Folding.{all_found, not_found}
use Rattle.ch11_stream.proofs.Readings.{amid_on, amid_start}
use Rattle.bench_export.specs.Choosing.{selects_any}
use Rattle.bench_export.proofs.Streamed.{selects_on}
use Rattle.bench_export.proofs.choosing.selects_any.Goals as goal

pub packets-init : goal.packets-init
packets-init g c = record {
  known = λ file is. rw (c.in_ok-packets.ensures, is) (amid_start file);
  selected = rw c.in_ok-packets.ensures refl;
}

pub packets-preserved : goal.packets-preserved
packets-preserved g c =
    let s = rw c.in-Ok-Some.field-0-is at c.in-Ok-Some.ensures in
    let before = c.packets.packets in
    let now = c.next.new.self in
    record {
      known = λ file is. amid_on file before now c.in-Ok-Some.packet s (c.packets.invariant.known file is);
      selected = selects_on c.args.selection.now c.packets.selected c.or_selects-selected.result before now c.in-Ok-Some.packet s c.packets.invariant.selected (rw c.messages.ensures at c.or_selects-selected.ensures);
    }

pub returns-in-Ok-None : goal.returns-in-Ok-None
returns-in-Ok-None g c file is =
    let e = rw c.in-Ok-None.field-0-is at c.in-Ok-None.ensures in
    let all = all_found file c.packets.packets c.next.new.self e (c.packets.invariant.known file is) in (
      all.0,
      subst (λ (ps : List Found). c.packets.selected ≡ selects_any c.args.selection.now ps) all.1 c.packets.invariant.selected,
    )

pub returns-in-Err : goal.returns-in-Err
returns-in-Err g c file is = not_found file c.packets.packets c.next.new.self c.in-Err.fault c.in-Err.ensures (c.packets.invariant.known file is)
