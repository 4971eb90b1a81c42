use Rattle.std.proofs.Common.{ap, sym, refl, subst, ◌∙◌, List, reverse}
use Rattle.ch11_reader.specs.Recording.{Found}
use Rattle.ch11_stream.specs.Reading.{last_found}
use Rattle.ch11_stream.proofs.Folding.{all_found, not_found, one_behind}
use Rattle.ch11_stream.proofs.Readings.{amid_on, amid_start}
use Rattle.bench_select.specs.Stamps.{AreStamps}
use Rattle.bench_select.proofs.stamps.read_stamps.Goals as goal

pub packets-init : goal.packets-init
packets-init g c = record {
  known = λ file is. rw (c.in_ok-packets.ensures, is) (amid_start file);
  are = rw c.in_ok-packets.ensures c.none-stamps.ensures;
}

pub packets-preserved : goal.packets-preserved
packets-preserved g c =
    let s = rw c.in-Ok-Some.field-0-is at c.in-Ok-Some.ensures in
    let before = c.packets.packets in
    let now = c.next.new.self in
    let p = c.in-Ok-Some.packet in
    let q = last_found now p in
    record {
      known = λ file is. amid_on file before now p s (c.packets.invariant.known file is);
      are = subst (λ (ps : List Found). AreStamps ps c.note.new.self) (sym (ap reverse s.entered ∙ one_behind q before.earlier))
          (c.in_ok-note-in-Ok-Some.ensures (reverse before.earlier) q c.packets.invariant.are refl (sym c.messages.ensures));
    }

pub returns-in-Ok-None : goal.returns-in-Ok-None
returns-in-Ok-None g c file is =
    let e = rw c.in-Ok-None.field-0-is at c.in-Ok-None.ensures in
    let all = all_found file c.packets.packets c.next.new.self e (c.packets.invariant.known file is) in
    (all.0, subst (λ (ps : List Found). AreStamps ps c.packets.stamps) all.1 c.packets.invariant.are)

pub returns-in-Err : goal.returns-in-Err
returns-in-Err g c file is = not_found file c.packets.packets c.next.new.self c.in-Err.fault c.in-Err.ensures (c.packets.invariant.known file is)
