use Rattle.std.proofs.Common.{◌≡◌, ◌∙◌, List, ap, sym, subst, arith, length, reverse}
use Rattle.std.proofs.lemmas.List.{with_items_is}
use Rattle.ch11_header.specs.declared.header.Header.{Header}
use Rattle.ch11_reader.specs.Recording.{Found}
use Rattle.ch11_stream.specs.Reading.{last_found}
use Rattle.ch11_stream.proofs.Folding.{all_found, not_found, one_behind}
use Rattle.ch11_stream.proofs.Readings.{amid_on, amid_start}
use Rattle.bench_stat.specs.declared.kinds.KindFigures.{KindFigures}
use Rattle.bench_stat.specs.Figures.{headers}
use Rattle.bench_stat.specs.Kinds.{AreKinds}
use Rattle.bench_stat.proofs.Streamed.{headers_more}
use Rattle.bench_stat.proofs.kinds.read_kinds.Goals as goal

pub note_kind-requires : goal.note_kind-requires
note_kind-requires g c = omega (arith, ap length c.as_mut_slice.ensures.value, c.packets.invariant.are.many)

pub packets-init : goal.packets-init
packets-init g c = record {
  known = λ file is. rw (c.in_ok-packets.ensures, is) (amid_start file);
  are = rw c.in_ok-packets.ensures c.in_ok-kinds.ensures;
}

pub packets-preserved : goal.packets-preserved
packets-preserved g c =
    let s = rw c.in-Ok-Some.field-0-is at c.in-Ok-Some.ensures in
    let before = c.packets.packets in
    let now = c.next.new.self in
    let p = c.in-Ok-Some.packet in
    let q = last_found now p in
    let start = subst (λ (ks : List KindFigures). AreKinds (headers (reverse before.earlier)) ks) (sym c.as_mut_slice.ensures.value) c.packets.invariant.are in
    let noted = c.note_kind.ensures (headers (reverse before.earlier)) start in
    let kept : length c.note_kind.new.kinds ≡ c.packets.kinds.len = omega (arith, c.note_kind.auto.kinds, ap length c.as_mut_slice.ensures.value, c.as_mut_slice.ensures.len) in
    let on = subst (λ (hs : List Header). AreKinds hs c.note_kind.new.kinds) (sym (ap (λ (ps : List Found). headers (reverse ps)) s.entered ∙ ap headers (one_behind q before.earlier) ∙ headers_more (reverse before.earlier) q)) noted in
    record {
      known = λ file is. amid_on file before now p s (c.packets.invariant.known file is);
      are = subst (λ (ks : List KindFigures). AreKinds (headers (reverse now.earlier)) ks) (sym (with_items_is c.packets.kinds c.note_kind.new.kinds kept)) on;
    }

pub returns-in-Ok-None : goal.returns-in-Ok-None
returns-in-Ok-None g c file is =
    let e = rw c.in-Ok-None.field-0-is at c.in-Ok-None.ensures in
    let all = all_found file c.packets.packets c.next.new.self e (c.packets.invariant.known file is) in
    (all.0, subst (λ (ps : List Found). AreKinds (headers ps) c.packets.kinds.items) all.1 c.packets.invariant.are)

pub returns-in-Err : goal.returns-in-Err
returns-in-Err g c file is = not_found file c.packets.packets c.next.new.self c.in-Err.fault c.in-Err.ensures (c.packets.invariant.known file is)
