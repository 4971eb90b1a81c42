use Rattle.std.proofs.Common.{◌≡◌, List, length, ap, sym, replicate, subst, reverse, arith}
use Rattle.std.proofs.lemmas.List.{with_items_is}
use Rattle.ch11_reader.specs.Recording.{Found}
use Rattle.ch11_stream.proofs.Folding.{all_found, not_found}
use Rattle.ch11_stream.proofs.Readings.{amid_on, amid_start}
use Rattle.bench_compare.specs.Counting.{AreCounts}
use Rattle.bench_compare.proofs.Counted.{counts_on, none_counted}
use Rattle.bench_compare.proofs.counting.count_channels.Goals as goal

pub packets-init : goal.packets-init
packets-init g c =
    let none : c.in_ok-counts.counts.items ≡ replicate 65536 0 = c.in_ok-counts.ensures.items_if_clones_equal (λ x h. h) in
    record {
      known = λ file is. rw (c.in_ok-packets.ensures, is) (amid_start file);
      len = omega (arith, c.in_ok-counts.ensures.len);
      counts = rw c.in_ok-packets.ensures (none_counted c.args.selection.now c.in_ok-counts.counts.items none);
    }

pub packets-preserved : goal.packets-preserved
packets-preserved g c =
    let s = rw c.in-Ok-Some.field-0-is at c.in-Ok-Some.ensures in
    let now = c.next.new.self in
    let many : length c.as_mut_slice.result.now ≡ 65536 = omega (arith, c.as_mut_slice.ensures.len, ap length c.as_mut_slice.ensures.value, c.packets.invariant.len) in
    let kept : length c.add.new.counts ≡ c.packets.counts.len = omega (arith, c.add.auto.counts, many, c.packets.invariant.len) in
    let items = sym (with_items_is c.packets.counts c.add.new.counts kept) in
    record {
      known = λ file is. amid_on file c.packets.packets now c.in-Ok-Some.packet s (c.packets.invariant.known file is);
      len = c.packets.invariant.len;
      counts = subst (AreCounts c.args.selection.now (reverse now.earlier)) items
          (counts_on c.args.selection.now c.packets.packets now c.in-Ok-Some.packet s c.as_mut_slice.result.now c.add.new.counts c.count_chosen-count.result c.add.ensures.within many
          (rw c.messages.ensures at c.count_chosen-count.ensures) c.add.ensures.sum (subst (AreCounts c.args.selection.now (reverse c.packets.packets.earlier)) (sym c.as_mut_slice.ensures.value) c.packets.invariant.counts));
    }

pub returns-in-Ok-None : goal.returns-in-Ok-None
returns-in-Ok-None g c = record {
  len = c.packets.invariant.len;
  counts = λ file is.
      let e = rw c.in-Ok-None.field-0-is at c.in-Ok-None.ensures in
      let all = all_found file c.packets.packets c.next.new.self e (c.packets.invariant.known file is) in
      (all.0, subst (λ (ps : List Found). AreCounts c.args.selection.now ps c.packets.counts.items) all.1 c.packets.invariant.counts);
}

pub returns-in-Err-clause-counts : goal.returns-in-Err-clause-counts
returns-in-Err-clause-counts g c file is = not_found file c.packets.packets c.next.new.self c.in-Err.fault c.in-Err.ensures (c.packets.invariant.known file is)
