use Rattle.std.proofs.Common.{◌≡◌, List, length, replicate, refl, sym, ap, subst, ◌∙◌, arith}
use Rattle.std.proofs.lemmas.List.{length-replicate, with_items_is}
use Rattle.ch11_stream.proofs.Folding.{not_found}
use Rattle.bench_cut.specs.declared.losses.ChannelLoss.{ChannelLoss}
use Rattle.bench_cut.specs.Losses.{AreLosses, no_loss}
use Rattle.bench_cut.proofs.Streamed.{IsCutting, cut_all, cut_start, cuts_on, read_is}
use Rattle.bench_cut.proofs.cutting.cut.Goals as goal

pub packets-init : goal.packets-init
packets-init g c =
    let are : c.in_ok-losses.losses.items ≡ replicate 65536 no_loss = c.in_ok-losses.ensures.items_if_clones_equal (λ x h. h) ∙ ap (replicate 65536) c.new.ensures in
    record {
      channels = ap length are ∙ length-replicate 65536 no_loss;
      cutting = λ file is. cut_start c.args.selection.now file (g.W.Write.contents c.args.out.now) c.in_ok-losses.losses.items c.in_ok-packets.packets are (rw (c.in_ok-packets.ensures, is) refl);
    }

pub cut_packet-requires-clause-channels : goal.cut_packet-requires-clause-channels
cut_packet-requires-clause-channels g c = omega (arith, ap length c.as_mut_slice.ensures.value, c.packets.invariant.channels)

pub cut_packet-requires-clause-read : goal.cut_packet-requires-clause-read
cut_packet-requires-clause-read g c =
    read_is c.packets.packets c.next.new.self c.in-Ok-Some.packet (rw c.in-Ok-Some.field-0-is at c.in-Ok-Some.ensures.next) (rw c.in-Ok-Some.field-0-is at c.in-Ok-Some.ensures.whole)

pub packets-preserved : goal.packets-preserved
packets-preserved g c =
    let next = rw c.in-Ok-Some.field-0-is at c.in-Ok-Some.ensures.next in
    let whole = rw c.in-Ok-Some.field-0-is at c.in-Ok-Some.ensures.whole in
    let done = c.in_ok-any-in-Ok-Some.ensures in
    let kept : length c.cut_packet.new.losses ≡ c.packets.losses.len = omega (arith, c.cut_packet.auto.losses, ap length c.as_mut_slice.ensures.value, c.as_mut_slice.ensures.len) in
    let items = sym (with_items_is c.packets.losses c.cut_packet.new.losses kept) in
    let got = g.W.Write.contents c.args.out.now in
    let gets = g.W.Write.contents c.cut_packet.new.out in
    record {
      channels = sym (ap length items) ∙ omega (arith, c.cut_packet.auto.losses, ap length c.as_mut_slice.ensures.value, c.packets.invariant.channels);
      cutting = λ file is.
          subst (λ (ls : List ChannelLoss). IsCutting c.args.selection.now file got gets ls c.either-selected.result c.next.new.self) items
          (cuts_on c.args.selection.now file got (g.W.Write.contents c.packets.out) gets c.packets.losses.items c.cut_packet.new.losses c.packets.selected c.in_ok-any-in-Ok-Some.any c.either-selected.result c.packets.packets c.next.new.self c.in-Ok-Some.packet next whole
          (c.packets.invariant.cutting file is) (λ earlier are. done.losses earlier (subst (AreLosses earlier) (sym c.as_mut_slice.ensures.value) are)) (λ earlier are. done.written earlier (subst (AreLosses earlier) (sym c.as_mut_slice.ensures.value) are)) done.any c.either-selected.ensures);
    }

pub returns-in-Ok-None : goal.returns-in-Ok-None
returns-in-Ok-None g c file is =
    let e = rw c.in-Ok-None.field-0-is at c.in-Ok-None.ensures.next in
    cut_all c.args.selection.now file (g.W.Write.contents c.args.out.now) (g.W.Write.contents c.packets.out) c.packets.losses.items c.packets.selected c.packets.packets c.next.new.self e (c.packets.invariant.cutting file is)

pub returns-in-Err : goal.returns-in-Err
returns-in-Err g c file is = not_found file c.packets.packets.reading c.next.new.self.reading c.in-Err.fault c.in-Err.ensures.next (c.packets.invariant.cutting file is).amid
