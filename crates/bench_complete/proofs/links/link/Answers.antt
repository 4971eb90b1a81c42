use Rattle.std.proofs.Common.{◌≡◌, ℕ, suc, ◌-◌, get_or, sym, subst, arith}
use Rattle.std.proofs.lemmas.Option.{slice_get-get_or}
use Rattle.bench_complete.specs.Lanes.{AreLinked}
use Rattle.bench_complete.proofs.Linked.{no_links, one_linked, no_entry}
use Rattle.bench_complete.proofs.links.link.Goals as goal

pub packets-init : goal.packets-init
packets-init c = no_links c.args.packets.now c.in_ok-first.first.items c.in_ok-next.next.items (c.in_ok-first.ensures.items_if_clones_equal (λ y h. h)) (c.in_ok-next.ensures.items_if_clones_equal (λ y h. h))

pub packets-preserved : goal.packets-preserved
packets-preserved c =
    let back : suc (c.packets.place - 1) ≡ c.packets.place = omega (arith, c.packets-test.true) in
    let before : AreLinked c.args.packets.now (suc (c.packets.place - 1)) c.packets.first.items c.packets.next.items =
    subst (λ (k : ℕ). AreLinked c.args.packets.now k c.packets.first.items c.packets.next.items) (sym back) c.packets.invariant in
    one_linked c.args.packets.now (c.packets.place - 1) (get_or c.args.packets.now (c.packets.place - 1) no_entry)
    (slice_get-get_or c.args.packets.now (c.packets.place - 1) no_entry (omega (arith, c.packets-test.true, c.packets.invariant.within)))
    c.packets.first.items c.packets.next.items c.link_packet.new.first.items c.link_packet.new.next.items c.link_packet.ensures.channel before c.link_packet.ensures.first c.link_packet.ensures.next

pub returns : goal.returns
returns c =
    let none : c.packets.place ≡ 0 = omega (arith, c.packets-test.false) in
    subst (λ (k : ℕ). AreLinked c.args.packets.now k c.packets.first.items c.packets.next.items) none c.packets.invariant
