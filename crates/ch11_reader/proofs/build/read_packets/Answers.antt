use Rattle.std.proofs.Common.{◌≡◌, ℕ, List, Option, Some, rules, set, length, sym, ap, ◌∙◌, refl, arith}
use Rattle.std.proofs.lemmas.Bool.{eqb-true, eqb-false}
use Rattle.std.proofs.lemmas.List.{length-set, with_items_is}
use Rattle.ch11_reader.proofs.Loop.{IsNext, starts, builds_on, stops, entries_index, is_read}
use Rattle.ch11_reader.proofs.build.read_packets.Goals as goal

pub loop-rest-init : goal.loop-rest-init
loop-rest-init c = (rw c.new-packets.ensures.items (starts c.args.file.now c.in_ok-latest.latest.items c.in_ok-latest.ensures.items), c.in_ok-latest.ensures.len)

pub returns-in-Err-clause-refused : goal.returns-in-Err-clause-refused
returns-in-Err-clause-refused c r same =
    let read = stops c.args.file.now c.loop-rest.rest.now c.loop-rest.invariant.0.earlier c.in-Err.fault (omega (arith, eqb-false (length c.loop-rest.rest.now) 0 (sym c.loop-rest-test.ensures))) c.in-Err.ensures.read c.loop-rest.invariant.0.going in
    cc

pub loop-rest-preserved : goal.loop-rest-preserved
loop-rest-preserved c =
    let h = c.in-Ok.checked.header in
    let b = c.loop-rest.invariant.0 in
    let next : IsNext c.args.file.now c.loop-rest.rest.now h c.in-Ok.checked.count = record {
      read = c.in-Ok.ensures.read;
      channel = search rules;
      long = c.in-Ok.ensures.whole.0;
      whole = c.in-Ok.ensures.whole.1;
      body = c.in-Ok.ensures.whole.2;
      count = c.in-Ok.ensures.count;
      few = c.in-Ok.ensures.few;
    } in
    let noted : c.list_packet-packet.new.latest ≡ set c.loop-rest.latest.items h.channel (Some h.sequence) =
    c.list_packet-packet.ensures.noted ∙ ap (λ (x : List (Option ℕ)). set x h.channel (Some h.sequence)) c.deref_mut.ensures.value in
    let kept : length c.list_packet-packet.new.latest ≡ c.loop-rest.latest.len = omega (arith, ap length noted, length-set c.loop-rest.latest.items h.channel (Some h.sequence), b.entered.table, c.loop-rest.invariant.1) in
    let latest = with_items_is c.loop-rest.latest c.list_packet-packet.new.latest kept ∙ noted in
    let packet = rw c.deref_mut.ensures.value at c.list_packet-packet.ensures.packet in
    (rw (c.split_at.ensures.back, c.in_ok-push.ensures.items, packet, latest) (builds_on c.args.file.now c.loop-rest.rest.now c.loop-rest.packets.items c.loop-rest.before c.loop-rest.latest.items h c.in-Ok.checked.count _ next b refl), c.loop-rest.invariant.1)

pub invariant_of-result : goal.invariant_of-result
invariant_of-result c = let b = c.loop-rest.invariant.0 in entries_index c.args.file.now c.loop-rest.rest.now b.earlier c.loop-rest.packets.items c.loop-rest.before c.loop-rest.latest.items b.entered

pub returns-clause-ok : goal.returns-clause-ok
returns-clause-ok c = is_read c.args.file.now c.loop-rest.rest.now c.loop-rest.packets.items c.loop-rest.before c.loop-rest.latest.items (eqb-true (length c.loop-rest.rest.now) 0 (sym c.loop-rest-test.ensures)) c.loop-rest.invariant.0
