use Rattle.std.proofs.Common.{◌≡◌, ◌<◌, ℕ, [], List, Option, Some, rules, set, length, sym, ap, ◌∙◌, refl, arith}
use Rattle.std.proofs.lemmas.Bool.{eqb-true, eqb-false}
use Rattle.std.proofs.lemmas.List.{length-set, with_items_is}
use Rattle.ch11_reader.specs.Skipping.{bytes_before}
use Rattle.ch11_reader.proofs.Loop.{IsNext, nothing_entered, entries_index}
use Rattle.ch11_reader.proofs.Stretches.{sets_out, reads_one, skips_one, some_before, few_before, all_read, all_skipped}
use Rattle.ch11_reader.proofs.skipping.read_skipping.Goals as goal

pub stretches-init : goal.stretches-init
stretches-init c = (
  rw (c.new-packets.ensures.items, c.new-skips.ensures.items) (record {
    earlier = [];
    going = sets_out c.args.file.now;
    entered = nothing_entered c.args.file.now c.in_ok-latest.latest.items c.in_ok-latest.ensures.items;
    skipped = λ others. refl;
  }),
  c.in_ok-latest.ensures.len,
  c.of-judge.ensures,
)

pub stretches-preserved-in-Ok : goal.stretches-preserved-in-Ok
stretches-preserved-in-Ok c =
    let h = c.in-Ok.checked.header in
    let b = c.stretches.invariant.0 in
    let next : IsNext c.args.file.now c.stretches.rest.now h c.in-Ok.checked.count = record {
      read = c.in-Ok.ensures.read;
      channel = search rules;
      long = c.in-Ok.ensures.whole.0;
      whole = c.in-Ok.ensures.whole.1;
      body = c.in-Ok.ensures.whole.2;
      count = c.in-Ok.ensures.count;
      few = c.in-Ok.ensures.few;
    } in
    let noted : c.list_packet-packet.new.latest ≡ set c.stretches.latest.items h.channel (Some h.sequence) =
    c.list_packet-packet.ensures.noted ∙ ap (λ (x : List (Option ℕ)). set x h.channel (Some h.sequence)) c.deref_mut.ensures.value in
    let kept : length c.list_packet-packet.new.latest ≡ c.stretches.latest.len = omega (arith, ap length noted, length-set c.stretches.latest.items h.channel (Some h.sequence), b.entered.table, c.stretches.invariant.1) in
    let latest = with_items_is c.stretches.latest c.list_packet-packet.new.latest kept ∙ noted in
    let packet = rw c.deref_mut.ensures.value at c.list_packet-packet.ensures.packet in
    (rw (c.split_at.ensures.back, c.in_ok-push-in-Ok.ensures.items, packet, latest) (reads_one c.args.file.now c.stretches.rest.now c.stretches.packets.items c.stretches.before c.stretches.latest.items c.stretches.skips.items h c.in-Ok.checked.count _ next b refl), c.stretches.invariant.1, c.check.ensures.same ∙ c.stretches.invariant.2)

pub split_at-requires-in-Err : goal.split_at-requires-in-Err
split_at-requires-in-Err c = rw c.in_ok-length-in-Err.ensures.skipped (few_before c.stretches.rest.now)

pub stretches-smaller : goal.stretches-smaller
stretches-smaller c =
    let rest = c.stretches.rest.now in
    let some : 0 < bytes_before rest = some_before rest c.in-Err.fault (omega (arith, eqb-false (length rest) 0 (sym c.stretches-test.ensures))) c.in-Err.ensures.read in
    omega (arith, some, few_before rest, c.in_ok-length-in-Err.ensures.skipped, c.split_at-in-Err.ensures.back_len)

pub stretches-preserved : goal.stretches-preserved
stretches-preserved c =
    let rest = c.stretches.rest.now in (
      rw (c.split_at-in-Err.ensures.back, c.in_ok-push-in-Err.ensures.items, c.in_ok-length-in-Err.ensures.skipped)
          (skips_one c.args.file.now rest c.stretches.packets.items c.stretches.before c.stretches.latest.items c.stretches.skips.items c.in-Err.fault c.in-Err.ensures.read (omega (arith, eqb-false (length rest) 0 (sym c.stretches-test.ensures))) c.stretches.invariant.0),
      c.stretches.invariant.1,
      c.bytes_to_skip.ensures.same ∙ c.check.ensures.same ∙ c.stretches.invariant.2,
    )

pub invariant_of-index : goal.invariant_of-index
invariant_of-index c = let b = c.stretches.invariant.0 in entries_index c.args.file.now c.stretches.rest.now _ c.stretches.packets.items c.stretches.before c.stretches.latest.items b.entered

pub returns-clause-read : goal.returns-clause-read
returns-clause-read c = all_read c.args.file.now c.stretches.rest.now c.stretches.packets.items c.stretches.before c.stretches.latest.items c.stretches.skips.items (eqb-true (length c.stretches.rest.now) 0 (sym c.stretches-test.ensures)) c.stretches.invariant.0

pub returns-clause-skipped : goal.returns-clause-skipped
returns-clause-skipped c = all_skipped c.args.file.now c.stretches.rest.now c.stretches.packets.items c.stretches.before c.stretches.latest.items c.stretches.skips.items (eqb-true (length c.stretches.rest.now) 0 (sym c.stretches-test.ensures)) c.stretches.invariant.0

pub check-requires : goal.check-requires
check-requires c = let e = c.stretches.invariant.0.entered in rw c.stretches.invariant.2 (record { rest = record { shorter = e.shorter; place = e.place } })

pub bytes_to_skip-requires : goal.bytes_to_skip-requires
bytes_to_skip-requires c = let e = c.stretches.invariant.0.entered in rw (c.check.ensures.same, c.stretches.invariant.2) (record { rest = record { shorter = e.shorter; place = e.place } })
