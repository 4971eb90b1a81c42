use Rattle.std.proofs.Common.{◌≡◌, ◌+◌, ◌-◌, ◌<◌, ◌^◌, ◌∙◌, List, refl, ap, sym, subst, arith, length, reverse}
use Rattle.std.proofs.lemmas.List.{with_items_is}
use Rattle.ch11_reader.specs.Contents.{total_in}
use Rattle.ch11_reader.specs.Listing.{listing}
use Rattle.ch11_reader.specs.declared.packet.Packet.{Packet}
use Rattle.bench_select.specs.Viewed.{Viewed}
use Rattle.ch11_reader.specs.Recording.{Found}
use Rattle.ch11_stream.specs.Reading.{last_found}
use Rattle.ch11_stream.proofs.Folding.{all_found, not_found}
use Rattle.ch11_stream.proofs.Readings.{amid_on, amid_start}
use Rattle.bench_judge.specs.declared.packets.PacketTally.{PacketTally}
use Rattle.bench_judge.specs.declared.tallies.Tally.{Tally}
use Rattle.bench_judge.specs.Packets.{ArePacketTallies}
use Rattle.bench_judge.specs.Tallies.{AreTallies, IsTally}
use Rattle.bench_judge.specs.Verdicts.{AreVerdicts, passed_in}
use Rattle.bench_judge.proofs.Losing.{few_listed, listed_next}
use Rattle.bench_select.proofs.Passed.{viewed_count, viewed_more, viewed_so_far}
use Rattle.bench_judge.proofs.judging.judge.Goals as goal

pub note_packet-requires : goal.note_packet-requires
note_packet-requires g c = omega (arith, ap length c.as_mut_slice.ensures.value, c.packets.invariant.wholes.many)

pub note_messages-requires : goal.note_messages-requires
note_messages-requires g c = omega (arith, ap length c.as_mut_slice-in-Ok-Some.ensures.value, c.packets.invariant.counted.many)

pub packets-init : goal.packets-init
packets-init g c = record {
  known = λ file is. rw (c.in_ok-packets.ensures, is) (amid_start file);
  counted = rw c.in_ok-packets.ensures (c.in_ok-tallies.ensures c.args.origins.now);
  wholes = rw c.in_ok-packets.ensures c.in_ok-wholes.ensures;
  many = rw c.in_ok-packets.ensures refl;
}

pub packets-preserved : goal.packets-preserved
packets-preserved g c =
    let s = rw c.in-Ok-Some.field-0-is at c.in-Ok-Some.ensures in
    let now = c.next.new.self in
    let earlier = c.packets.packets.earlier in
    let p = c.in-Ok-Some.packet in
    let few : length earlier < 2 ^ 64 - 1 = omega (arith, c.packets.invariant.many, c.packets-test.true) in
    let whole = subst (λ (ts : List PacketTally). ArePacketTallies c.args.rules.now (listing (reverse earlier)) ts) (sym c.as_mut_slice.ensures.value) c.packets.invariant.wholes in
    let kept_whole : length c.note_packet.new.tallies ≡ c.packets.wholes.len = omega (arith, c.note_packet.auto.tallies, ap length c.as_mut_slice.ensures.value, c.as_mut_slice.ensures.len) in
    let more = subst (λ (ps : List Packet). ArePacketTallies c.args.rules.now ps c.note_packet.new.tallies) (sym (listed_next c.packets.packets now p s)) (c.note_packet.ensures (listing (reverse earlier)) (few_listed earlier few) whole) in
    let start = subst (λ (ts : List Tally). AreTallies IsTally c.args.rules.now c.args.origins.now (viewed_so_far earlier) ts) (sym c.as_mut_slice-in-Ok-Some.ensures.value) c.packets.invariant.counted in
    let room : length (viewed_so_far earlier) + length now.given < 2 ^ 64 = omega (arith, viewed_count earlier, s.few, ap total_in s.entered) in
    let noted = rw c.messages.ensures at c.in_ok-note_messages-in-Ok-Some.ensures (viewed_so_far earlier) start room in
    let kept : length c.note_messages.new.tallies ≡ c.packets.tallies.len = omega (arith, c.note_messages.auto.tallies, ap length c.as_mut_slice-in-Ok-Some.ensures.value, c.as_mut_slice-in-Ok-Some.ensures.len) in
    let on = subst (λ (hs : List Viewed). AreTallies IsTally c.args.rules.now c.args.origins.now hs c.note_messages.new.tallies) (viewed_more (last_found now p) earlier ∙ ap viewed_so_far (sym s.entered)) noted in
    record {
      known = λ file is. amid_on file c.packets.packets now p s (c.packets.invariant.known file is);
      counted = subst (λ (ts : List Tally). AreTallies IsTally c.args.rules.now c.args.origins.now (viewed_so_far now.earlier) ts) (sym (with_items_is c.packets.tallies c.note_messages.new.tallies kept)) on;
      wholes = subst (λ (ts : List PacketTally). ArePacketTallies c.args.rules.now (listing (reverse now.earlier)) ts) (sym (with_items_is c.packets.wholes c.note_packet.new.tallies kept_whole)) more;
      many = omega (arith, ap (λ (ps : List Found). length ps) s.entered, c.packets.invariant.many);
    }

pub returns-in-Ok-None-clause-judged : goal.returns-in-Ok-None-clause-judged
returns-in-Ok-None-clause-judged g c file is =
    let e = rw c.in-Ok-None.field-0-is at c.in-Ok-None.ensures in
    let all = all_found file c.packets.packets c.next.new.self e (c.packets.invariant.known file is) in
    let made = c.in_ok-verdicts-in-Ok-None.ensures in (
      all.0,
      subst (λ (ps : List Found). AreVerdicts c.args.rules.now (passed_in c.args.origins.now ps) c.in_ok-verdicts-in-Ok-None.verdicts.items) all.1
          (made (passed_in c.args.origins.now (reverse c.packets.packets.earlier)) c.packets.invariant.counted c.packets.invariant.wholes),
    )

pub returns-in-Err-clause-judged : goal.returns-in-Err-clause-judged
returns-in-Err-clause-judged g c file is = not_found file c.packets.packets c.next.new.self c.in-Err.fault c.in-Err.ensures (c.packets.invariant.known file is)

pub returns-in-Ok-None-clause-many : goal.returns-in-Ok-None-clause-many
returns-in-Ok-None-clause-many g c =
    (c.in_ok-verdicts-in-Ok-None.ensures (passed_in c.args.origins.now (reverse c.packets.packets.earlier)) c.packets.invariant.counted c.packets.invariant.wholes).many
