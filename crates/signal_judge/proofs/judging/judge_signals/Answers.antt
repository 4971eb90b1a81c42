use Rattle.std.proofs.Common.{◌≡◌, ◌+◌, ◌<◌, ◌^◌, ◌∙◌, List, ap, sym, subst, arith, length, reverse}
use Rattle.std.proofs.lemmas.List.{with_items_is}
use Rattle.ch11_reader.specs.Contents.{total_in}
use Rattle.bench_select.specs.Viewed.{viewed_in, Viewed}
use Rattle.ch11_reader.specs.Recording.{Found}
use Rattle.ch11_stream.specs.Reading.{last_found}
use Rattle.ch11_stream.proofs.Folding.{all_found, not_found}
use Rattle.ch11_stream.proofs.Readings.{amid_on, amid_start}
use Rattle.signal_judge.specs.declared.tallies.SignalTally.{SignalTally}
use Rattle.bench_judge.specs.Tallies.{AreTallies}
use Rattle.signal_judge.specs.Tallies.{IsTally}
use Rattle.signal_judge.specs.Verdicts.{AreVerdicts}
use Rattle.bench_select.proofs.Passed.{viewed_count, viewed_more, viewed_so_far}
use Rattle.signal_judge.proofs.judging.judge_signals.Goals as goal

pub note_messages-requires : goal.note_messages-requires
note_messages-requires g c = omega (arith, ap length c.as_mut_slice.ensures.value, c.packets.invariant.counted.many)

pub packets-init : goal.packets-init
packets-init g c = record {
  known = λ file is. rw (c.in_ok-packets.ensures, is) (amid_start file);
  counted = rw c.in_ok-packets.ensures (c.in_ok-tallies.ensures c.args.origins.now);
}

pub packets-preserved : goal.packets-preserved
packets-preserved g c =
    let s = rw c.in-Ok-Some.field-0-is at c.in-Ok-Some.ensures in
    let now = c.next.new.self in
    let earlier = c.packets.packets.earlier in
    let p = c.in-Ok-Some.packet in
    let start = subst (λ (ts : List SignalTally). AreTallies IsTally c.args.rules.now c.args.origins.now (viewed_so_far earlier) ts) (sym c.as_mut_slice.ensures.value) c.packets.invariant.counted in
    let few : length (viewed_so_far earlier) + length now.given < 2 ^ 64 = omega (arith, viewed_count earlier, s.few, ap total_in s.entered) in
    let noted = rw c.messages.ensures at c.in_ok-note_messages-in-Ok-Some.ensures (viewed_so_far earlier) start few in
    let kept : length c.note_messages.new.tallies ≡ c.packets.tallies.len = omega (arith, c.note_messages.auto.tallies, ap length c.as_mut_slice.ensures.value, c.as_mut_slice.ensures.len) in
    let on = subst (λ (hs : List Viewed). AreTallies IsTally c.args.rules.now c.args.origins.now hs c.note_messages.new.tallies) (viewed_more (last_found now p) earlier ∙ ap viewed_so_far (sym s.entered)) noted in
    record {
      known = λ file is. amid_on file c.packets.packets now p s (c.packets.invariant.known file is);
      counted = subst (λ (ts : List SignalTally). AreTallies IsTally c.args.rules.now c.args.origins.now (viewed_so_far now.earlier) ts) (sym (with_items_is c.packets.tallies c.note_messages.new.tallies kept)) on;
    }

pub returns-in-Ok-None-clause-judged : goal.returns-in-Ok-None-clause-judged
returns-in-Ok-None-clause-judged g c file is =
    let e = rw c.in-Ok-None.field-0-is at c.in-Ok-None.ensures in
    let all = all_found file c.packets.packets c.next.new.self e (c.packets.invariant.known file is) in (
      all.0,
      subst (λ (ps : List Found). AreVerdicts c.args.rules.now c.args.origins.now (reverse (viewed_in ps)) c.in_ok-verdicts-in-Ok-None.verdicts.items) all.1
          (c.in_ok-verdicts-in-Ok-None.ensures c.args.origins.now (viewed_so_far c.packets.packets.earlier) (rw c.as_slice.ensures.value c.packets.invariant.counted)),
    )

pub returns-in-Err-clause-judged : goal.returns-in-Err-clause-judged
returns-in-Err-clause-judged g c file is = not_found file c.packets.packets c.next.new.self c.in-Err.fault c.in-Err.ensures (c.packets.invariant.known file is)

pub returns-in-Ok-None-clause-many : goal.returns-in-Ok-None-clause-many
returns-in-Ok-None-clause-many g c = (c.in_ok-verdicts-in-Ok-None.ensures c.args.origins.now (viewed_so_far c.packets.packets.earlier) (rw c.as_slice.ensures.value c.packets.invariant.counted)).many
