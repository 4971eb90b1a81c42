use Rattle.std.proofs.Common.{◌≡◌, ◌∙◌, List, ap, sym, subst, length, reverse, take}
use Rattle.std.specs.List.{flat_map}
use Rattle.ch11_reader.specs.declared.packet.Packet.{Packet}
use Rattle.ch11_reader.specs.Contents.{total_in}
use Rattle.bench_select.specs.Viewed.{viewed_in, Viewed}
use Rattle.ch11_reader.specs.Recording.{Found}
use Rattle.ch11_stream.specs.Reading.{last_found}
use Rattle.ch11_stream.proofs.Folding.{all_found, not_found}
use Rattle.ch11_stream.proofs.Readings.{amid_on, amid_start}
use Rattle.bench_judge.specs.Tallies.{IsTelling}
use Rattle.bench_judge.specs.Told.{told_moment}
use Rattle.bench_judge.specs.Verdicts.{missed}
use Rattle.bench_select.proofs.Passed.{viewed_count, viewed_more, viewed_so_far}
use Rattle.bench_judge.proofs.telling.tell_messages.Goals as goal

pub packets-init : goal.packets-init
packets-init g c = record {
  known = λ file is. rw (c.in_ok-packets.ensures, is) (amid_start file);
  told = rw c.in_ok-packets.ensures (c.new-telling.ensures c.args.rule.now c.args.origins.now);
}

pub packets-preserved : goal.packets-preserved
packets-preserved g c =
    let s = rw c.in-Ok-Some.field-0-is at c.in-Ok-Some.ensures in
    let now = c.next.new.self in
    let earlier = c.packets.packets.earlier in
    let p = c.in-Ok-Some.packet in
    let front : p.before ≡ total_in earlier = ap (λ (x : Packet). x.before) s.listed in
    let behind : p.before ≡ length (viewed_so_far earlier) = front ∙ sym (viewed_count earlier) in
    let told = rw c.messages.ensures at c.in_ok-tell_packet-in-Ok-Some.ensures (viewed_so_far earlier) c.args.most c.packets.invariant.told behind in
    record {
      known = λ file is. amid_on file c.packets.packets now p s (c.packets.invariant.known file is);
      told = subst (λ (hs : List Viewed). IsTelling c.args.rule.now c.args.origins.now c.args.most hs c.tell_packet.new.self) (viewed_more (last_found now p) earlier ∙ ap viewed_so_far (sym s.entered)) told;
    }

pub returns-in-Ok-None : goal.returns-in-Ok-None
returns-in-Ok-None g c file is =
    let e = rw c.in-Ok-None.field-0-is at c.in-Ok-None.ensures in
    let all = all_found file c.packets.packets c.next.new.self e (c.packets.invariant.known file is) in (
      all.0,
      subst (λ (ps : List Found). c.packets.telling.text.items ≡ flat_map (told_moment c.args.rule.now c.args.origins.now) (take c.args.most (reverse (missed c.args.rule.now c.args.origins.now (reverse (viewed_in ps)))))) all.1 c.packets.invariant.told.told,
    )

pub returns-in-Err : goal.returns-in-Err
returns-in-Err g c file is = not_found file c.packets.packets c.next.new.self c.in-Err.fault c.in-Err.ensures (c.packets.invariant.known file is)
