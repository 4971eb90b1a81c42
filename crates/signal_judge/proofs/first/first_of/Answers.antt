use Rattle.std.proofs.Common.{◌≡◌, ◌∙◌, List, ap, sym, subst, length, reverse, take}
use Rattle.ch11_reader.specs.declared.packet.Packet.{Packet}
use Rattle.ch11_reader.specs.Contents.{total_in}
use Rattle.bench_select.specs.Viewed.{viewed_in, Viewed}
use Rattle.ch11_reader.specs.Recording.{Found}
use Rattle.ch11_stream.specs.Reading.{last_found}
use Rattle.ch11_stream.proofs.Folding.{all_found, not_found}
use Rattle.ch11_stream.proofs.Readings.{amid_on, amid_start}
use Rattle.signal_judge.specs.Tallies.{IsFinding}
use Rattle.signal_judge.specs.Verdicts.{misses}
use Rattle.signal_judge.proofs.Finding.{finding-none}
use Rattle.bench_select.proofs.Passed.{viewed_count, viewed_more, viewed_so_far}
use Rattle.signal_judge.proofs.first.first_of.Goals as goal

pub packets-init : goal.packets-init
packets-init g c = record {
  known = λ file is. rw (c.in_ok-packets.ensures, is) (amid_start file);
  finding = rw (c.in_ok-packets.ensures, c.new-found.ensures.items) (finding-none c.args.rule.now c.args.origins.now c.args.most _ (c.new-tally.ensures c.args.rule.now c.args.origins.now));
}

pub packets-preserved : goal.packets-preserved
packets-preserved g c =
    let s = rw c.in-Ok-Some.field-0-is at c.in-Ok-Some.ensures in
    let now = c.next.new.self in
    let earlier = c.packets.packets.earlier in
    let p = c.in-Ok-Some.packet in
    let front : p.before ≡ total_in earlier = ap (λ (x : Packet). x.before) s.listed in
    let behind : p.before ≡ length (viewed_so_far earlier) = front ∙ sym (viewed_count earlier) in
    let finding = rw c.messages-messages.ensures at c.in_ok-first_in-in-Ok-Some.ensures (viewed_so_far earlier) c.packets.invariant.finding behind in
    record {
      known = λ file is. amid_on file c.packets.packets now p s (c.packets.invariant.known file is);
      finding = subst (λ (hs : List Viewed). IsFinding c.args.rule.now c.args.origins.now c.args.most hs c.first_in.new.found.items c.first_in.new.tally) (viewed_more (last_found now p) earlier ∙ ap viewed_so_far (sym s.entered)) finding;
    }

pub returns-in-Ok-None : goal.returns-in-Ok-None
returns-in-Ok-None g c file is =
    let e = rw c.in-Ok-None.field-0-is at c.in-Ok-None.ensures in
    let all = all_found file c.packets.packets c.next.new.self e (c.packets.invariant.known file is) in (
      all.0,
      subst (λ (ps : List Found). c.packets.found.items ≡ take c.args.most (misses c.args.rule.now c.args.origins.now (reverse (viewed_in ps)))) all.1 c.packets.invariant.finding.first,
    )

pub returns-in-Err : goal.returns-in-Err
returns-in-Err g c file is = not_found file c.packets.packets c.next.new.self c.in-Err.fault c.in-Err.ensures (c.packets.invariant.known file is)
