use Rattle.std.proofs.Common.{◌≡◌, ◌∙◌, List, ap, sym, subst, length, reverse}
use Rattle.std.specs.Io.KnownBytes.{Appends}
use Rattle.std.specs.List.{flat_map}
use Rattle.ch11_reader.specs.declared.packet.Packet.{Packet}
use Rattle.ch11_reader.specs.Contents.{total_in}
use Rattle.bench_select.specs.Viewed.{viewed_in, Viewed}
use Rattle.bench_select.proofs.Passed.{viewed_count, viewed_more, viewed_so_far}
use Rattle.ch11_reader.specs.Recording.{Found}
use Rattle.ch11_stream.specs.Reading.{last_found}
use Rattle.ch11_stream.proofs.Folding.{all_found, not_found}
use Rattle.ch11_stream.proofs.Readings.{amid_on, amid_start}
use Rattle.bench_judge.specs.Lines.{miss_line}
use Rattle.bench_judge.specs.Tallies.{IsWriting, missed_by}
use Rattle.bench_judge.proofs.Writing.{writing-none}
use Rattle.bench_judge.proofs.passes.write_each_miss.Goals as goal

pub packets-init : goal.packets-init
packets-init g c =
    let rule = c.args.rule.now in
    let origins = c.args.origins.now in record {
      known = λ file is. rw (c.in_ok-packets.ensures, is) (amid_start file);
      written = rw c.in_ok-packets.ensures (writing-none (g.T.Tallied.is_tally rule origins) (g.T.Tallied.misses_next rule origins) (g.T.Tallied.line_of rule) (g.W.Write.contents c.args.out.now) _ (c.no_tally-tally.ensures rule origins));
    }

pub packets-preserved : goal.packets-preserved
packets-preserved g c =
    let s = rw c.in-Ok-Some.field-0-is at c.in-Ok-Some.ensures in
    let now = c.next.new.self in
    let earlier = c.packets.packets.earlier in
    let p = c.in-Ok-Some.packet in
    let rule = c.args.rule.now in
    let origins = c.args.origins.now in
    let got = g.W.Write.contents c.args.out.now in
    let front : p.before ≡ total_in earlier = ap (λ (x : Packet). x.before) s.listed in
    let behind : p.before ≡ length (viewed_so_far earlier) = front ∙ sym (viewed_count earlier) in
    let written = rw c.messages-messages.ensures at c.in_ok-write_messages-in-Ok-Some.ensures (viewed_so_far earlier) got c.packets.invariant.written behind in
    record {
      known = λ file is. amid_on file c.packets.packets now p s (c.packets.invariant.known file is);
      written = subst (λ (hs : List Viewed). IsWriting (g.T.Tallied.is_tally rule origins) (g.T.Tallied.misses_next rule origins) (g.T.Tallied.line_of rule) got hs (g.W.Write.contents c.write_messages.new.out) c.write_messages.new.tally) (viewed_more (last_found now p) earlier ∙ ap viewed_so_far (sym s.entered)) written;
    }

pub returns-in-Ok-None : goal.returns-in-Ok-None
returns-in-Ok-None g c file is =
    let e = rw c.in-Ok-None.field-0-is at c.in-Ok-None.ensures in
    let rule = c.args.rule.now in
    let origins = c.args.origins.now in
    let all = all_found file c.packets.packets c.next.new.self e (c.packets.invariant.known file is) in (
      all.0,
      subst (λ (ps : List Found). Appends (g.W.Write.contents c.args.out.now) (g.W.Write.contents c.packets.out) (flat_map (miss_line (g.T.Tallied.line_of rule)) (missed_by (g.T.Tallied.misses_next rule origins) (reverse (viewed_in ps))))) all.1 c.packets.invariant.written.written,
    )

pub returns-in-Err : goal.returns-in-Err
returns-in-Err g c file is = not_found file c.packets.packets c.next.new.self c.in-Err.fault c.in-Err.ensures (c.packets.invariant.known file is)
