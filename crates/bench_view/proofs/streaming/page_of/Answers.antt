use Rattle.std.proofs.Common.{◌≡◌, ◌∙◌, List, ap, arith, sym, subst, reverse, length}
use Rattle.ch11_reader.specs.declared.packet.Packet.{Packet}
use Rattle.ch11_reader.specs.Contents.{total_in}
use Rattle.ch11_reader.specs.Recording.{Found}
use Rattle.ch11_stream.specs.Reading.{last_found}
use Rattle.ch11_stream.proofs.Folding.{all_found, not_found}
use Rattle.ch11_stream.proofs.Readings.{amid_on, amid_start}
use Rattle.bench_decode.specs.ByTime.{chosen}
use Rattle.bench_select.specs.Viewed.{viewed_in, Viewed}
use Rattle.bench_select.proofs.Passed.{viewed_count, viewed_more, viewed_so_far}
use Rattle.bench_view.specs.Filling.{AreFilled}
use Rattle.bench_view.specs.Pages.{IsPage}
use Rattle.bench_view.proofs.streaming.page_of.Goals as goal

pub packets-init : goal.packets-init
packets-init g c =
    let are = rw c.as_slice.ensures.value at c.in_ok-filling.ensures c.args.asked.now.signals.now c.args.asked.now.selection in
    record {
      known = λ file is. rw (c.in_ok-packets.ensures, is) (amid_start file);
      few = rw c.in_ok-packets.ensures (omega (arith, are.filled.chosen));
      filled = rw c.in_ok-packets.ensures are;
    }

pub packets-preserved : goal.packets-preserved
packets-preserved g c =
    let s = rw c.in-Ok-Some.field-0-is at c.in-Ok-Some.ensures in
    let now = c.next.new.self in
    let earlier = c.packets.packets.earlier in
    let p = c.in-Ok-Some.packet in
    let front : p.before ≡ total_in earlier = ap (λ (x : Packet). x.before) s.listed in
    let behind : p.before ≡ length (viewed_so_far earlier) = front ∙ sym (viewed_count earlier) in
    let one = rw c.messages.ensures at c.in_ok-fill-in-Ok-Some.ensures in
    record {
      known = λ file is. amid_on file c.packets.packets now p s (c.packets.invariant.known file is);
      few = omega (arith, one.few, front, ap total_in s.entered);
      filled = subst (λ (hs : List Viewed). AreFilled c.args.template.now.front.items c.args.asked.now.signals.now c.args.asked.now.selection hs c.fill.new.filling) (viewed_more (last_found now p) earlier ∙ ap viewed_so_far (sym s.entered))
          (one.filled c.args.template.now.front.items (viewed_so_far earlier) c.packets.invariant.filled behind);
    }

pub returns-in-Ok-None-clause-page : goal.returns-in-Ok-None-clause-page
returns-in-Ok-None-clause-page g c file is =
    let e = rw c.in-Ok-None.field-0-is at c.in-Ok-None.ensures in
    let all = all_found file c.packets.packets c.next.new.self e (c.packets.invariant.known file is) in (
      all.0,
      subst (λ (ps : List Found). IsPage c.args.template.now.front.items c.args.template.now.behind.items c.args.asked.now.signals.now (chosen c.args.asked.now.selection (reverse (viewed_in ps))) c.in_ok-end_page-in-Ok-None.field-0.text.items) all.1
          (rw c.as_slice-behind.ensures.value at c.in_ok-end_page-in-Ok-None.ensures.page c.args.template.now.front.items (viewed_so_far c.packets.packets.earlier) c.packets.invariant.filled),
    )

pub returns-in-Ok-None-clause-chosen : goal.returns-in-Ok-None-clause-chosen
returns-in-Ok-None-clause-chosen g c file is =
    let e = rw c.in-Ok-None.field-0-is at c.in-Ok-None.ensures in
    let all = all_found file c.packets.packets c.next.new.self e (c.packets.invariant.known file is) in (
      all.0,
      c.in_ok-end_page-in-Ok-None.ensures.chosen ∙ c.packets.invariant.filled.filled.chosen
          ∙ ap (λ (ps : List Found). length (chosen c.args.asked.now.selection (reverse (viewed_in ps)))) all.1,
    )

pub returns-in-Err-clause-page : goal.returns-in-Err-clause-page
returns-in-Err-clause-page g c file is = not_found file c.packets.packets c.next.new.self c.in-Err.fault c.in-Err.ensures (c.packets.invariant.known file is)

pub returns-in-Err-clause-chosen : goal.returns-in-Err-clause-chosen
returns-in-Err-clause-chosen g c file is = not_found file c.packets.packets c.next.new.self c.in-Err.fault c.in-Err.ensures (c.packets.invariant.known file is)
