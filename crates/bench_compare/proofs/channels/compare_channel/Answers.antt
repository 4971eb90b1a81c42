use Rattle.std.proofs.Common.{ℕ, eqb, List, [], Option, None, length, ap, refl, ◌∙◌, arith}
use Rattle.std.proofs.lemmas.Result.{err_from_is_err_and}
use Rattle.ch11_f1.specs.BodyReading.{Message}
use Rattle.ch11_layout.specs.Stamps.{Recorded, kind_of}
use Rattle.ch11_reader.specs.Contents.{total_in}
use Rattle.ch11_stream.specs.Reading.{at_start}
use Rattle.ch11_stream.proofs.Folding.{not_found}
use Rattle.bench_compare.specs.Chosen.{chosen_if}
use Rattle.bench_compare.proofs.Coming.{behind_all}
use Rattle.bench_compare.proofs.Stepping.{compares_on, differs_in, ends_by, starts}
use Rattle.bench_compare.proofs.channels.compare_channel.Goals as goal

pub packets-init : goal.packets-init
packets-init g c = record {
  same = omega arith;
  going = λ file other ps qs one two read both.
      let asked = c.args.asked.now in
      starts asked.within asked.first.selection.now asked.second.selection.now asked.first.channel asked.second.channel file other ps qs c.in_ok-packets.packets (record { same = 0; origins = None }) c.in_ok-pass.pass
      (c.in_ok-packets.ensures ∙ ap (λ (o : Option (List ℕ)). at_start o) one) refl (c.in_ok-pass.ensures ∙ ap (λ (o : Option (List ℕ)). record { reading = at_start o; kept = [] }) two);
}

pub returns-in_err-found-in-Ok-Some : goal.returns-in_err-found-in-Ok-Some
returns-in_err-found-in-Ok-Some g c = λ file other ps qs one two read both.
    let p = err_from_is_err_and c.from_residual-in_err-found-in-Ok-Some.result c.from_residual-in_err-found-in-Ok-Some.ensures.1 in
    rw (p.1, p.2) (c.in_err-found-in-Ok-Some.ensures.compared file other qs (c.packets.invariant.going file other ps qs one two read both).way both)

pub returns-in-Some : goal.returns-in-Some
returns-in-Some g c = λ file other ps qs one two read both.
    let step = rw c.in-Ok-Some.field-0-is at c.in-Ok-Some.ensures in
    let asked = c.args.asked.now in
    let p = c.in-Ok-Some.packet in
    let chosen : List Message → List Recorded = λ ms. chosen_if asked.first.selection.now (eqb p.header.channel asked.first.channel) (kind_of p.header) p.before asked.first.channel ms in
    let so_far = c.packets.invariant.going file other ps qs one two read both in
    let all = rw c.in-Some.is at (c.in_ok-found-in-Ok-Some.ensures.compared file other qs so_far.way both) in
    differs_in asked.within asked.first.selection.now asked.second.selection.now asked.first.channel asked.second.channel file other ps qs c.packets.packets c.next.new.self p (chosen c.messages-messages.result) c.packets.standing c.compare_packet.new.standing c.packets.pass c.compare_packet.new.pass c.in-Some.difference
    step read (ap chosen c.messages-messages.ensures) so_far all

pub returns-in-Ok-None : goal.returns-in-Ok-None
returns-in-Ok-None g c = λ file other ps qs one two read both.
    let so_far = c.packets.invariant.going file other ps qs one two read both in
    let e = rw c.in-Ok-None.field-0-is at c.in-Ok-None.ensures in
    ends_by c.args.asked.now file other ps qs c.packets.packets c.next.new.self c.packets.standing c.packets.pass c.compare_end.result e read so_far (c.compare_end.ensures file other qs so_far.way both)

pub returns-in-Err : goal.returns-in-Err
returns-in-Err g c = λ file other ps qs one two read both.
    not_found file c.packets.packets c.next.new.self c.in-Err.fault c.in-Err.ensures (c.packets.invariant.going file other ps qs one two read both).amid

pub packets-preserved : goal.packets-preserved
packets-preserved g c =
    let step = rw c.in-Ok-Some.field-0-is at c.in-Ok-Some.ensures in
    let asked = c.args.asked.now in
    let p = c.in-Ok-Some.packet in
    let chosen : List Message → List Recorded = λ ms. chosen_if asked.first.selection.now (eqb p.header.channel asked.first.channel) (kind_of p.header) p.before asked.first.channel ms in
    record {
      same = omega (arith, c.compare_packet.ensures.counted, ap length c.messages-messages.ensures, behind_all c.packets.packets c.next.new.self p step, ap total_in step.entered);
      going = λ file other ps qs one two read both.
          let so_far = c.packets.invariant.going file other ps qs one two read both in
          let all = rw c.in_default.is at (c.in_ok-found-in-Ok-Some.ensures.compared file other qs so_far.way both) in
          compares_on asked.within asked.first.selection.now asked.second.selection.now asked.first.channel asked.second.channel file other ps qs c.packets.packets c.next.new.self p (chosen c.messages-messages.result) c.packets.standing c.compare_packet.new.standing c.packets.pass c.compare_packet.new.pass
          step read (ap chosen c.messages-messages.ensures) so_far all;
    }
