use Rattle.std.proofs.Common.{◌≡◌, not, arith}
use Rattle.std.specs.Prelude.{slice_index_or}
use Rattle.std.proofs.KnownBytes.{Appends-trans}
use Rattle.mil_terminal.specs.Replies.{transmit_words}
use Rattle.bench_state.specs.Marks.{name_if}
use Rattle.bench_state.specs.RampText.{ramp_text, ramps_head}
use Rattle.bench_state.proofs.ramps.print_place.Goals as goal

pub returns-in_ok-print_ramp-in-Some-clause-text : goal.returns-in_ok-print_ramp-in-Some-clause-text
returns-in_ok-print_ramp-in-Some-clause-text g c =
    let s = c.args.terminal.now in
    let sub = c.args.subaddress in
    let place : c.from.result ≡ c.args.place = omega (arith, c.from.ensures) in
    let next : c.word_at-next.result ≡ slice_index_or (transmit_words s.own sub s.history) c.args.place 0 = rw (c.transmit_words.ensures, place) at c.word_at-next.ensures in
    rw (← c.ramp.ensures, c.in-Some.is, ← next)
    (Appends-trans (g.W.Write.contents c.args.out.now) (g.W.Write.contents c.print_head.new.out) (g.W.Write.contents c.print_ramp.new.out)
    (name_if (not c.args.begun) (ramps_head s.own sub)) (ramp_text c.args.place c.word_at-next.result c.in-Some.add)
    (rw c.address.ensures.value at c.in_ok-print_head-in-Some.ensures) c.in_ok-print_ramp-in-Some.ensures)
