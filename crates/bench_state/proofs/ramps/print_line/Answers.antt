use Rattle.std.proofs.Common.{◌≡◌, ℕ, ◌++◌, false, OnOk, add-one, arith, subst}
use Rattle.std.specs.Io.KnownBytes.{Appends}
use Rattle.mil_word.specs.Fields.{most_words}
use Rattle.mil_terminal.specs.PutUp.{ramp_at}
use Rattle.bench_state.specs.Marks.{end_if}
use Rattle.bench_state.specs.RampText.{is_begun, place_text, ramps_below, ramps_line, shown}
use Rattle.bench_state.proofs.Listing.{line_ends, ramps_next, shown_next}
use Rattle.bench_state.proofs.ramps.print_line.Goals as goal

pub loop-place-preserved : goal.loop-place-preserved
loop-place-preserved g c =
    let s = c.args.terminal.now in
    let sub = c.args.subaddress in
    let so_far = ramps_below s sub c.loop-place.place in
    let here = place_text s sub c.loop-place.place (ramp_at sub c.loop-place.place s.history) in
    record {
      begun = rw add-one (ramps_next c.loop-place.begun c.in_ok-begun.begun so_far here c.loop-place.invariant.begun c.in_ok-begun.ensures.begun);
      text = rw add-one (shown_next _ _ _ c.loop-place.begun s.own sub so_far here c.loop-place.invariant.begun c.loop-place.invariant.text c.in_ok-begun.ensures.text);
    }

pub returns : goal.returns
unfolding ramps_line
returns g c =
    let s = c.args.terminal.now in
    let sub = c.args.subaddress in
    let done : c.loop-place.place ≡ most_words = omega arith in
    let all = λ (n : ℕ). ramps_below s sub n in
    subst (λ (n : ℕ). OnOk c.print_end_if.result (Appends (g.W.Write.contents c.args.out.now) (g.W.Write.contents c.print_end_if.new.out) (shown false s.own sub (all n) ++ end_if (is_begun (all n))))) done
    (line_ends c.print_end_if.result _ _ _ c.loop-place.begun (shown false s.own sub (all c.loop-place.place)) (all c.loop-place.place) c.loop-place.invariant.begun c.loop-place.invariant.text c.print_end_if.ensures)
