use Rattle.std.proofs.Common.{◌≡◌, add-one, arith}
use Rattle.mil_word.specs.Fields.{field_values}
use Rattle.bench_state.specs.Marks.{mode_part, modes_below}
use Rattle.bench_state.proofs.Listing.{begun_next, listed_next}
use Rattle.bench_state.proofs.marks.print_modes.Goals as goal

pub loop-code-preserved : goal.loop-code-preserved
loop-code-preserved g c =
    let s = c.args.terminal.now in
    let so_far = modes_below s c.args.transmit c.loop-code.code in
    let part = mode_part s c.args.transmit c.loop-code.code in
    record {
      begun = rw add-one (begun_next c.args.begun c.loop-code.begun_now c.in_ok-begun_now.begun_now so_far part c.loop-code.invariant.begun c.in_ok-begun_now.ensures.begun);
      text = rw add-one (listed_next _ _ _ c.args.begun c.loop-code.begun_now s.own so_far part c.loop-code.invariant.begun c.loop-code.invariant.text c.in_ok-begun_now.ensures.text);
    }

pub returns : goal.returns
returns g c =
    let done : c.loop-code.code ≡ field_values = omega arith in
    record {
      begun = rw done at c.loop-code.invariant.begun;
      text = rw done at c.loop-code.invariant.text;
    }
