use Rattle.bench_state.proofs.marks.print_mode.Goals as goal

pub returns : goal.returns
returns g c = record {
  begun = rw (c.make-mark.ensures, c.marks_mode-on.ensures) at c.print_mark_if.ensures.begun;
  text = rw (c.make-mark.ensures, c.marks_mode-on.ensures, c.address.ensures.value) at c.print_mark_if.ensures.text;
}
