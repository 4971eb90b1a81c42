use Rattle.std.proofs.Common.{◌≡◌, true, false, [], length, sym, ap, ◌∙◌}
use Rattle.std.proofs.lemmas.Bool.{eq-eqb}
use Rattle.bench_state.proofs.Appending.{then_appends}
use Rattle.bench_state.proofs.SourceRows.{lines_told}
use Rattle.bench_state.proofs.controller.print_controller.Goals as goal
use Rattle.bench_state.proofs.controller.print_controller.Goals.{else-queued-eq0-via-then-queued-eq0+else-is_empty, else-queued-eq0-via-else-queued-eq0}

pub returns : goal.returns
returns g c =
    let sources = c.args.sources.now in
    let some : c.args.queued ≡ 0 → sources ≡ [] → ⊥ = λ zero_is none.
    elim c.else-queued-eq0.branch [
      | else-queued-eq0-via-then-queued-eq0+else-is_empty w ↦
          let same : true ≡ false = sym (eq-eqb (length sources) 0 (ap length none)) ∙ sym w.is_empty.ensures ∙ w.if-is_empty.false in
          absurd cc
      | else-queued-eq0-via-else-queued-eq0 w ↦ w.if-queued-eq0.false zero_is
    ] in
    rw (lines_told c.args.queued sources some) (then_appends c.print_sources.result _ _ _ _ _ c.in_ok-print_queued.ensures c.print_sources.ensures)
