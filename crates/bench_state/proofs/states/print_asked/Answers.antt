use Rattle.std.proofs.Common.{◌≡◌, ℕ, None, length, sym, ap, ◌∙◌}
use Rattle.controller_host.specs.declared.destinations.Destination.{Destination}
use Rattle.controller_host.specs.Destinations.{IsPlace}
use Rattle.controller_host.specs.Sources.{source_in}
use Rattle.bc_machine.specs.Hosting.{source_at}
use Rattle.bench_state.specs.ControllerText.{controller_lines, controller_state, controller_text}
use Rattle.bench_state.specs.SourceRows.{rows_text}
use Rattle.bench_state.proofs.SourceLines.{controller_is}
use Rattle.bench_state.proofs.states.print_asked.Goals as goal

pub returns-in-Host : goal.returns-in-Host
returns-in-Host g c =
    let m = c.args.machine.now in
    let same : (d : Destination) (i : ℕ) → IsPlace d i → source_in c.rows.result.now d i ≡ source_at (length m.made) m.placed m.made d i = λ d i is.
    ap (λ rs. source_in rs d i) c.rows.ensures.value ∙ c.sources.ensures d i is in
    let told : controller_state m.placed m.made ≡ controller_lines c.queued.result (rows_text None c.rows.result.now) =
    ap (λ n. controller_text n (source_at (length m.made) m.placed m.made)) (sym c.queued.ensures)
    ∙ controller_is c.queued.result (source_at (length m.made) m.placed m.made) c.rows.result.now c.rows.ensures.rows same in
    rw (c.in-Host.is, told) c.print_controller.ensures
