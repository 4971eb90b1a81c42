use Rattle.std.proofs.Common.{[], ◌++◌, refl}
use Rattle.bench_dump.proofs.Steps.{appends_both}
use Rattle.bench_export.specs.Waves.{changes_text, first_tick, head_text}
use Rattle.bench_export.proofs.Surveying.{first_in_order, present_in_order}
use Rattle.bench_export.proofs.waves.export_waves.Goals as goal

pub returns-clause-written : goal.returns-clause-written
returns-clause-written g c file one other =
    let f = c.in_ok-found.ensures.found file one in
    let s = f.1.0 in
    let d = c.in_ok-write_merged.ensures file other in
    let m = d.1 s.lag in
    let first = first_in_order _ _ m.0 s.least m.1 in (
      f.0,
      (
        (
          head_text m.0 ++ changes_text (first_tick m.0) [] m.0,
          record { changes = m.0; order = m.1; is = refl },
          appends_both _ _ _ _ _ (c.in_ok-write_head.ensures m.0 (present_in_order _ _ m.0 m.1.same s.present) first) (rw (c.first-told.ensures, first) at m.2),
        ),
        f.1.1,
      ),
    )
