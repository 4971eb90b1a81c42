use Rattle.std.proofs.Common.{◌-◌, [], ◌∷◌}
use Rattle.std.specs.Prelude.{decimal}
use Rattle.ch11_layout.specs.Layouts.{data_start, data_end}
use Rattle.bench_export.specs.Frames.{first_status, second_status, status_flags, error_flags, data_fields}
use Rattle.bench_export.proofs.Parts.{four_put}
use Rattle.bench_export.proofs.columns.push_carried_columns.Goals as goal

pub returns : goal.returns
returns c =
    let m = c.args.view.now in
    four_put c.args.row.now _ _ _ _ (status_flags (first_status m) (second_status m)) (error_flags m.block) (decimal (data_end m - data_start m) ∷ []) (data_fields 32 c.args.prefixed m)
    (rw (c.first_status.ensures, c.second_status.ensures) at c.in_ok-push_status_flags.ensures) (rw c.block.ensures at c.in_ok-push_error_flags.ensures)
    (rw (c.saturating_sub.ensures, c.layout-layout.ensures) at c.in_ok-push_number.ensures) c.in_ok-push_data_columns.ensures
