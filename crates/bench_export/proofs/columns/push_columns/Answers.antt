use Rattle.bench_export.specs.Rows.{called_fields}
use Rattle.bench_export.specs.Frames.{sent_columns, answered_columns, carried_columns}
use Rattle.bench_export.proofs.Parts.{four_put}
use Rattle.bench_export.proofs.columns.push_columns.Goals as goal

pub returns : goal.returns
returns c =
    let m = c.args.view.now in
    four_put c.args.row.now _ _ _ _ (sent_columns m) (called_fields m) (answered_columns c.args.prefixed m) (carried_columns c.args.prefixed m)
    c.in_ok-push_sent_columns.ensures c.in_ok-push_called.ensures c.in_ok-push_answered_columns.ensures c.in_ok-push_carried_columns.ensures
