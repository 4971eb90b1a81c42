use Rattle.bench_export.specs.Rows.{sent_fields, called_fields, answered_fields}
use Rattle.bench_export.proofs.Parts.{three_put}
use Rattle.bench_export.proofs.fields.push_fields.Goals as goal

pub returns : goal.returns
returns c =
    let m = c.args.view.now in
    three_put c.args.row.now _ _ _ (sent_fields m) (called_fields m) (answered_fields m)
    c.in_ok-push_sent.ensures c.in_ok-push_called.ensures c.in_ok-push_answered.ensures
