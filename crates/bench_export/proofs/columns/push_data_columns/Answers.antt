use Rattle.bench_export.proofs.Framing.{no_fields, field_more}
use Rattle.bench_export.proofs.columns.push_data_columns.Goals as goal

pub words-init : goal.words-init
words-init c = no_fields c.args.row.now c.args.prefixed c.args.view.now

pub words-preserved : goal.words-preserved
words-preserved c =
    field_more c.args.row.now c.words.row c.push_word.new.row c.words.place c.args.prefixed c.args.view.now c.words.invariant
    (rw c.data_word.ensures at c.in_ok-push_word.ensures)
