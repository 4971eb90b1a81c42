use Rattle.bench_export.proofs.Framing.{no_names, name_more}
use Rattle.bench_export.proofs.names.push_data_names.Goals as goal

pub words-init : goal.words-init
words-init c = no_names c.args.row.now

pub words-preserved : goal.words-preserved
words-preserved c = name_more c.args.row.now c.words.row c.push_data_name.new.row c.words.place c.words.invariant c.in_ok-push_data_name.ensures
