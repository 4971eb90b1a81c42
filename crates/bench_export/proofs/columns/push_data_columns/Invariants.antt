use Rattle.std.proofs.Common.{◌≡◌, ◌++◌}
use Rattle.bench_export.specs.Frames.{data_fields}
use Rattle.bench_export.proofs.columns.push_data_columns.Given as goal

abbrev pub invariant-words : goal.invariant-words
invariant-words l = l.row ≡ l.fn.row ++ data_fields l.place l.prefixed l.view
