use Rattle.std.proofs.Common.{◌≡◌, ◌++◌}
use Rattle.bench_export.specs.Frames.{data_names}
use Rattle.bench_export.proofs.names.push_data_names.Given as goal

abbrev pub invariant-words : goal.invariant-words
invariant-words l = l.row ≡ l.fn.row ++ data_names l.place
