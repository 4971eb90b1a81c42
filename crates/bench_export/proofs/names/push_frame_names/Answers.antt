use Rattle.std.proofs.Common.{[], ◌∷◌, ◌++◌}
use Rattle.std.specs.Prelude.{codes}
use Rattle.bench_export.specs.Frames.{sent_names, called_names, answered_names, status_names, error_names, data_names}
use Rattle.bench_export.proofs.Parts.{four_put}
use Rattle.bench_export.proofs.names.push_frame_names.Goals as goal

pub returns : goal.returns
returns c =
    four_put c.args.row.now _ _ _ _ sent_names called_names (answered_names ++ (status_names ++ (error_names ++ codes "data_words" ∷ []))) (data_names 32)
    c.in_ok-push_all.ensures c.in_ok-push_called_names.ensures c.in_ok-push_all-2.ensures c.in_ok-push_data_names.ensures
