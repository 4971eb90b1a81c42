use Rattle.std.proofs.Common.{[], ◌∷◌}
use Rattle.std.specs.Prelude.{codes}
use Rattle.bench_export.specs.Frames.{called_names}
use Rattle.bench_export.proofs.Parts.{three_put}
use Rattle.bench_export.proofs.names.push_message_names.Goals as goal

pub returns : goal.returns
returns c =
    three_put c.args.row.now _ _ _ (codes "line" ∷ codes "form" ∷ []) called_names
    (codes "status_words" ∷ codes "block_status" ∷ codes "gap1_us" ∷ codes "gap2_us" ∷ codes "data_words" ∷ [])
    c.in_ok-push_all.ensures c.in_ok-push_called_names.ensures c.in_ok-push_all-2.ensures
