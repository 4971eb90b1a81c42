use Rattle.std.proofs.lemmas.Result.{err_from_is_err_and}
use Rattle.replay.proofs.playing.play.Goals as goal

pub returns-in_err-play_all-clause-fault : goal.returns-in_err-play_all-clause-fault
returns-in_err-play_all-clause-fault c =
    let p = err_from_is_err_and c.from_residual-in_err-play_all.result c.from_residual-in_err-play_all.ensures.1 in
    rw (p.1, p.2) c.in_err-play_all.ensures.fault
