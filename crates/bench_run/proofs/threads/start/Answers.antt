use denote.Param.Send.{param_send, arg_send}
use Rattle.bench_run.proofs.Taken.{taken_send}
use Rattle.bench_run.proofs.threads.start.Goals as goal

pub spawn_with-started-requires-send-F : goal.spawn_with-started-requires-send-F
spawn_with-started-requires-send-F g c κs within = search (taken_send, c.type_bounds.sync-R, c.type_bounds.sync-G, param_send, arg_send) depth 10
