use Rattle.std.proofs.Common.{refl}
use Rattle.bench_run.proofs.Courses.{taken_in}
use Rattle.bench_run.proofs.threads.join_one.Goals as goal

pub returns-clause-ended : goal.returns-clause-ended
returns-clause-ended g c = taken_in c.args.trunk.now c.args.handle.promise c.args.rest.now c.take_in.new.ticket c.join-ticket.result _ c.requires.ticket.1 c.join-ticket.ensures c.take_in.ensures.sent refl refl refl
