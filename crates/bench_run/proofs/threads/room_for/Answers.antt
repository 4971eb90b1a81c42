use Rattle.std.proofs.Common.{refl, subst}
use Rattle.bench_settings.specs.Placing.{IsOrdered}
use Rattle.bench_run.proofs.Courses.{room_is}
use Rattle.bench_run.proofs.threads.room_for.Goals as goal

pub returns : goal.returns
returns c =
    let work = c.in_ok-course.ensures in
    record {
      room = room_is c.args.job.now c.args.is_live c.args.most _ work.course refl refl work.ordered (subst IsOrdered work.ordered work.fit) work.empty work.capacity;
      inbox = refl;
      most = refl;
      live = refl;
    }
