use Rattle.std.proofs.Common.{◌∙◌, arith, map, subst}
use Rattle.std.proofs.lemmas.List.{length-map}
use Rattle.job_file.specs.Rooms.{most_items}
use Rattle.bench_run.proofs.Limits.{AreLow, low_posts, each_low, sum_low}
use Rattle.bench_run.proofs.ready.ready.Goals as goal

pub make-requires-clause-low : goal.make-requires-clause-low
make-requires-clause-low c =
    rw c.deref.ensures.value (each_low c.in_ok-bounds.bounds.items (low_posts c.args.most c.in_ok-bounds.bounds.items c.requires.most c.in_ok-bounds.ensures.low))

pub returns-in-Ok : goal.returns-in-Ok
returns-in-Ok c =
    let made = c.in-Ok.ensures in
    let jobs = c.args.jobs.now in
    let bounds = c.in_ok-bounds.ensures in
    let low : AreLow (map (most_items c.args.most) jobs) = subst AreLow bounds.bounds (low_posts c.args.most c.in_ok-bounds.bounds.items c.requires.most bounds.low) in
    let top = sum_low (map (most_items c.args.most) jobs) low in
    record {
      ticket = made.ends.0;
      taker = made.ends.1;
      capacity_is = made.capacity;
      unsent = made.sent;
      unreceived = made.received;
      tags = made.tags;
      bounds = made.bounds ∙ c.deref.ensures.value ∙ bounds.bounds;
      taker_bounds = made.bounds_in ∙ c.deref.ensures.value ∙ bounds.bounds;
      few = omega (arith, top, length-map jobs (most_items c.args.most), c.requires.few);
      rooms = c.in_ok-rooms.ensures.rooms;
      inboxes_are = c.in_ok-rooms.ensures.inboxes;
      most_are = c.in_ok-rooms.ensures.most;
      are_live = c.in_ok-rooms.ensures.live;
      channels_are = c.in_ok-channels.ensures;
    }
