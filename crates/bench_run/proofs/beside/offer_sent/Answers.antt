use Rattle.std.proofs.Common.{◌≡◌, ◌<◌, ◌+◌, ◌-◌, ◌^◌, length, ap, subst, arith}
use Rattle.std.specs.Prelude.{Some, slice_get}
use Rattle.std.specs.List.{AllByRecursion}
use Rattle.ch11_f1.specs.declared.Record.{Record}
use Rattle.mil_trunk.specs.Ends.{tags_of, bounds_of}
use Rattle.bench_run.specs.Beside.{records_told}
use Rattle.bench_run.specs.Runs.{records_of}
use Rattle.bench_run.specs.Threads.{RecordsOfferedSoFar}
use Rattle.bench_run.proofs.Turning.{told_one, told_none}
use Rattle.bench_run.proofs.beside.offer_sent.Goals as goal

pub record_fits-requires : goal.record_fits-requires
record_fits-requires g c = (subst (AllByRecursion (λ (r : Record). r.stamp < 2 ^ 48)) (told_one c.args.answer c.in-Sent.record c.in-Sent.is) c.requires.small).0

pub offer_message-requires-clause-so_far : goal.offer_message-requires-clause-so_far
offer_message-requires-clause-so_far g c κs within =
    let before : c.args.made ≡ c.args.made + 1 - 1 = omega arith in (
      c.requires.so_far.0,
      subst (λ k. RecordsOfferedSoFar c.args.context.now.trunk.now (tags_of c.args.ticket.now) (bounds_of c.args.ticket.now) c.args.way.now.index c.requires.so_far.0 k c.args.ticket.now c.args.refused.now.items) before c.requires.so_far.1,
    )

pub offer_message-requires-clause-bound : goal.offer_message-requires-clause-bound
offer_message-requires-clause-bound g c κs within =
    let one = ap length (told_one c.args.answer c.in-Sent.record c.in-Sent.is) in
    omega (arith, one, c.requires.bound)

pub offer_message-requires-clause-recorded : goal.offer_message-requires-clause-recorded
offer_message-requires-clause-recorded g c κs within = c.record_fits.ensures 0

pub offer_message-requires-clause-room : goal.offer_message-requires-clause-room
offer_message-requires-clause-room g c κs within =
    let one = ap length (told_one c.args.answer c.in-Sent.record c.in-Sent.is) in
    omega (arith, one, c.requires.room)

pub returns-in-Sent-clause-so_far : goal.returns-in-Sent-clause-so_far
returns-in-Sent-clause-so_far g c live st next =
    let told = told_one c.args.answer c.in-Sent.record c.in-Sent.is in
    let before : c.args.made ≡ c.args.made + 1 - 1 = omega arith in
    let now : c.args.made + 1 ≡ c.args.made + length (records_told c.args.answer) = omega (arith, ap length told) in
    let was = subst (λ k. RecordsOfferedSoFar c.args.context.now.trunk.now (tags_of c.args.ticket.now) (bounds_of c.args.ticket.now) c.args.way.now.index live k c.args.ticket.now c.args.refused.now.items) before st in
    let at = subst (λ k. slice_get (records_of live) k ≡ Some c.in-Sent.record) before (next c.in-Sent.record told) in
    subst (λ k. RecordsOfferedSoFar c.args.context.now.trunk.now (tags_of c.args.ticket.now) (bounds_of c.args.ticket.now) c.args.way.now.index live k c.offer_message.new.ticket c.offer_message.new.refused.items) now
    (c.offer_message.ensures.so_far live was at)

pub returns-in-Ran-clause-so_far : goal.returns-in-Ran-clause-so_far
returns-in-Ran-clause-so_far g c live st next =
    let now : c.args.made ≡ c.args.made + length (records_told c.args.answer) = omega (arith, ap length (told_none c.args.answer c.in-Ran.is)) in
    subst (λ k. RecordsOfferedSoFar c.args.context.now.trunk.now (tags_of c.args.ticket.now) (bounds_of c.args.ticket.now) c.args.way.now.index live k c.args.ticket.now c.args.refused.now.items) now st
