use Rattle.std.proofs.Common.{refl, arith}
use Rattle.job_moments.specs.declared.waiting.Pending.{Pending}
use Rattle.job_moments.specs.Awaiting.{due_of, KnowsGroup}
use Rattle.job_moments.specs.Groups.{lines_inside}
use Rattle.job_moments.specs.Quiet.{Sleeps}
use Rattle.job_moments.proofs.Grouping.{beside_set}
use Rattle.job_moments.proofs.Lists.{set_all}
use Rattle.job_moments.proofs.Taking.{picks_beside}
use Rattle.job_moments.proofs.waiting.take_at.Goals as goal

pub take_awake-requires-clause-known : goal.take_awake-requires-clause-known
take_awake-requires-clause-known g c = c.requires.known c.args.place c.index-groups-place.result c.requires.there

pub returns-clause-taken : goal.returns-clause-taken
returns-clause-taken g c = picks_beside lines_inside c.args.counts.now.made c.args.next.now c.args.place c.args.groups.now c.index-groups-place.result
    c.take_awake.new.group c.take_awake.result c.requires.there c.requires.still c.take_awake.ensures.taken

pub returns-clause-known : goal.returns-clause-known
returns-clause-known g c = set_all (KnowsGroup c.args.counts.now) c.args.groups.now c.args.groups.now c.args.place c.take_awake.new.group refl
    c.requires.there (λ k d lt. c.requires.known k d (omega (arith, lt, c.requires.there))) c.take_awake.ensures.known (λ k d le. refl) c.requires.known

pub returns-clause-beside : goal.returns-clause-beside
returns-clause-beside g c quiet sleep =
    beside_set (λ (l : Pending g.row.T.Denot). Sleeps quiet c.args.counts.now.made (due_of l)) c.args.place c.args.groups.now c.take_awake.new.group sleep
