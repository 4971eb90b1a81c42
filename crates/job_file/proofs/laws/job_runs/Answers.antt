use Rattle.std.proofs.Common.{refl}
use Rattle.job_file.proofs.JobRuns.{stays, counted, so_far, bus_so_far, made_so_far, all_records}
use Rattle.job_file.proofs.laws.job_runs.Goals as goal

pub returns-clause-starts : goal.returns-clause-starts
returns-clause-starts c job placed under_way = record { code = refl; plan = refl; actions = refl; begun = refl; under_way = under_way }

pub returns-clause-goes_on : goal.returns-clause-goes_on
returns-clause-goes_on c job placed m of under_way = stays job placed m of under_way

pub returns-clause-counts : goal.returns-clause-counts
returns-clause-counts c job placed m of = counted job placed m of

pub returns-clause-so_far : goal.returns-clause-so_far
returns-clause-so_far c job placed m sound of = so_far job placed m of c.code_means.ensures sound

pub returns-clause-bus : goal.returns-clause-bus
returns-clause-bus c job placed m sound of = bus_so_far job placed m of c.code_means.ensures sound

pub returns-clause-made : goal.returns-clause-made
returns-clause-made c job placed m sound of = made_so_far job placed m of c.code_means.ensures sound

pub returns-clause-whole : goal.returns-clause-whole
returns-clause-whole c job placed m sound of e = all_records job placed m of c.code_means.ensures sound e
