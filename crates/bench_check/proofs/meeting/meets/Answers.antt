use Rattle.bench_check.proofs.Played.{meets_is}
use Rattle.bench_check.proofs.meeting.meets.Goals as goal

pub returns : goal.returns
returns c =
    meets_is c.args.coming.now.bus c.args.coming.now.talk c.args.faults.now c.in_ok-before.before.items c.as_slice.result.now c.args.fault.now c.run_of-run.result c.in_ok-words.words c.is_there.result
    c.run_of-run.ensures c.in_ok-before.ensures.value c.as_slice.ensures.value c.in_ok-words.ensures c.is_there.ensures
