use Rattle.std.proofs.Common.{inl, refl}
use Rattle.ch11_reader.specs.Recording.{packets_in}
use Rattle.bench_complete.proofs.Refused.{completes, fails_if}
use Rattle.bench_complete.proofs.completion.complete.Goals as goal

pub returns-in-Err-clause-failed : goal.returns-in-Err-clause-failed
returns-in-Err-clause-failed g c = inl (c.in-Err.ensures c.args.file.now refl refl)

pub returns-in-Ok-clause-completed : goal.returns-in-Ok-clause-completed
returns-in-Ok-clause-completed g c =
    completes c.args.file.now (packets_in c.args.file.now) c.args.additions.now c.in-Ok.completion (c.in-Ok.ensures c.args.file.now refl refl) _ _ c.write.result c.write.ensures.written

pub returns-in-Ok-clause-failed : goal.returns-in-Ok-clause-failed
returns-in-Ok-clause-failed g c = fails_if c.args.file.now (packets_in c.args.file.now) c.args.additions.now c.in-Ok.completion (c.in-Ok.ensures c.args.file.now refl refl) c.write.result c.write.ensures.stopped
