use Rattle.std.proofs.Common.{[], subst}
use Rattle.bench_settings.specs.declared.error.WorldError.TheVariants as fault
use Rattle.bench_settings.specs.Lawful.{format_of, RefusesJobs}
use Rattle.ch11_recording.specs.WrittenFile.{written_file}
use Rattle.bench_run.proofs.Beginning.{nothing_taken}
use Rattle.bench_run.proofs.Refusing.{ran_alone, left_alone}
use Rattle.bench_run.proofs.running.run.Goals as goal

pub returns-in-Err-Memory-clause-refused : goal.returns-in-Err-Memory-clause-refused
returns-in-Err-Memory-clause-refused g c =
    let fits : RefusesJobs c.args.jobs.now c.args.settings.now fault.Memory =
    subst (RefusesJobs c.args.jobs.now c.args.settings.now) c.in-Err-Memory.field-0-is c.in-Err-Memory.ensures.refused in
    record { lawful = fits; items = []; count = 0; part = nothing_taken (g.S.Sink.taken c.args.sink) (written_file (format_of c.args.settings.now) c.args.settings.now.prologue.items []) }

pub returns-in_default-clause-refused : goal.returns-in_default-clause-refused
returns-in_default-clause-refused g c = record {
  lawful = c.in-Ok.ensures.lawful;
  items = [];
  count = 0;
  part = nothing_taken (g.S.Sink.taken c.args.sink) (written_file (format_of c.args.settings.now) c.args.settings.now.prologue.items []);
}

pub returns-in-Ok-run_lawful-clause-ran : goal.returns-in-Ok-run_lawful-clause-ran
returns-in-Ok-run_lawful-clause-ran g c =
    ran_alone g.S.Sink.taken c.args.jobs.now c.args.settings.now c.in-Ok-no_posts.inboxes.items c.args.sink c.in-Ok-run_lawful.report c.in-Ok-run_lawful.field-0-1.items c.in-Ok-run_lawful.sink c.in-Ok-run_lawful.ensures.ran

pub returns-clause-refused : goal.returns-clause-refused
returns-clause-refused g c =
    left_alone g.S.Sink.taken g.S.Sink.failures c.args.jobs.now c.args.settings.now c.in-Ok-no_posts.inboxes.items c.args.sink c.in-Err.field-0.fault c.in-Err.field-0.inboxes.items c.in-Err.ensures.refused
