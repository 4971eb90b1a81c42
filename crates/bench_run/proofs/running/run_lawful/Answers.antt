use Rattle.std.proofs.Common.{ℕ, [], List, sym, ap, ◌∙◌, subst}
use Rattle.ch11_recording.specs.WrittenFile.{written_file}
use Rattle.bench_settings.specs.Lawful.{format_of}
use Rattle.bench_run.specs.declared.error.RunError.{RunError}
use Rattle.bench_mail.specs.declared.mailbox.Inbox.{Inbox}
use Rattle.bench_run.specs.Live.{AreInboxesOf, LeavesLate}
use Rattle.bench_run.specs.Ending.{IsReady}
use Rattle.bench_run.proofs.Beginning.{nothing_taken, log_moved}
use Rattle.bench_run.proofs.Lives.{no_inboxes}
use Rattle.bench_run.proofs.running.run_lawful.Goals as goal

pub returns-in_default : goal.returns-in_default
returns-in_default g c =
    let taken = g.S.Sink.taken in
    let jobs = c.args.jobs.now in
    let s = c.args.settings.now in
    let e = c.of_memory.ensures in
    record {
      ran = tt;
      ends = tt;
      room = tt;
      refused =
          subst (λ (z : RunError _ × List Inbox). LeavesLate c.args.mail.is_live taken g.S.Sink.failures c.args.mail.most jobs s c.args.mail.inboxes.items c.args.sink z.0 z.1) (λ i. (sym e.fault i, sym e.inboxes i))
          (record { none = λ i. []; memory = record { lawful = c.requires.lawful; items = []; count = 0; part = nothing_taken (taken c.args.sink) (written_file (format_of s) s.prologue.items []) } });
      back = no_inboxes c.args.mail.boxes.now _ e.inboxes;
    }

pub run_ready-requires-clause-begins : goal.run_ready-requires-clause-begins
run_ready-requires-clause-begins g c κs within =
    let ends = subst (AreInboxesOf c.args.mail.boxes.now) (ap (λ v. v.items) (sym c.of.ensures)) c.requires.ends in
    record {
      lawful = c.requires.lawful;
      mailboxes = c.requires.boxes;
      ends = ends;
      ready = subst (λ (z : List Inbox × List ℕ). IsReady c.args.settings.now.queue c.args.mail.is_live c.args.jobs.now c.args.mail.most z.0 c.in-Ok.shared.trunk z.1 c.in-Ok.own) (λ i. ((sym c.of.ensures i).items, sym c.deref-in-Ok-make-2.ensures.value i)) c.in-Ok.ensures;
      logged = log_moved g.S.Sink.taken g.S.Sink.failures (format_of c.args.settings.now) c.args.settings.now.prologue.items _ _ _ _ _ (c.deref-in-Ok-make.ensures.value ∙ c.in-Ok.ensures.channels_are) c.begin-log.ensures;
    }

pub returns : goal.returns
returns g c =
    let taken = g.S.Sink.taken in
    let jobs = c.args.jobs.now in
    let s = c.args.settings.now in
    let e = c.of_memory-in-Err.ensures in
    record {
      ran = tt;
      ends = tt;
      room = tt;
      refused =
          subst (λ (z : RunError _ × List Inbox). LeavesLate c.args.mail.is_live taken g.S.Sink.failures c.args.mail.most jobs s c.args.mail.inboxes.items c.args.sink z.0 z.1) (λ i. (sym e.fault i, sym e.inboxes i))
          (record { none = λ i. []; memory = record { lawful = c.requires.lawful; items = []; count = 0; part = rw c.in-Err.ensures.back (nothing_taken (taken c.args.sink) (written_file (format_of s) s.prologue.items [])) } });
      back = no_inboxes c.args.mail.boxes.now _ e.inboxes;
    }
