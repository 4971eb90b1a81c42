use Rattle.std.proofs.Common.{◌≡◌, List, ◌<◌, refl, sym, ap, ◌∙◌, subst, arith, false}
use Rattle.mil_trunk.specs.Ends.{received}
use Rattle.bench_report.specs.Reports.{ChannelPart, RunReport}
use Rattle.bench_settings.specs.Lawful.{channels_of, format_of}
use Rattle.bench_run.specs.Runs.{Ran, IsCut}
use Rattle.bench_run.specs.Writer.{IsLogged}
use Rattle.bench_run.specs.Live.{AreRunAs}
use Rattle.bench_run.proofs.Endings.{none_refused}
use Rattle.bench_run.proofs.Concluding.{of_all, count_fits, ran, cut, rose}
use Rattle.bench_run.proofs.Lives.{lives_channels, lives_lawful, lives_given}
use Rattle.bench_run.proofs.ending.conclude.Goals as goal

pub make-report-requires : goal.make-report-requires
make-report-requires g c =
    let taken = g.S.Sink.taken in
    let failures = g.S.Sink.failures in
    let jobs = c.args.before.now.jobs.now in
    let s = c.args.before.now.settings.now in
    let most = c.args.before.now.most in
    let is_live = c.args.before.now.is_live in
    let olds = c.args.before.now.inboxes.value.items in
    let news = c.args.inboxes.items in
    let before = c.args.before.now.sink.value in
    let parts = c.args.parts.items in
    let got = received c.args.taker in
    let old = c.args.log.recorder in
    let whole = c.args.log.whole in
    let r = c.finish-ended.new.self in
    let lives = c.requires.all.lives in
    let live = c.requires.all.live in
    let all = c.requires.all.all in
    let lawful = lives_lawful is_live most jobs olds news parts lives live s c.requires.lawful in
    let logged = subst (λ cs. IsLogged taken failures (format_of s) s.prologue.items before cs got old whole) (sym (lives_channels is_live most jobs olds news parts lives live)) c.requires.logged in
    let of = of_all taken failures most jobs lives s before parts got old whole lawful c.version_fits.ensures all logged r
    (c.finish-ended.ensures.same (format_of s) s.prologue.items (taken before) (channels_of lives) logged.items logged.recording) in
    let fits = count_fits taken failures most jobs lives s before parts got old whole lawful c.version_fits.ensures all logged r of in
    omega (arith, fits, c.packets.ensures)

pub returns-in-Ok : goal.returns-in-Ok
returns-in-Ok g c =
    let taken = g.S.Sink.taken in
    let failures = g.S.Sink.failures in
    let jobs = c.args.before.now.jobs.now in
    let s = c.args.before.now.settings.now in
    let most = c.args.before.now.most in
    let is_live = c.args.before.now.is_live in
    let olds = c.args.before.now.inboxes.value.items in
    let news = c.args.inboxes.items in
    let before = c.args.before.now.sink.value in
    let parts = c.args.parts.items in
    let got = received c.args.taker in
    let old = c.args.log.recorder in
    let whole = c.args.log.whole in
    let r = c.finish-ended.new.self in
    let lives = c.requires.all.lives in
    let live = c.requires.all.live in
    let all = c.requires.all.all in
    let lawful = lives_lawful is_live most jobs olds news parts lives live s c.requires.lawful in
    let logged = subst (λ cs. IsLogged taken failures (format_of s) s.prologue.items before cs got old whole) (sym (lives_channels is_live most jobs olds news parts lives live)) c.requires.logged in
    let of = of_all taken failures most jobs lives s before parts got old whole lawful c.version_fits.ensures all logged r
    (c.finish-ended.ensures.same (format_of s) s.prologue.items (taken before) (channels_of lives) logged.items logged.recording) in
    let done = ran taken failures most jobs lives s before parts got old whole lawful c.version_fits.ensures all logged
    c.recording_is_read_again.ensures.read c.recording_is_read_again.ensures.kept c.recording_is_read_again.ensures.ended c.file_is_packets.ensures.file c.file_is_packets.ensures.whole r of (c.in-Ok.ensures.ok.0 refl) in
    let report : c.make-report.result ≡ record { channels = parts; packets = r.packets } = c.make-report.ensures ∙ ap (λ n. record { channels = parts; packets = n }) c.packets.ensures in
    record {
      ran = record {
        lives = lives;
        live = subst (λ (ps : List ChannelPart). AreRunAs is_live most jobs olds news ps lives) (ap (λ (z : RunReport). z.channels) (sym report)) live;
        ran = subst (λ (z : RunReport × _). Ran taken most jobs lives s before z.0 z.1) (λ i. (sym report i, sym c.into_sink-sink.ensures i)) done;
      };
      ends = c.requires.ends;
      room = λ room.
          rw c.make-report.ensures (none_refused s.queue most jobs lives parts c.requires.lawful.distinct (lives_given is_live most jobs olds news parts lives live) all.counted room);
      refused = tt;
      back = tt;
    }

pub returns : goal.returns
returns g c =
    let taken = g.S.Sink.taken in
    let failures = g.S.Sink.failures in
    let jobs = c.args.before.now.jobs.now in
    let s = c.args.before.now.settings.now in
    let most = c.args.before.now.most in
    let is_live = c.args.before.now.is_live in
    let olds = c.args.before.now.inboxes.value.items in
    let news = c.args.inboxes.items in
    let before = c.args.before.now.sink.value in
    let parts = c.args.parts.items in
    let got = received c.args.taker in
    let old = c.args.log.recorder in
    let whole = c.args.log.whole in
    let r = c.finish-ended.new.self in
    let lives = c.requires.all.lives in
    let live = c.requires.all.live in
    let all = c.requires.all.all in
    let lawful = lives_lawful is_live most jobs olds news parts lives live s c.requires.lawful in
    let logged = subst (λ cs. IsLogged taken failures (format_of s) s.prologue.items before cs got old whole) (sym (lives_channels is_live most jobs olds news parts lives live)) c.requires.logged in
    let of = of_all taken failures most jobs lives s before parts got old whole lawful c.version_fits.ensures all logged r
    (c.finish-ended.ensures.same (format_of s) s.prologue.items (taken before) (channels_of lives) logged.items logged.recording) in
    let part = cut taken failures most jobs lives s before parts got old whole lawful c.version_fits.ensures all logged r c.in-Err.fault.taken of c.in-Err.ensures.fault in
    let up = rose taken failures most jobs lives s before parts got old whole lawful c.version_fits.ensures all logged false (failures old.writing.sink) (failures r.writing.sink) c.in-Err.ensures.failures refl refl in
    let report : c.make-report.result ≡ record { channels = parts; packets = r.packets } = c.make-report.ensures ∙ ap (λ n. record { channels = parts; packets = n }) c.packets.ensures in
    record {
      ran = tt;
      ends = tt;
      room = tt;
      refused = record {
        lawful = c.requires.lawful;
        failed = subst (λ x. failures before < failures x) (sym c.into_sink-sink.ensures) up;
        lives = lives;
        live = subst (λ (ps : List ChannelPart). AreRunAs is_live most jobs olds news ps lives) (ap (λ (z : RunReport). z.channels) (sym report)) live;
        cut = subst (λ (z : RunReport × _). IsCut taken most jobs lives s before z.0 c.in-Err.fault.taken z.1) (λ i. (sym report i, sym c.into_sink-sink.ensures i)) part;
      };
      back = c.requires.ends;
    }
