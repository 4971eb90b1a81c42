use Rattle.std.proofs.Common.{[], true≢false, length, refl, ap, subst, arith}
use Rattle.ch11_recording.specs.Recording.{IsRecordingOf}
use Rattle.bench_settings.specs.Lawful.{format_of}
use Rattle.bench_run.proofs.Beginning.{first_rises}
use Rattle.bench_run.proofs.scope.begin.Goals as goal

pub returns : goal.returns
returns g c =
    let taken = g.S.Sink.taken in
    let failures = g.S.Sink.failures in
    let before = c.args.before.now.value in
    let fresh = c.requires.fresh in
    let new = c.prologue.new.self in
    let sink_is = ap (λ w. failures w.sink) fresh in
    let none_is = ap (λ w. w.taken) fresh in
    let up = first_rises c.args.recorder.writing.failed new.writing.failed (failures c.args.recorder.writing.sink) (failures new.writing.sink) (ap (λ w. w.failed) fresh) c.prologue.ensures.failures in
    record {
      items = [];
      recording = subst (λ bytes. IsRecordingOf taken (format_of c.args.settings.now) bytes (taken before) c.args.channels.now [] new) c.deref.ensures.value
          (c.prologue.ensures.begun (format_of c.args.settings.now) (taken before) c.args.channels.now c.requires.begun);
      all = λ whole. refl;
      indices = λ whole. tt;
      unfit = λ cut. absurd (true≢false cut);
      rose = λ failed. let rose = up.0 failed in omega (arith, rose, sink_is);
      not_fewer = let low = up.1 in omega (arith, low, sink_is);
      unfinished = c.prologue.ensures.unfinished;
      few = let long = ap (λ bytes. length bytes) c.deref.ensures.value in omega (arith, c.prologue.ensures.few, none_is, long);
    }
