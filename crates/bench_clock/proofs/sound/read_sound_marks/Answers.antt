use Rattle.bench_clock.proofs.Streamed.{all_sound_seen, all_sound_told, among_start, nothing_seen, nothing_told, stretch_among, stretch_rises, stretch_seen, stretch_told, up_to_none, up_to_rises}
use Rattle.bench_clock.proofs.sound.read_sound_marks.Goals as goal

pub stretches-init : goal.stretches-init
stretches-init g c = record {
  rises = rw c.new-marks.ensures.items up_to_none;
  known = λ file is. rw (c.in_ok-stretches.ensures, is) (among_start file);
  seen = rw c.in_ok-stretches.ensures (nothing_seen c.args.named);
  told = λ file is. rw (c.in_ok-stretches.ensures, c.new-marks.ensures.items) (nothing_told c.args.named file);
}

pub stretches-preserved : goal.stretches-preserved
stretches-preserved g c =
    let s = rw c.in-Ok-Some.field-0-is at c.in-Ok-Some.ensures in
    let before = c.stretches.stretches in
    let now = c.next.new.self in
    let ms = c.stretches.found.marks.items in
    record {
      rises = rw (c.in_ok-last-in-Ok-Some.ensures.marks, c.in_ok-last-in-Ok-Some.ensures.last) (stretch_rises c.args.named ms c.stretches.last c.in-Ok-Some.stretch now.kept c.stretches.invariant.rises);
      known = λ file is. stretch_among file before now c.in-Ok-Some.stretch s (c.stretches.invariant.known file is);
      seen = rw c.in_ok-last-in-Ok-Some.ensures.any (stretch_seen c.args.named c.stretches.found.any before now c.in-Ok-Some.stretch s c.stretches.invariant.seen);
      told = λ file is.
          rw (c.in_ok-last-in-Ok-Some.ensures.marks, c.in_ok-last-in-Ok-Some.ensures.last) (stretch_told c.args.named file ms c.stretches.last before now c.in-Ok-Some.stretch s (c.stretches.invariant.known file is) (c.stretches.invariant.told file is));
    }

pub returns-in-Ok-None-clause-rising : goal.returns-in-Ok-None-clause-rising
returns-in-Ok-None-clause-rising g c = up_to_rises c.stretches.found.marks.items c.stretches.last c.stretches.invariant.rises

pub returns-in-Ok-None-clause-found : goal.returns-in-Ok-None-clause-found
returns-in-Ok-None-clause-found g c file is =
    let e = rw c.in-Ok-None.field-0-is at c.in-Ok-None.ensures in
    all_sound_told c.args.named file c.stretches.found.marks.items c.stretches.last c.stretches.stretches c.next.new.self e (c.stretches.invariant.known file is) (c.stretches.invariant.told file is)

pub returns-in-Ok-None-clause-any : goal.returns-in-Ok-None-clause-any
returns-in-Ok-None-clause-any g c file is =
    let e = rw c.in-Ok-None.field-0-is at c.in-Ok-None.ensures in
    all_sound_seen c.args.named file c.stretches.found.any c.stretches.stretches c.next.new.self e (c.stretches.invariant.known file is) c.stretches.invariant.seen
