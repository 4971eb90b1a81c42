use Rattle.std.proofs.Common.{refl}
use Rattle.bench_clock.proofs.Streamed.{among_start, stretch_among}
use Rattle.bench_complete.proofs.Entered.{all_skips, all_sound, places_among, skipping_on, skipping_start, small_with, timed_among}
use Rattle.bench_complete.proofs.listing.list_sound.Goals as goal

pub stretches-init : goal.stretches-init
stretches-init g c = record {
  small = rw c.none-found.ensures.packets tt;
  places = rw (c.none-found.ensures.packets, c.in_ok-stretches.ensures) refl;
  known = λ file is. rw (c.in_ok-stretches.ensures, is) (among_start file);
  timed = λ file is. rw (c.none-found.ensures.timed, c.in_ok-stretches.ensures) refl;
  skipped = λ file is. rw (c.none-found.ensures.skips, c.in_ok-stretches.ensures, is) (skipping_start file);
}

pub stretches-preserved : goal.stretches-preserved
stretches-preserved g c =
    let s = rw c.in-Ok-Some.field-0-is at c.in-Ok-Some.ensures in
    let before = c.stretches.stretches in
    let now = c.next.new.self in
    let x = c.in-Ok-Some.stretch in
    let e = c.in_ok-enter-in-Ok-Some.ensures in
    let es = c.stretches.found.listed.packets.items in
    let after = c.enter.new.self in
    record {
      small = small_with es after.listed.packets.items x e.packets c.stretches.invariant.small e.small;
      places = places_among es after.listed.packets.items before now x s c.stretches.invariant.places e.packets;
      known = λ file is. stretch_among file before now x s (c.stretches.invariant.known file is);
      timed = λ file is.
          timed_among file c.stretches.found.listed.timed after.listed.timed c.bytes.result.now before now x s (c.stretches.invariant.known file is) c.bytes.ensures (c.stretches.invariant.timed file is) e.timed;
      skipped = λ file is. skipping_on file c.stretches.found.skips.items after.skips.items before now x s (c.stretches.invariant.skipped file is) e.skips;
    }

pub returns-in-Ok-None-clause-listed : goal.returns-in-Ok-None-clause-listed
returns-in-Ok-None-clause-listed g c file is =
    let e = rw c.in-Ok-None.field-0-is at c.in-Ok-None.ensures in
    all_sound file c.stretches.found.skips.items c.stretches.found.listed c.stretches.stretches c.next.new.self e (c.stretches.invariant.skipped file is) c.stretches.invariant.places (c.stretches.invariant.timed file is)

pub returns-in-Ok-None-clause-skipped : goal.returns-in-Ok-None-clause-skipped
returns-in-Ok-None-clause-skipped g c file is =
    let e = rw c.in-Ok-None.field-0-is at c.in-Ok-None.ensures in
    all_skips file c.stretches.found.skips.items c.stretches.stretches c.next.new.self e (c.stretches.invariant.skipped file is)
