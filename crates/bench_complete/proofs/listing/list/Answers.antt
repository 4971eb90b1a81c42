use Rattle.std.proofs.Common.{refl}
use Rattle.ch11_stream.proofs.Folding.{not_found}
use Rattle.ch11_stream.proofs.Readings.{amid_on, amid_start}
use Rattle.bench_complete.specs.Listing.{placed}
use Rattle.bench_complete.proofs.Entered.{all_listed, places_on, small_on, timed_amid}
use Rattle.bench_complete.proofs.listing.list.Goals as goal

pub packets-init : goal.packets-init
packets-init g c = record {
  small = rw c.none-listed.ensures.packets tt;
  places = rw (c.none-listed.ensures.packets, c.in_ok-packets.ensures) refl;
  known = λ file is. rw (c.in_ok-packets.ensures, is) (amid_start file);
  timed = λ file is. rw (c.none-listed.ensures.timed, c.in_ok-packets.ensures) refl;
}

pub packets-preserved : goal.packets-preserved
packets-preserved g c =
    let s = rw c.in-Ok-Some.field-0-is at c.in-Ok-Some.ensures in
    let before = c.packets.packets in
    let now = c.next.new.self in
    let p = c.in-Ok-Some.packet in
    let e = c.in_ok-enter-in-Ok-Some.ensures in
    let es = c.packets.listed.packets.items in
    let after = c.enter.new.self in
    record {
      small = small_on es after.packets.items (placed p) e.packets c.packets.invariant.small e.small;
      places = places_on es after.packets.items before now p s c.packets.invariant.places e.packets;
      known = λ file is. amid_on file before now p s (c.packets.invariant.known file is);
      timed = λ file is. timed_amid file c.packets.listed.timed after.timed c.bytes.result.now before now p s (c.packets.invariant.known file is) c.bytes.ensures (c.packets.invariant.timed file is) e.timed;
    }

pub returns-in-Ok-None-clause-small : goal.returns-in-Ok-None-clause-small
returns-in-Ok-None-clause-small g c = c.packets.invariant.small

pub returns-in-Ok-None-clause-listed : goal.returns-in-Ok-None-clause-listed
returns-in-Ok-None-clause-listed g c file is =
    let e = rw c.in-Ok-None.field-0-is at c.in-Ok-None.ensures in
    all_listed file c.packets.listed c.packets.packets c.next.new.self e (c.packets.invariant.known file is) c.packets.invariant.places (c.packets.invariant.timed file is)

pub returns-in-Err-clause-listed : goal.returns-in-Err-clause-listed
returns-in-Err-clause-listed g c file is = not_found file c.packets.packets c.next.new.self c.in-Err.fault c.in-Err.ensures (c.packets.invariant.known file is)
