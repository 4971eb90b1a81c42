use Rattle.std.proofs.Common.{Option, ap, ◌∙◌}
use Rattle.ch11_stream.proofs.Folding.{not_found}
use Rattle.ch11_stream.proofs.Readings.{amid_on, amid_start}
use Rattle.bench_clock.specs.Clock.{told_in}
use Rattle.bench_clock.specs.declared.told.PacketTime.{PacketTime}
use Rattle.bench_clock.proofs.Streamed.{all_seen, all_told, nothing_seen, nothing_told, one_seen, one_told, told_same, up_to_next, up_to_none, up_to_rises}
use Rattle.bench_clock.proofs.Rises.{told_in_within}
use Rattle.bench_clock.proofs.streaming.read_marks.Goals as goal

pub packets-init : goal.packets-init
packets-init g c = record {
  rises = rw c.new-marks.ensures.items up_to_none;
  known = λ file is. rw (c.in_ok-packets.ensures, is) (amid_start file);
  seen = rw c.in_ok-packets.ensures (nothing_seen c.args.named);
  told = λ file is. rw (c.in_ok-packets.ensures, c.new-marks.ensures.items) (nothing_told c.args.named file);
}

pub packets-preserved : goal.packets-preserved
packets-preserved g c =
    let s = rw c.in-Ok-Some.field-0-is at c.in-Ok-Some.ensures in
    let before = c.packets.packets in
    let now = c.next.new.self in
    let p = c.in-Ok-Some.packet in
    let counter = p.header.counter in
    let told : Option PacketTime = told_in c.args.named p.header c.bytes.result.now in
    record {
      rises = rw (c.in_ok-last-in-Ok-Some.ensures.marks, c.in_ok-last-in-Ok-Some.ensures.last)
          (up_to_next c.packets.found.marks.items c.packets.last counter told (λ t is. told_in_within c.args.named p.header _ t is) c.packets.invariant.rises);
      known = λ file is. amid_on file before now p s (c.packets.invariant.known file is);
      seen = rw c.in_ok-last-in-Ok-Some.ensures.any (one_seen c.args.named c.packets.found.any before now p s c.packets.invariant.seen);
      told = λ file is.
          let same = ap (told_in c.args.named p.header) c.bytes.ensures ∙ told_same c.args.named file before now p s (c.packets.invariant.known file is) in
          rw (c.in_ok-last-in-Ok-Some.ensures.marks, c.in_ok-last-in-Ok-Some.ensures.last) (one_told c.args.named file c.packets.found.marks.items c.packets.last told before now p s same (c.packets.invariant.told file is));
    }

pub returns-in-Ok-None-clause-rising : goal.returns-in-Ok-None-clause-rising
returns-in-Ok-None-clause-rising g c = up_to_rises c.packets.found.marks.items c.packets.last c.packets.invariant.rises

pub returns-in-Ok-None-clause-found : goal.returns-in-Ok-None-clause-found
returns-in-Ok-None-clause-found g c file is =
    let e = rw c.in-Ok-None.field-0-is at c.in-Ok-None.ensures in
    all_told c.args.named file c.packets.found.marks.items c.packets.last c.packets.packets c.next.new.self e (c.packets.invariant.known file is) (c.packets.invariant.told file is)

pub returns-in-Ok-None-clause-any : goal.returns-in-Ok-None-clause-any
returns-in-Ok-None-clause-any g c file is =
    let e = rw c.in-Ok-None.field-0-is at c.in-Ok-None.ensures in
    all_seen c.args.named file c.packets.found.any c.packets.packets c.next.new.self e (c.packets.invariant.known file is) c.packets.invariant.seen

pub returns-in-Err-clause-any : goal.returns-in-Err-clause-any
returns-in-Err-clause-any g c file is = not_found file c.packets.packets c.next.new.self c.in-Err.fault c.in-Err.ensures (c.packets.invariant.known file is)

pub returns-in-Err-clause-found : goal.returns-in-Err-clause-found
returns-in-Err-clause-found g c file is = not_found file c.packets.packets c.next.new.self c.in-Err.fault c.in-Err.ensures (c.packets.invariant.known file is)
