use Rattle.std.proofs.Common.{Bool, List, subst}
use Rattle.std.specs.Io.KnownBytes.{Appends}
use Rattle.ch11_reader.specs.Listing.{listing}
use Rattle.ch11_reader.specs.Skipping.{packets_read, skips_in}
use Rattle.bench_clock.specs.Clock.{marks_in}
use Rattle.bench_clock.specs.declared.clock.Mark.{Mark}
use Rattle.bench_dump.specs.TimedText.{timed_text}
use Rattle.bench_dump.proofs.InTurn.{all_printed, nothing_printed, plain_skipping, stretch_few, stretch_printed}
use Rattle.bench_dump.proofs.skipping.dump_skipping.Goals as goal

pub stretches-init : goal.stretches-init
stretches-init g c file is = rw (c.in_ok-stretches.ensures, is) (nothing_printed c.args.clock.now c.args.timed file (g.W.Write.contents c.args.out.now) c.new-text.result c.new-text.ensures)

pub dump_stretch-requires : goal.dump_stretch-requires
dump_stretch-requires g c = stretch_few c.stretches.stretches c.next.new.self c.in-Ok-Some.stretch (rw c.in-Ok-Some.field-0-is at c.in-Ok-Some.ensures)

pub stretches-preserved : goal.stretches-preserved
stretches-preserved g c file is =
    stretch_printed c.args.clock.now c.args.timed file (g.W.Write.contents c.args.out.now) (g.W.Write.contents c.stretches.out) (g.W.Write.contents c.dump_stretch.new.out) c.stretches.text c.dump_stretch.new.text c.stretches.stretches c.next.new.self c.in-Ok-Some.stretch
    (rw c.in-Ok-Some.field-0-is at c.in-Ok-Some.ensures) (c.stretches.invariant file is) c.in_ok-dump_stretch-in-Ok-Some.ensures.printed

pub returns-in-Ok-None-clause-printed : goal.returns-in-Ok-None-clause-printed
returns-in-Ok-None-clause-printed g c file is =
    let e = rw c.in-Ok-None.field-0-is at c.in-Ok-None.ensures in
    all_printed c.args.clock.now c.args.timed file (g.W.Write.contents c.args.out.now) (g.W.Write.contents c.stretches.out) (g.W.Write.contents c.finish.new.out) c.stretches.text c.stretches.stretches c.next.new.self e (c.stretches.invariant file is)
    c.in_ok-finish-in-Ok-None.ensures.printed

pub returns-in-Ok-None-clause-plain : goal.returns-in-Ok-None-clause-plain
returns-in-Ok-None-clause-plain g c none asked file is = plain_skipping c.args.clock.now c.args.timed file _ _ none asked (returns-in-Ok-None-clause-printed g c file is)

pub returns-in-Ok-None-clause-timed : goal.returns-in-Ok-None-clause-timed
returns-in-Ok-None-clause-timed g c file is same asked =
    let by_clock =
    subst (λ (clock : List Mark). Appends (g.W.Write.contents c.args.out.now) (g.W.Write.contents c.finish.new.out) (timed_text clock c.args.timed (skips_in file) (packets_read file))) same (returns-in-Ok-None-clause-printed g c file is) in
    subst (λ (timed : Bool). Appends (g.W.Write.contents c.args.out.now) (g.W.Write.contents c.finish.new.out) (timed_text (marks_in file (listing (packets_read file))) timed (skips_in file) (packets_read file))) asked by_clock
