use Rattle.bench_judge.proofs.Skipping.{skipping_all, skipping_on, skipping_start}
use Rattle.bench_judge.proofs.skips.read_skips.Goals as goal

pub stretches-init : goal.stretches-init
stretches-init g c file is = rw (c.in_ok-stretches.ensures, c.new-skips.ensures.items, is) (skipping_start file)

pub stretches-preserved : goal.stretches-preserved
stretches-preserved g c file is =
    let s = rw c.in-Ok-Some.field-0-is at c.in-Ok-Some.ensures in
    rw c.in_ok-keep_skip-in-Ok-Some.ensures (skipping_on file c.stretches.skips.items c.stretches.stretches c.next.new.self c.in-Ok-Some.stretch s (c.stretches.invariant file is))

pub returns-in-Ok-None-clause-found : goal.returns-in-Ok-None-clause-found
returns-in-Ok-None-clause-found g c file is =
    let e = rw c.in-Ok-None.field-0-is at c.in-Ok-None.ensures in
    skipping_all file c.stretches.skips.items c.stretches.stretches c.next.new.self e (c.stretches.invariant file is)
