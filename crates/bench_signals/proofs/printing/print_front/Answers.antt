use Rattle.bench_signals.proofs.Printed.{then_appends}
use Rattle.bench_signals.proofs.printing.print_front.Goals as goal

pub returns : goal.returns
returns g c =
    then_appends c.write-2.result _ _ _ _ _ (rw c.as_slice.ensures.value at c.in_ok-write_all.ensures.bytes)
    (then_appends c.write-2.result _ _ _ _ _ c.in_ok-write.ensures.bytes
    (then_appends c.write-2.result _ _ _ _ _ (rw c.as_slice-2.ensures.value at c.in_ok-write_all-2.ensures.bytes)
    c.write-2.ensures.bytes))
