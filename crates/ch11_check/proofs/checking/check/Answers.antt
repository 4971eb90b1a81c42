use Rattle.ch11_stream.proofs.Folding.{all_found, not_found}
use Rattle.ch11_stream.proofs.Readings.{amid_on, amid_start}
use Rattle.ch11_check.proofs.checking.check.Goals as goal

pub packets-init : goal.packets-init
packets-init g c = λ file is. rw (c.in_ok-packets.ensures, is) (amid_start file)

pub packets-preserved : goal.packets-preserved
packets-preserved g c = λ file is.
    let s = rw c.in-Ok-Some.field-0-is at c.in-Ok-Some.ensures in
    amid_on file c.packets.packets c.next.new.self _ s (c.packets.invariant file is)

pub returns-in-Ok-None : goal.returns-in-Ok-None
returns-in-Ok-None g c file is =
    let e = rw c.in-Ok-None.field-0-is at c.in-Ok-None.ensures in
    let all = all_found file c.packets.packets c.next.new.self e (c.packets.invariant file is) in
    (all.0, tt)

pub returns-in-Err : goal.returns-in-Err
returns-in-Err g c file is = not_found file c.packets.packets c.next.new.self c.in-Err.fault c.in-Err.ensures (c.packets.invariant file is)
