use Rattle.bench_dump.proofs.Steps.{goes_on}
use Rattle.ch11_f1.specs.Views.{message_of}
use Rattle.bench_dump.proofs.output.dump_messages.Goals as goal

pub lines-preserved : goal.lines-preserved
lines-preserved g c = goes_on _ _ _ _ _ _ _ _ _ _ _ _ _ _ _ (message_of c.in-Some.seen) c.lines.invariant c.in-Some.ensures.steps (rw (c.of_stamp-time.ensures, c.ticks.ensures) at c.in_ok-put_message.ensures) c.in_ok-hand_on.ensures.handed
