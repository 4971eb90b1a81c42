use Rattle.ch11_f1.specs.Views.{message_of}
use Rattle.bench_export.proofs.Written.{goes_on}
use Rattle.bench_export.proofs.messages.write_messages.Goals as goal

pub rows-preserved : goal.rows-preserved
rows-preserved g c = record {
  going = goes_on c.args.table.now c.args.clock.now c.of-kind.result _ _ _ c.args.packet.now.before c.rows.number c.args.packet.now.header.channel c.args.messages c.rows.rest c.next.new.self (message_of c.in-Some.seen) c.rows.invariant.going c.in-Some.ensures.steps (rw c.of.ensures at c.in_ok-write_selected.ensures.written);
  between = c.in_ok-write_selected.ensures.between;
}
