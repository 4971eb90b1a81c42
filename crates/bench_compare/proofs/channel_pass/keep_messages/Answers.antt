use Rattle.ch11_f1.specs.Views.{message_of}
use Rattle.bench_compare.proofs.Keeping.{goes_on}
use Rattle.bench_compare.proofs.channel_pass.keep_messages.Goals as goal

pub messages-preserved : goal.messages-preserved
messages-preserved c = goes_on c.args.choice.selection.now c.of-kind.result c.args.kept.now.items c.messages.kept.items c.keep_if.new.kept.items c.args.packet.now.before c.messages.number c.args.choice.channel c.args.messages c.messages.rest c.next.new.self (message_of c.in-Some.seen) c.selects-chosen.result c.messages.invariant c.in-Some.ensures.steps (rw c.view.ensures at c.selects-chosen.ensures) c.in_ok-keep_if.ensures
