use Rattle.ch11_f1.specs.Views.{message_of}
use Rattle.bench_reproduce.proofs.Keeping.{goes_on}
use Rattle.bench_reproduce.proofs.hearing.keep_messages.Goals as goal

pub messages-preserved : goal.messages-preserved
messages-preserved c = goes_on c.of-kind.result c.args.heard.now c.messages.heard c.keep.new.heard c.args.packet.now.before c.messages.number c.args.messages c.messages.rest c.next.new.self (message_of c.in-Some.seen) c.messages.invariant c.in-Some.ensures.steps c.in_ok-keep.ensures
