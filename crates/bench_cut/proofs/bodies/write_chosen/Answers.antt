use Rattle.std.proofs.Common.{refl, ◌+◌}
use Rattle.ch11_f1.specs.Views.{message_of}
use Rattle.bench_cut.proofs.Writing.{begins, goes_on, is_short}
use Rattle.bench_cut.proofs.bodies.write_chosen.Goals as goal

pub messages-init : goal.messages-init
messages-init g c = begins c.args.selection.now c.of-kind.result (g.W.Write.contents c.args.out.now) c.args.packet.now.before c.args.packet.now.header.channel c.args.messages c.requires.short

pub write_if-requires : goal.write_if-requires
write_if-requires g c = is_short (message_of c.in-Some.seen) c.messages.rest c.next.new.self c.messages.invariant.short c.in-Some.ensures.steps

pub messages-preserved : goal.messages-preserved
messages-preserved g c = goes_on c.args.selection.now c.of-kind.result _ _ _ c.args.packet.now.before c.messages.number c.args.packet.now.header.channel (c.messages.number + 1) c.args.messages c.messages.rest c.next.new.self (message_of c.in-Some.seen) c.selects-chosen.result c.messages.invariant c.in-Some.ensures.steps refl (rw c.of.ensures at c.selects-chosen.ensures) c.in_ok-write_if.ensures
