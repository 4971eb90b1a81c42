use Rattle.std.proofs.Common.{refl, sym, ◌∙◌, ◌+◌}
use Rattle.ch11_f1.specs.Views.{message_of}
use Rattle.bench_cut.proofs.Choices.{goes_on, room}
use Rattle.bench_cut.proofs.choosing.choose.Goals as goal

pub note_if-requires : goal.note_if-requires
note_if-requires c = λ one. room c.args.selection.now c.of-kind.result c.args.packet.now.before c.messages.number c.args.packet.now.header.channel c.args.messages c.messages.rest c.next.new.self (message_of c.in-Some.seen) c.messages.chosen c.messages.invariant c.in-Some.ensures.steps c.requires.few c.requires.small (sym (rw c.of.ensures at c.selects-selected.ensures) ∙ one)

pub messages-preserved : goal.messages-preserved
messages-preserved c = goes_on c.args.selection.now c.of-kind.result c.args.packet.now.before c.messages.number c.args.packet.now.header.channel c.args.messages c.messages.rest c.next.new.self (message_of c.in-Some.seen) c.messages.chosen c.messages.invariant c.in-Some.ensures.steps c.selects-selected.result (c.messages.number + 1) c.note_if.new.self (rw c.of.ensures at c.selects-selected.ensures) refl c.note_if.ensures
