use Rattle.std.proofs.Common.{◌∙◌, sym}
use Rattle.bench_stat.proofs.Streamed.{packet_counted, packet_of_other_channel, packet_of_other_kind}
use Rattle.bench_stat.proofs.streaming.note_packet.Goals as goal

pub returns-then-packet-ne-BUS_MESSAGES : goal.returns-then-packet-ne-BUS_MESSAGES
returns-then-packet-ne-BUS_MESSAGES c = λ ps q are b. packet_of_other_kind c.args.selection.now ps q c.args.packet.now c.args.messages c.args.so_far.now are b c.if-packet-ne-BUS_MESSAGES.true

pub returns-then-not-is_of : goal.returns-then-not-is_of
returns-then-not-is_of c = λ ps q are b. packet_of_other_channel c.args.selection.now ps q c.args.packet.now c.args.messages c.args.so_far.now are b (sym c.is_of.ensures ∙ c.if-not-is_of.true)

pub returns : goal.returns
returns c = λ ps q are b.
    packet_counted c.args.selection.now ps q c.args.packet.now c.args.messages c.args.so_far.now _ c.tally_at-tally.result c.note_selected.new.tally are b c.if-packet-ne-BUS_MESSAGES.false
    (sym c.is_of.ensures ∙ c.if-not-is_of.false) c.tally_at-tally.ensures (rw c.of-kind.ensures at c.note_selected.ensures) c.in_ok-insert.ensures.updates.0 c.end_above-so_far.ensures.kept c.end_above-so_far.ensures.above
