use Rattle.std.proofs.Common.{sym}
use Rattle.bench_stat.proofs.Telling.{packet_passed, packet_told}
use Rattle.bench_stat.proofs.following_packets.ToldChannels.note_packet.Goals as goal

pub returns-in_default : goal.returns-in_default
returns-in_default c = λ shown figures ps q b are.
    packet_passed shown c.args.selection.now figures ps q c.args.packet.now c.args.messages c.args.self.now _ b are (sym c.in_default.ensures.value) c.remove.ensures.updates.0

pub returns : goal.returns
returns c = λ shown figures ps q b are.
    packet_told shown c.args.selection.now figures ps q c.args.packet.now c.args.messages c.args.self.now (record { channels = c.remove.new.self }) _ c.in-Some.told c.note_packet.new.self b are (sym c.in-Some.ensures.value)
    (c.note_packet.ensures shown ps q b) c.remove.ensures.updates.0 c.in_ok-insert.ensures.updates.0
