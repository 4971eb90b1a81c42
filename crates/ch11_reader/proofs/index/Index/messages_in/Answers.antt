use Rattle.std.proofs.Common.{◌∙◌}
use Rattle.ch11_reader.proofs.Entries.{entry_there, messages_there, within_at}
use Rattle.ch11_reader.proofs.index.Index.messages_in.Goals as goal

pub messages_in_packet-requires : goal.messages_in_packet-requires
messages_in_packet-requires c =
    let at = entry_there c.self.inside.file.now c.self.inside.packets.items c.self.inside.total c.args.self.now c.args.place c.index.result.now c.self.invariant c.self.view_is c.requires c.index.ensures in
    within_at c.self.inside.file.now c.self.inside.packets.items c.args.place c.index.result.now c.self.invariant.within at

pub returns : goal.returns
returns c p there =
    let at = entry_there c.self.inside.file.now c.self.inside.packets.items c.self.inside.total c.args.self.now c.args.place c.index.result.now c.self.invariant c.self.view_is c.requires c.index.ensures in
    c.messages_in_packet.ensures ∙ messages_there c.self.inside.file.now c.self.inside.packets.items c.self.inside.total c.args.self.now c.args.place c.index.result.now p c.self.invariant c.self.view_is at there
