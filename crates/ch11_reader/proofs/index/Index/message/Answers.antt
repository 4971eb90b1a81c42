use Rattle.std.proofs.Common.{◌-◌, None, Some, sym, arith}
use Rattle.ch11_reader.specs.Indexed.{indexed}
use Rattle.ch11_reader.proofs.Entries.{first_at, within_at, entry_read, message_is, none_at_zero, none_past}
use Rattle.ch11_reader.proofs.index.Index.message.Goals as goal
use Rattle.ch11_reader.proofs.index.Index.message.Goals.{then-n-eq0-via-then-n-eq0, then-n-eq0-via-else-n-eq0+then-self-n}

pub returns-then-n-eq0 : goal.returns-then-n-eq0
returns-then-n-eq0 c = elim c.then-n-eq0.branch [ then-n-eq0-via-then-n-eq0 w ↦ sym (none_at_zero c.args.self.now c.args.n w.if-n-eq0.true) | then-n-eq0-via-else-n-eq0+then-self-n w ↦ sym (rw c.self.view_is at (none_past (indexed c.self.inside.file.now c.self.inside.packets.items) c.args.n (omega (arith, c.self.invariant.counted, w.if-self-n.true)))) ]

pub packet_with-place-requires-clause-first : goal.packet_with-place-requires-clause-first
packet_with-place-requires-clause-first c e h = first_at c.self.inside.file.now c.self.inside.packets.items c.self.inside.total (c.args.n - 1) e c.self.invariant (rw c.deref.ensures.value at h)

pub overflow_sub-n-3 : goal.overflow_sub-n-3
overflow_sub-n-3 c =
    let at = entry_read c.self.inside.packets.items c.deref.result.now c.packet_with-place.result c.index-packet.result.now c.deref.ensures.value c.packet_with-place.ensures.within c.index-packet.ensures in
    c.packet_with-place.ensures.from c.index-packet.result.now (rw c.deref.ensures.value at)

pub message_in_packet-requires : goal.message_in_packet-requires
message_in_packet-requires c =
    let at = entry_read c.self.inside.packets.items c.deref.result.now c.packet_with-place.result c.index-packet.result.now c.deref.ensures.value c.packet_with-place.ensures.within c.index-packet.ensures in
    within_at c.self.inside.file.now c.self.inside.packets.items c.packet_with-place.result c.index-packet.result.now c.self.invariant.within at

pub returns-in_err-seen : goal.returns-in_err-seen
returns-in_err-seen c = rw (c.from_residual.ensures, ← c.self.view_is)
    (message_is c.self.inside.file.now c.self.inside.packets.items c.deref.result.now c.self.inside.total c.args.n c.packet_with-place.result c.index-packet.result.now None c.self.invariant c.if-n-eq0.false c.if-self-n.false
    c.deref.ensures.value c.packet_with-place.ensures.within c.index-packet.ensures c.packet_with-place.ensures.from c.packet_with-place.ensures.last c.in_err-seen.ensures)

pub returns : goal.returns
returns c = rw (← c.self.view_is)
    (message_is c.self.inside.file.now c.self.inside.packets.items c.deref.result.now c.self.inside.total c.args.n c.packet_with-place.result c.index-packet.result.now (Some c.in_ok-seen.seen) c.self.invariant c.if-n-eq0.false c.if-self-n.false
    c.deref.ensures.value c.packet_with-place.ensures.within c.index-packet.ensures c.packet_with-place.ensures.from c.packet_with-place.ensures.last c.in_ok-seen.ensures)
