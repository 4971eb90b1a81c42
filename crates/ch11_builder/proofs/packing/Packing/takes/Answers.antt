use Rattle.std.proofs.Common.{arith}
use Rattle.ch11_builder.specs.Packet.{Numbered}
use Rattle.ch11_builder.specs.Built.{state_of}
use Rattle.ch11_builder.proofs.OneMore.{takes_yes, takes_no, room_is}
use Rattle.ch11_builder.proofs.packing.Packing.takes.Goals as goal

pub returns-then-padded-self-clause-answer : goal.returns-then-padded-self-clause-answer
returns-then-padded-self-clause-answer c =
    let n : Numbered = record { number = c.args.number; message = c.args.message.now } in
    rw (← c.self.view_is) (takes_yes (state_of c.self.inside).held n c.self.inside.used c.padded.result c.self.inside.first_stamp (omega (arith, c.self.invariant.count, c.if-self-eq0.false)) c.self.invariant.used (rw (← c.as_slice.ensures.value) c.padded.ensures) c.if-padded-self.true c.self.invariant.first)

pub returns-else-padded-self-clause-answer : goal.returns-else-padded-self-clause-answer
returns-else-padded-self-clause-answer c =
    let n : Numbered = record { number = c.args.number; message = c.args.message.now } in
    rw (← c.self.view_is) (takes_no (state_of c.self.inside).held n c.self.inside.used c.padded.result (omega (arith, c.self.invariant.count, c.if-self-eq0.false)) c.self.invariant.used (rw (← c.as_slice.ensures.value) c.padded.ensures) c.if-padded-self.false)

pub returns-then-padded-self-clause-room : goal.returns-then-padded-self-clause-room
returns-then-padded-self-clause-room c =
    let n : Numbered = record { number = c.args.number; message = c.args.message.now } in
    λ _. rw (← c.self.view_is) (room_is (state_of c.self.inside).held n c.self.inside.used c.padded.result c.self.invariant.used (rw (← c.as_slice.ensures.value) c.padded.ensures) c.if-padded-self.true)
