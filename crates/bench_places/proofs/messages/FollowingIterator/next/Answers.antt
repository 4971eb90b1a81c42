use Rattle.std.proofs.Common.{◌≡◌, ◌+◌, ◌-◌, ◌<◌, [], ◌++◌, length, drop, map, refl, sym, ◌∙◌, arith}
use Rattle.ch11_f1.specs.BodyReading.{Message}
use Rattle.ch11_layout.specs.Stamps.{recorded}
use Rattle.bench_select.specs.Viewed.{viewed_in}
use Rattle.bench_places.proofs.Packets.{next_packet, no_packets, is_packet}
use Rattle.bench_places.proofs.messages.FollowingIterator.next.Goals as goal

pub returns-then-self-packets-clause-steps : goal.returns-then-self-packets-clause-steps
returns-then-self-packets-clause-steps c =
    let found = c.loop-seen.self-inside.index.now in
    let place = c.loop-seen.self-inside.packet in
    let none : viewed_in (drop place found) ≡ [] = no_packets found c.packets-packets.result.now place c.packets-packets.ensures.listed (omega (arith, c.if-self-packets.true)) in
    let before : map (λ (m : Message). (c.loop-seen.self-inside.channel, recorded c.loop-seen.self-inside.kind m)) c.loop-seen.self-inside.current ++ viewed_in (drop place found) ≡ [] = (rw (c.in_default.ensures.steps.0, none) refl) in
    let after : map (λ (m : Message). (c.loop-seen.self-inside.channel, recorded c.loop-seen.self-inside.kind m)) c.next.new.self ++ viewed_in (drop place found) ≡ [] = (rw (c.in_default.ensures.steps.1, none) refl) in
    (sym c.loop-seen.invariant ∙ before, after)

pub messages_in-self-inside-requires : goal.messages_in-self-inside-requires
messages_in-self-inside-requires c =
    is_packet c.loop-seen.self-inside.index.now c.packets-packets.result.now c.loop-seen.self-inside.packet c.packets-packets.ensures.listed (omega (arith, c.if-self-packets.false))

pub loop-seen-smaller : goal.loop-seen-smaller
loop-seen-smaller c =
    let found = c.loop-seen.self-inside.index.now in
    let place = c.loop-seen.self-inside.packet in
    let within : place < length found = is_packet found c.packets-packets.result.now place c.packets-packets.ensures.listed (omega (arith, c.if-self-packets.false)) in
    let less : length found - (place + 1) < length found - place = omega (arith, within) in
    less

pub loop-seen-preserved : goal.loop-seen-preserved
loop-seen-preserved c =
    let found = c.loop-seen.self-inside.index.now in
    let place = c.loop-seen.self-inside.packet in
    next_packet found c.packets-packets.result.now place c.messages_in-self-inside.result c.of-self-inside.result c.packets-packets.ensures.listed (omega (arith, c.if-self-packets.false)) c.messages_in-self-inside.ensures c.of-self-inside.ensures
    ∙ (rw c.in_default.ensures.steps.0 at c.loop-seen.invariant)
