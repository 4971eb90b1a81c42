use Rattle.replay.proofs.Channels.{stranger_at, known_next, all_known}
use Rattle.replay.proofs.opening.stranger.Goals.{else-packet-eq-BUS_MESSAGES-via-then-packet-eq-BUS_MESSAGES+else-not-contains, else-packet-eq-BUS_MESSAGES-via-else-packet-eq-BUS_MESSAGES}
use Rattle.replay.proofs.opening.stranger.Goals as goal

pub returns-then-not-contains : goal.returns-then-not-contains
returns-then-not-contains c =
    stranger_at c.args.jobs.now c.args.index.now c.loop-packet.packet-index _ c.packets-packet-items.result.now c.packets-packet-items.ensures.listed c.loop-packet-test.true c.loop-packet.invariant
    c.if-packet-eq-BUS_MESSAGES.true c.if-not-contains.ensures.value

pub loop-packet-preserved : goal.loop-packet-preserved
loop-packet-preserved c =
    elim c.else-packet-eq-BUS_MESSAGES.branch [
      | else-packet-eq-BUS_MESSAGES-via-then-packet-eq-BUS_MESSAGES+else-not-contains w ↦
          known_next c.args.jobs.now c.args.index.now c.loop-packet.packet-index _ c.packets-packet-items.result.now c.packets-packet-items.ensures.listed c.loop-packet-test.true c.loop-packet.invariant
          (λ kind. w.if-not-contains.ensures.value)
      | else-packet-eq-BUS_MESSAGES-via-else-packet-eq-BUS_MESSAGES w ↦
          known_next c.args.jobs.now c.args.index.now c.loop-packet.packet-index _ c.packets-packet-items.result.now c.packets-packet-items.ensures.listed c.loop-packet-test.true c.loop-packet.invariant
          (λ kind. absurd (w.if-packet-eq-BUS_MESSAGES.false kind))
    ]

pub returns : goal.returns
returns c = all_known c.args.jobs.now c.args.index.now c.loop-packet.packet-index c.packets-packet-items.result.now c.packets-packet-items.ensures.listed c.loop-packet-test.false c.loop-packet.invariant
