use Rattle.std.proofs.Common.{ap, ◌∙◌}
use Rattle.std.proofs.lemmas.List.{take_all}
use Rattle.replay.specs.Accord.{reported}
use Rattle.replay.proofs.Channels.{reported_next}
use Rattle.replay.proofs.opening.reported.Goals as goal

pub loop-part-preserved : goal.loop-part-preserved
loop-part-preserved c =
    reported_next c.args.parts.now c.loop-part.part-index c.part-item.result c.loop-part.channels.items c.push.new.self.items c.channel.result c.loop-part.invariant c.loop-part-test.true c.part-item.is
    c.in_ok-push.ensures.items c.channel.ensures.value

pub returns : goal.returns
returns c = c.loop-part.invariant ∙ ap reported (take_all c.loop-part.part-index c.args.parts.now c.loop-part-test.false)
