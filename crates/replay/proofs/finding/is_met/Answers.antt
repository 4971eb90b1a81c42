use Rattle.std.proofs.Common.{◌∙◌}
use Rattle.frame_tree.specs.Tree.{condition_in}
use Rattle.replay.proofs.FirstMet.{counts_more, counts_same, says_there, met_here, not_true, not_own}
use Rattle.replay.proofs.finding.is_met.Goals as goal

pub returns-then-channels-before-clause-heard : goal.returns-then-channels-before-clause-heard
returns-then-channels-before-clause-heard g c =
    counts_more c.args.channels.now (condition_in c.args.condition.now) c.args.track.now c.args.before c.args.heard.now c.channel-channel.result c.requires.within c.requires.heard c.channel-channel.ensures c.if-channels-before.true

pub returns-then-channels-before-clause-met : goal.returns-then-channels-before-clause-met
returns-then-channels-before-clause-met g c told =
    met_here c.args.channels.now (condition_in c.args.condition.now) c.args.track.now c.args.before c.channel-channel.result c.requires.within c.channel-channel.ensures c.if-channels-before.true
    (says_there c.args.channels.now (condition_in c.args.condition.now) c.args.track.now c.args.before c.args.heard.now c.channel-channel.result c.outcome.ensures.machine c.outcome.result c.holds.result
    c.requires.within c.requires.heard c.channel-channel.ensures c.if-channels-before.true c.outcome.ensures.after c.outcome.ensures.told c.holds.ensures ∙ told)

pub returns-then-channels-before-clause-other : goal.returns-then-channels-before-clause-other
returns-then-channels-before-clause-other g c told =
    not_true c.args.channels.now (condition_in c.args.condition.now) c.args.track.now c.args.before
    (says_there c.args.channels.now (condition_in c.args.condition.now) c.args.track.now c.args.before c.args.heard.now c.channel-channel.result c.outcome.ensures.machine c.outcome.result c.holds.result
    c.requires.within c.requires.heard c.channel-channel.ensures c.if-channels-before.true c.outcome.ensures.after c.outcome.ensures.told c.holds.ensures ∙ told)

pub returns-clause-heard : goal.returns-clause-heard
returns-clause-heard g c =
    counts_same c.args.channels.now (condition_in c.args.condition.now) c.args.track.now c.args.before c.args.heard.now c.channel-channel.result c.requires.within c.requires.heard c.channel-channel.ensures c.if-channels-before.false

pub returns-clause-other : goal.returns-clause-other
returns-clause-other g c told =
    not_own c.args.channels.now (condition_in c.args.condition.now) c.args.track.now c.args.before c.channel-channel.result c.channel-channel.ensures c.if-channels-before.false
