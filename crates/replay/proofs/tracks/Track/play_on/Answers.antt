use Rattle.std.proofs.Common.{ℕ, ◌+◌, subst, arith}
use Rattle.replay.specs.Accord.{played}
use Rattle.replay.specs.Tracks.{IsThere}
use Rattle.replay.proofs.KeptLists.{later_number, number_within}
use Rattle.replay.proofs.States.{channel_pair}
use Rattle.replay.proofs.Standing.{heard_on, counts_within}
use Rattle.replay.proofs.tracks.Track.play_on.Goals as goal

pub number-number-requires : goal.number-number-requires
number-number-requires c =
    let heard = heard_on c.self.inside.channel c.args.self.now.job.channel c.args.from c.args.to c.args.standing.now.heard c.count.result c.args.channels.now c.requires.at.heard_is c.count.ensures.value
    (channel_pair c.self.inside.job.value c.self.inside.part.value c.args.self.now c.self.inside.channel c.self.invariant.channel_is c.self.view_is) c.requires.order in
    omega (arith, heard, counts_within c.args.self.now.job.channel c.args.to c.args.channels.now, c.requires.room)

pub play_to-requires-clause-behind : goal.play_to-requires-clause-behind
play_to-requires-clause-behind c =
    omega (
      arith,
      c.requires.at.there.number_is,
      c.number-number.ensures,
      later_number c.args.self.now.part.refused (played c.args.self.now.job c.args.self.now.part) c.args.standing.now.heard (c.args.standing.now.heard + c.count.result) (omega arith),
    )

pub play_to-requires-clause-made : goal.play_to-requires-clause-made
play_to-requires-clause-made c =
    omega (arith, c.number-number.ensures, number_within c.args.self.now.part.refused (played c.args.self.now.job c.args.self.now.part) (c.args.standing.now.heard + c.count.result))

pub returns : goal.returns
returns c = record {
  heard_is = heard_on c.self.inside.channel c.args.self.now.job.channel c.args.from c.args.to c.args.standing.now.heard c.count.result c.args.channels.now c.requires.at.heard_is c.count.ensures.value
      (channel_pair c.self.inside.job.value c.self.inside.part.value c.args.self.now c.self.inside.channel c.self.invariant.channel_is c.self.view_is) c.requires.order;
  there = subst (λ (n : ℕ). IsThere c.args.self.now.job c.args.self.now.part n c.play_to.new.machine) c.number-number.ensures c.play_to.ensures;
}
