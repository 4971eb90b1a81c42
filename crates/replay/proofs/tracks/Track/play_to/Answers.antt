use Rattle.std.proofs.Common.{arith}
use Rattle.replay.proofs.States.{sound_pair}
use Rattle.replay.proofs.Standing.{played_one}
use Rattle.replay.proofs.tracks.Track.play_to.Goals as goal

pub loop-number-preserved : goal.loop-number-preserved
loop-number-preserved c =
    played_one c.args.self.now.job c.args.self.now.part c.loop-number._number c.loop-number.machine c.next_record.new.machine c.next_record.result
    (sound_pair c.self.inside.job.value c.self.inside.part.value c.args.self.now c.self.invariant.sound c.self.view_is)
    c.loop-number.invariant c.next_record.ensures.of_job c.next_record.ensures.told c.next_record.ensures.number c.next_record.ensures.all
    (omega (arith, c.loop-number-test.true, c.requires.made))
