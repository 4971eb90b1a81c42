use Rattle.replay.proofs.Stops.{stands_there}
use Rattle.replay.proofs.timeline.bring.Goals as goal

pub returns-in-Some-clause-there : goal.returns-in-Some-clause-there
returns-in-Some-clause-there c =
    stands_there c.args.tracks.now c.args.channels.now c.args.at.now c.args.all.now.items c.in-Some.place c.args.stop.now.place c.requires.at c.in-Some.is c.if-place-stop.true
