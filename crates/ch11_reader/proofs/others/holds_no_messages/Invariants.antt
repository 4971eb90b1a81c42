use Rattle.std.proofs.Common.{List, length}
use Rattle.ch11_reader.specs.Recording.{Found}
use Rattle.ch11_reader.proofs.Loop.{Going}
use Rattle.ch11_reader.proofs.NoMessages.{AreOthers}
use Rattle.ch11_reader.proofs.others.holds_no_messages.Given as goal

abbrev pub invariant-loop-rest : goal.invariant-loop-rest
invariant-loop-rest l = (earlier : List Found) × Going l.file l.rest earlier × AreOthers earlier

abbrev pub decreases-loop-rest : goal.decreases-loop-rest
decreases-loop-rest l = length l.rest
