use Rattle.replay.proofs.PlacedLists.{suffices}
use Rattle.replay.proofs.laws.placed_actions_suffice.Goals as goal

pub returns : goal.returns
returns c job actions made le = suffices job actions made le
