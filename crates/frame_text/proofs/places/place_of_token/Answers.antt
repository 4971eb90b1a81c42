use Rattle.frame_text.proofs.Positions.{begin_place}
use Rattle.frame_text.proofs.places.place_of_token.Goals as goal

pub returns-clause-inside : goal.returns-clause-inside
returns-clause-inside c = begin_place c.args.text.now c.without_last.result.now _ c.place_after.result c.without_last.ensures c.place_after.ensures
