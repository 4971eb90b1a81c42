use Rattle.std.proofs.Common.{◌∙◌}
use Rattle.mil_line.proofs.Places.{next_place}
use Rattle.mil_line.proofs.on_line.altered.Goals as goal

pub loop-i-preserved : goal.loop-i-preserved
loop-i-preserved c = record {
  items = next_place c.args.faults.now c.args.run c.loop-i.i c.args.room c.index-given-i.result c.args.given.now c.loop-i.words.items c.put_place.new.words.items c.loop-i-test.true c.index-given-i.is c.put_place.ensures.items ∙ c.loop-i.invariant.items;
  within = c.put_place.ensures.within;
}
