use Rattle.std.proofs.Common.{sym, subst, arith}
use Rattle.bench_report.specs.Reports.{IsForPlace}
use Rattle.bench_run.proofs.posting.Posts.place.Goals as goal

pub add_action-requires-clause-place : goal.add_action-requires-clause-place
add_action-requires-clause-place c = record {
  number_low = omega arith;
  number_high = omega (arith, c.requires.number, c.number.ensures.value);
  address = subst IsForPlace (sym c.copy.ensures) (c.is_for_place.ensures.0 c.if-not-is_for_place.false);
}
