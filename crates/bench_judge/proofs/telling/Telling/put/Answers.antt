use Rattle.std.proofs.Common.{arith, refl}
use Rattle.bench_judge.proofs.telling.Telling.put.Goals as goal

pub returns-then-self-eq0 : goal.returns-then-self-eq0
returns-then-self-eq0 c = record {
  tally = refl;
  full = λ none. (refl, refl);
  some = λ more. absurd (omega (arith, more, c.if-self-eq0.true));
}

pub returns : goal.returns
returns c = record {
  tally = refl;
  full = λ none. absurd (c.if-self-eq0.false none);
  some = λ more. (c.in_ok-put_told_at.ensures, refl);
}
