use Rattle.std.proofs.Common.{sym, subst, arith}
use Rattle.job_moments.specs.declared.occasions.Occasion.{Occasion}
use Rattle.job_moments.specs.Counting.{HasCounter}
use Rattle.job_moments.specs.Planning.{counted_of, is_occasion}
use Rattle.job_moments.specs.Quiet.{Sleeps}
use Rattle.job_moments.proofs.Sleeping.{sleeps_turns}
use Rattle.job_moments.proofs.occasions.Occasion.narrowed.Goals as goal

pub returns-in-Places-clause-sleeps : goal.returns-in-Places-clause-sleeps
returns-in-Places-clause-sleeps c =
    let made = c.args.counts.now.made in
    let there = subst (λ (o : Occasion). HasCounter c.args.counts.now.selectors c.args.counter (counted_of o)) c.in-Places.is c.requires.counter in
    let count = c.count.ensures c.in-Places.selector there in
    subst (λ (o : Occasion). Sleeps c.before_turn-in-Places.result made (λ ms n. is_occasion ms n o)) (sym c.in-Places.is)
    (sleeps_turns c.before_turn-in-Places.result made c.in-Places.selector c.in-Places.turns
    (λ k above within. c.before_turn-in-Places.ensures.turns k (omega (arith, count, above)) (omega (arith, count, c.number-in-Places.ensures, within))))
