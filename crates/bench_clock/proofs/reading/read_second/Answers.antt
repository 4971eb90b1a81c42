use Rattle.std.proofs.Common.{◌≡◌, length, sym, ap, ◌∙◌, arith}
use Rattle.std.specs.Prelude.{None, Some}
use Rattle.std.proofs.lemmas.Bool.{false≢true}
use Rattle.std.proofs.lemmas.Slice.Eq.{bytes_eq-Decides}
use Rattle.bench_clock.specs.TimeBody as spec
use Rattle.bench_clock.proofs.Bodies.{no_second, one_second, same_body}
use Rattle.bench_clock.proofs.reading.read_second.Goals as goal

pub returns-then-body-ne12-clause-second : goal.returns-then-body-ne12-clause-second
returns-then-body-ne12-clause-second c = sym (no_second spec.body_of 253402300800 c.args.body.now (λ t lt is. c.if-body-ne12.true (ap length is)))

pub returns-in-Some-clause-second : goal.returns-in-Some-clause-second
returns-in-Some-clause-second c =
    let is = (bytes_eq-Decides c.args.body.now (spec.body_of c.in-Some.second)).0 (sym c.if-is_body_of.ensures) in
    sym (one_second spec.body_of 253402300800 same_body 253402300800 c.in-Some.second c.args.body.now (omega arith) c.in-Some.ensures.small is)

pub returns-in_default-clause-second : goal.returns-in_default-clause-second
returns-in_default-clause-second c =
    sym (no_second spec.body_of 253402300800 c.args.body.now (λ t lt is.
    let found : Some c.in-Some.second ≡ Some t = c.in-Some.ensures.found t lt is in
    let same : c.in-Some.second ≡ t = cc in
    false≢true (c.if-is_body_of.ensures ∙ (bytes_eq-Decides c.args.body.now (spec.body_of c.in-Some.second)).1 (is ∙ ap spec.body_of (sym same)))))

pub returns-in_default-2-clause-second : goal.returns-in_default-2-clause-second
returns-in_default-2-clause-second c =
    sym (no_second spec.body_of 253402300800 c.args.body.now (λ t lt is.
    let found : None ≡ Some t = c.in_default.ensures.found t lt is in
    absurd (cc)))
