use Rattle.std.proofs.Common.{◌≡◌, ◌<◌, ◌≤◌, Bool, true, false, ℕ, sym, ap, ◌∙◌, arith}
use Rattle.std.specs.Prelude.{None, Some}
use Rattle.std.proofs.lemmas.Bool.{false≢true}
use Rattle.std.proofs.lemmas.Slice.Eq.{bytes_eq-Decides}
use Rattle.bench_clock.specs.TimeBody as spec
use Rattle.bench_clock.proofs.Bodies.{no_second, one_second, year_apart}
use Rattle.bench_clock.proofs.year_reading.read_year_second.Goals as goal

pub returns-in-Some-clause-second : goal.returns-in-Some-clause-second
returns-in-Some-clause-second c =
    let leap = c.args.leap in
    let is = (bytes_eq-Decides c.args.body.now (spec.year_body leap c.in-Some.second)).0 (sym c.if-is_year_body.ensures) in
    sym (one_second (spec.year_body leap) (spec.year_seconds leap) (year_apart leap) (spec.year_seconds leap) c.in-Some.second c.args.body.now (omega arith) c.in-Some.ensures.small is)

pub returns-in_default-clause-second : goal.returns-in_default-clause-second
returns-in_default-clause-second c =
    let leap = c.args.leap in
    sym (no_second (spec.year_body leap) (spec.year_seconds leap) c.args.body.now (λ t lt is.
    let found : Some c.in-Some.second ≡ Some t = c.in-Some.ensures.found t lt is in
    let same : c.in-Some.second ≡ t = cc in
    false≢true (c.if-is_year_body.ensures ∙ (bytes_eq-Decides c.args.body.now (spec.year_body leap c.in-Some.second)).1 (is ∙ ap (spec.year_body leap) (sym same)))))

pub returns-in_default-2-clause-second : goal.returns-in_default-2-clause-second
returns-in_default-2-clause-second c =
    let leap = c.args.leap in
    sym (no_second (spec.year_body leap) (spec.year_seconds leap) c.args.body.now (λ t lt is.
    let found : None ≡ Some t = c.in_default.ensures.found t lt is in
    absurd (cc)))
