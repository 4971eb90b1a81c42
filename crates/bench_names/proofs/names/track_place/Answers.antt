use Rattle.std.proofs.Common.{◌≡◌, length, sym, arith, ◌∙◌, drop, true, nat_eq}
use Rattle.std.specs.List.{starts_with}
use Rattle.bench_names.specs.Names as spec
use Rattle.bench_names.proofs.Finding.{place_is}
use Rattle.bench_names.proofs.names.track_place.Goals as goal

-- src/names.rt:122:13
pub returns-then-starts_with-clause-value : goal.returns-then-starts_with-clause-value
returns-then-starts_with-clause-value c =
    let here : starts_with nat_eq (drop c.loop-place.place c.args.name.now) spec.track ≡ true = rw (sym c.split_at.ensures.back) (sym c.starts_with.ensures.value ∙ c.if-starts_with.true) in
    sym (place_is c.args.name.now c.loop-place.place (omega arith) c.loop-place.invariant (λ less. here))

-- src/names.rt:115:1
pub returns-clause-value : goal.returns-clause-value
returns-clause-value c = sym (place_is c.args.name.now (length c.args.name.now) (omega arith) (λ k less. c.loop-place.invariant k (omega arith)) (λ less. absurd (omega arith)))
