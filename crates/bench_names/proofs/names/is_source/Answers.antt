use Rattle.std.proofs.Common.{◌≡◌, ◌++◌, nat_eq, List, ℕ, sym, ◌∙◌, ap, take, drop}
use Rattle.std.specs.Cmp.Lexicographic.{pointwise}
use Rattle.bench_names.specs.Names as spec
use Rattle.bench_names.proofs.Finding.{same_front, source_is, are_others}
use Rattle.bench_names.proofs.names.is_source.Goals as goal

-- src/names.rt:129:1
pub returns-in-Some-behind_prefix : goal.returns-in-Some-behind_prefix
returns-in-Some-behind_prefix c =
    let number : List ℕ = c.without-number.result.now in
    let front : List ℕ = c.split_at.result.0.now in
    let named : spec.source_name c.args.track.now ≡ front ++ (spec.source ++ number) = source_is c.args.track.now front c.split_at.result.1.now number (c.split_at.ensures.front ∙ ap (λ (n : ℕ). take n c.args.track.now) c.track_place.ensures.value) (c.split_at.ensures.back ∙ ap (λ (n : ℕ). drop n c.args.track.now) c.track_place.ensures.value) c.without-number.ensures in
    let tail : List ℕ = c.in-Some-behind_prefix.tail.now in
    let parts : c.args.name.now ≡ front ++ (spec.source ++ tail) = c.in-Some.ensures ∙ ap (λ (r : List ℕ). front ++ r) c.in-Some-behind_prefix.ensures in
    let same : pointwise nat_eq c.args.name.now (spec.source_name c.args.track.now) ≡ pointwise nat_eq tail number = rw (parts, named) (same_front front (spec.source ++ tail) (spec.source ++ number) ∙ same_front spec.source tail number) in
    c.eq.ensures ∙ sym same

-- src/names.rt:129:1
pub returns-in-None-behind_prefix : goal.returns-in-None-behind_prefix
returns-in-None-behind_prefix c =
    let number : List ℕ = c.without-number.result.now in
    let front : List ℕ = c.split_at.result.0.now in
    let named : spec.source_name c.args.track.now ≡ front ++ (spec.source ++ number) = source_is c.args.track.now front c.split_at.result.1.now number (c.split_at.ensures.front ∙ ap (λ (n : ℕ). take n c.args.track.now) c.track_place.ensures.value) (c.split_at.ensures.back ∙ ap (λ (n : ℕ). drop n c.args.track.now) c.track_place.ensures.value) c.without-number.ensures in
    let rest : List ℕ = c.in-Some.rest.now in
    let same : pointwise nat_eq c.args.name.now (spec.source_name c.args.track.now) ≡ pointwise nat_eq rest (spec.source ++ number) = rw (c.in-Some.ensures, named) (same_front front rest (spec.source ++ number)) in
    are_others rest (spec.source ++ number) (λ is. c.in-None-behind_prefix.ensures number is) ∙ sym same

-- src/names.rt:129:1
pub returns-in-None : goal.returns-in-None
returns-in-None c =
    let number : List ℕ = c.without-number.result.now in
    let front : List ℕ = c.split_at.result.0.now in
    let named : spec.source_name c.args.track.now ≡ front ++ (spec.source ++ number) = source_is c.args.track.now front c.split_at.result.1.now number (c.split_at.ensures.front ∙ ap (λ (n : ℕ). take n c.args.track.now) c.track_place.ensures.value) (c.split_at.ensures.back ∙ ap (λ (n : ℕ). drop n c.args.track.now) c.track_place.ensures.value) c.without-number.ensures in
    are_others c.args.name.now (front ++ (spec.source ++ number)) (λ is. c.in-None.ensures (spec.source ++ number) is) ∙ sym (ap (pointwise nat_eq c.args.name.now) named)
