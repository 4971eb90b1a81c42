use Rattle.std.proofs.Common.{◌≡◌, ◌<◌, ◌+◌, ◌++◌, ◌∷◌, [], length, refl, subst, sym, ap, ◌∙◌, arith, take}
use Rattle.std.proofs.lemmas.List.{take_more, take_all}
use Rattle.bench_check.specs.Filling.{AreFirsts}
use Rattle.bench_check.proofs.Firsts.{none_yet}
use Rattle.bench_check.proofs.filling.Filled.of.Goals as goal

pub loop-place-init : goal.loop-place-init
loop-place-init c = none_yet _ refl

pub loop-place-preserved : goal.loop-place-preserved
loop-place-preserved c =
    let actions = c.args.placed in
    let at = c.loop-place.place in
    let less : at < length actions = omega (arith, c.loop-place-test.true, c.len-place-end.ensures) in
    let more : take at actions ++ c.get.result ∷ [] ≡ take (at + 1) actions = ap (λ one. take at actions ++ one ∷ []) c.get.ensures ∙ sym (take_more actions at c.get.result less) in
    subst (AreFirsts c.note.new.firsts) more (c.note.ensures (take at actions) c.loop-place.invariant)

pub invariant_of-result : goal.invariant_of-result
invariant_of-result c =
    let all : take c.loop-place.place c.args.placed ≡ c.args.placed = take_all c.loop-place.place c.args.placed (omega (arith, c.loop-place-test.false, c.len-place-end.ensures)) in
    subst (AreFirsts c.loop-place.firsts) all c.loop-place.invariant
