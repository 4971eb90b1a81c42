use Rattle.std.proofs.Common.{◌≡◌, ◌+◌, ◌++◌, ◌∷◌, [], List, ℕ, length, take, ap, sym, ◌∙◌, refl, subst}
use Rattle.std.specs.Prelude.{Bool, false, ◌==◌, if◌then◌else◌, codes}
use Rattle.std.specs.List.{flat_map}
use Rattle.std.specs.Io.KnownBytes.{Appends}
use Rattle.std.proofs.KnownBytes.{Appends-trans}
use Rattle.std.proofs.lemmas.List.{take_more, take_all}
use Rattle.bench_check.specs.declared.mistakes.Mistake.{Mistake}
use Rattle.bench_check.specs.MistakeLines.{mistake_line}
use Rattle.bench_check.proofs.Collected.{one_more_from}
use Rattle.bench_check.proofs.findings.print_mistakes.Goals as goal

abbrev said : List ℕ
said = codes "probably a mistake:\n"

pub loop-mistake-preserved : goal.loop-mistake-preserved
loop-mistake-preserved g c =
    let all = c.args.mistakes.now in
    let i = c.loop-mistake.mistake-index in
    let one = c.mistake-item.result in
    let more : take i all ++ one ∷ [] ≡ take (i + 1) all = ap (λ (m : Mistake). take i all ++ m ∷ []) c.mistake-item.is ∙ sym (take_more all i one c.loop-mistake-test.true) in
    let so_far = said ++ flat_map mistake_line (take i all) in
    subst (Appends (g.W.Write.contents c.args.out.now) (g.W.Write.contents c.print_mistake.new.out)) (one_more_from mistake_line all i one said so_far (so_far ++ mistake_line one) more refl refl)
    (Appends-trans (g.W.Write.contents c.args.out.now) (g.W.Write.contents c.loop-mistake.out) (g.W.Write.contents c.print_mistake.new.out) so_far (mistake_line one) c.loop-mistake.invariant c.in_ok-print_mistake.ensures)

pub returns : goal.returns
returns g c =
    let all = c.args.mistakes.now in
    let old = g.W.Write.contents c.args.out.now in
    let new = g.W.Write.contents c.loop-mistake.out in
    let some : (length all == 0) ≡ false = sym c.is_empty.ensures ∙ c.if-is_empty.false in
    subst (λ (b : Bool). Appends old new (if b then codes "nothing looks like a mistake\n" else said ++ flat_map mistake_line all)) (sym some)
    (subst (λ (ms : List Mistake). Appends old new (said ++ flat_map mistake_line ms)) (take_all c.loop-mistake.mistake-index all c.loop-mistake-test.false) c.loop-mistake.invariant)
