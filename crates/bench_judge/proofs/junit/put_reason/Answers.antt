use Rattle.std.proofs.Common.{◌≡◌, ◌++◌, ℕ, List, refl, subst, arith}
use Rattle.std.specs.Prelude.{OnOk, codes, decimal}
use Rattle.std.proofs.lemmas.Bool.{ne_eqb}
use Rattle.bench_judge.specs.Junit.{reason}
use Rattle.bench_judge.proofs.Putting.{then_number}
use Rattle.bench_judge.proofs.junit.put_reason.Goals as goal

pub returns : goal.returns
unfolding reason
returns c =
    let v = c.args.verdict.now in
    let mid = c.put_number.new.text.items in
    let told = codes " missed " ++ decimal v.missed in
    let some : v.missed ≡ 0 → ⊥ = λ (none : v.missed ≡ 0). absurd (omega arith) in
    rw (c.if-verdict.false, ne_eqb v.missed 0 some) (subst (λ (l : List ℕ). OnOk c.put_number-2.result (c.put_number-2.new.text.items ≡ l)) (then_number c.args.text.now.items mid (mid ++ told) (codes "selected ") (decimal v.selected) told c.in_ok-put_number.ensures refl) c.put_number-2.ensures)
