use Rattle.std.proofs.Common.{◌≡◌, ◌++◌, ℕ, List, refl, subst}
use Rattle.std.specs.Prelude.{OnOk, codes}
use Rattle.bench_judge.specs.Junit.{failure, failure_text, reason}
use Rattle.bench_judge.proofs.Putting.{then_put}
use Rattle.bench_judge.proofs.junit.put_failure.Goals as goal

pub returns : goal.returns
unfolding failure
returns c =
    let why = reason c.args.check.now c.args.verdict.now in
    let rest = failure_text c.args.named.file.now c.args.named.name.now c.args.verdict.now c.args.told.now in
    let last = c.extend_from_slice-2.new.self.items in
    let all =
    then_put c.args.text.now.items c.extend_from_slice.new.self.items (last ++ rest) (codes "\">\n    <failure message=\"") (why ++ (codes "\">" ++ rest)) c.in_ok-extend_from_slice.ensures.items
    (then_put c.extend_from_slice.new.self.items c.put_reason.new.text.items (last ++ rest) why (codes "\">" ++ rest) c.in_ok-put_reason.ensures
    (then_put c.put_reason.new.text.items last (last ++ rest) (codes "\">") rest c.in_ok-extend_from_slice-2.ensures.items refl)) in
    subst (λ (l : List ℕ). OnOk c.put_failure_text.result (c.put_failure_text.new.text.items ≡ l)) all c.put_failure_text.ensures
