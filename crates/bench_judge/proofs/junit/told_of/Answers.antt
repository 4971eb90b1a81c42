use Rattle.std.proofs.Common.{◌≡◌, arith}
use Rattle.std.proofs.lemmas.Bool.{ne_eqb}
use Rattle.bench_judge.proofs.junit.told_of.Goals as goal

pub returns : goal.returns
returns g c = λ file known.
    let some : c.args.verdict.now.missed ≡ 0 → ⊥ = λ (none : c.args.verdict.now.missed ≡ 0). absurd (omega arith) in
    rw (ne_eqb c.args.verdict.now.missed 0 some) (c.tell_first.ensures file known)
