use Rattle.std.proofs.Common.{◌≤◌, ◌^◌, ℕ, ap, sym, ◌∙◌, arith, subst}
use Rattle.std.proofs.lemmas.List.{get_or-replicate}
use Rattle.mil_trunk.specs.Tags.{bound_of}
use Rattle.speed.proofs.trunk.timed.Goals as goal

pub exchange-sum-requires-clause-bounds : goal.exchange-sum-requires-clause-bounds
exchange-sum-requires-clause-bounds g c κs within = λ t below.
    let P : ℕ → Type 0 = λ b. c.args.load.count ≤ b in
    let fits = c.requires.1 in
    subst P (sym (ap (λ l. bound_of l t) c.in-Ok.ensures.bounds ∙ get_or-replicate 64 t (2 ^ 55) 0 below)) (omega (arith, fits))
