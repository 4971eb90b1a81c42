use Rattle.std.proofs.Common.{◌≡◌, ◌<◌, ◌≤◌, ◌*◌, ◌-◌, ◌^◌, ◌⊎◌, ℕ}
use Rattle.bench_draw.proofs.axis.step_of.Given as goal

abbrev pub invariant-powers : goal.invariant-powers
invariant-powers l = ((p : ℕ) × (l.power ≡ 10 ^ p)) × (0 < l.power) × ((l.power ≡ 1) ⊎ (11 * l.power ≤ 2 * l.span))

abbrev pub decreases-powers : goal.decreases-powers
decreases-powers l = l.span - l.power
