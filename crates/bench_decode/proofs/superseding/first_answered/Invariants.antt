use Rattle.std.proofs.Common.{◌≡◌, ◌<◌, ◌≤◌, ℕ, false}
use Rattle.bench_decode.specs.Superseding.{is_answered}
use Rattle.bench_decode.proofs.superseding.first_answered.Given as goal

-- no word so far is answered
abbrev pub invariant-places : goal.invariant-places
invariant-places l = (earlier : ℕ) → l.from ≤ earlier → earlier < l.place → is_answered earlier l.view ≡ false
