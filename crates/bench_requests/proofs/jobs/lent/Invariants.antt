use Rattle.std.proofs.Common.{map, ◌≡◌, take}
use Rattle.bench_requests.proofs.jobs.lent.Given as goal

-- the texts so far
abbrev pub invariant-loop-text : goal.invariant-loop-text
invariant-loop-text l = map (λ slice. slice.now) l.slices.items ≡ map (λ text. text.items) (take l.text-index l.texts)
