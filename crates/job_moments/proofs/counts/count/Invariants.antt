use Rattle.std.proofs.Common.{◌≡◌, ◌<◌, ◌≤◌, ℕ, get_or}
use Rattle.job_moments.specs.declared.counts.Counter.{Counter}
use Rattle.job_moments.proofs.Counters.{HasMet}
use Rattle.job_moments.proofs.counts.count.Given as goal

-- the counters so far have counted the message
abbrev pub invariant-loop-counter : goal.invariant-loop-counter
invariant-loop-counter l = record {
  done : (k : ℕ) (d : Counter) → k < l.counter-index → HasMet l.met (get_or l.fn.counters k d) (get_or l.counters k d);
  rest : (k : ℕ) (d : Counter) → l.counter-index ≤ k → get_or l.counters k d ≡ get_or l.fn.counters k d;
}
