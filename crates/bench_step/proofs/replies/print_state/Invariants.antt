use Rattle.std.proofs.Common.{take, flat_map, zip}
use Rattle.std.specs.Io.KnownBytes.{Appends}
use Rattle.bench_step.specs.Session.{job_text}
use Rattle.bench_step.proofs.Pairs.{Pair}
use Rattle.bench_step.proofs.replies.print_state.Given as goal

-- the lines of the channels so far
abbrev pub invariant-loop-index : goal.invariant-loop-index
invariant-loop-index g l =
    Appends (g.W.Write.contents l.fn.out) (g.W.Write.contents l.out) (flat_map (λ (p : Pair). job_text l.fn.detail l.replay.state p.0 p.1) (take l.index (zip l.replay.state.jobs l.replay.state.parts)))
