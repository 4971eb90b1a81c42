use Rattle.std.proofs.Common.{◌≡◌}
use Rattle.bench_decode.specs.declared.line.Shown.TheVariants.{Plain}
use Rattle.bench_decode.specs.Waiting.{no_lines}
use Rattle.bench_step.proofs.GoingOn.{IsGoingOn}
use Rattle.bench_step.proofs.sessions.answer_all.Given as goal

-- the lines so far were answered, none of them ends the session, and no line that was decoded waits
abbrev pub invariant-lines : goal.invariant-lines
invariant-lines g l = record {
  on : IsGoingOn l.fn.session.manner l.fn.session.debugger l.session.debugger (g.R.Read.remaining l.fn.input) (g.R.Read.remaining l.input) (g.W.Write.contents l.fn.out) (g.W.Write.contents l.out) l.refused;
  manner : l.session.manner ≡ l.fn.session.manner;
  waits : l.decoded ≡ no_lines Plain;
}
