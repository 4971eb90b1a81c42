use Rattle.std.proofs.Common.{true≢false, sym, ◌∙◌}
use Rattle.bench_run.proofs.Courses.{is_so, is_not}
use Rattle.bench_run.proofs.threads.goes_beside.Goals as goal

pub returns-then-not-is_live : goal.returns-then-not-is_live
returns-then-not-is_live c = record {
  yes = λ e. absurd (true≢false (sym e));
  no = λ e live. absurd (true≢false (sym live ∙ c.if-not-is_live.true));
}

pub returns : goal.returns
returns c = record {
  yes = λ e. (c.if-not-is_live.false, is_not _ (sym c.has_moments.ensures ∙ e));
  no = λ e live. is_so _ (sym c.has_moments.ensures ∙ e);
}
