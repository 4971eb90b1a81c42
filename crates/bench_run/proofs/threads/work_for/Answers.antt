use Rattle.std.proofs.Common.{◌≤◌, subst}
use Rattle.std.specs.Prelude.{vec_capacity}
use Rattle.bench_run.proofs.threads.work_for.Goals as goal

pub returns-clause-capacity : goal.returns-clause-capacity
returns-clause-capacity c = subst (λ k. k ≤ vec_capacity c.in_ok-refused.refused) c.most_items.ensures.value c.in_ok-refused.ensures.capacity
