use Rattle.std.proofs.Common.{◌≡◌, ◌+◌, true, ap, arith, subst, sym, ◌∙◌, refl}
use Rattle.std.specs.List.{list_all}
use Rattle.frame_asm.specs.Shapes.{code_of_tree}
use Rattle.frame_load.specs.Budget.{worst_messages}
use Rattle.frame_tree.specs.Bounds.{IsSound}
use Rattle.job_file.specs.JobRanges.{may_act, IsFitTimed}
use Rattle.job_file.specs.Jobs.{JobState, job_in, own_inserts, tree_in}
use Rattle.job_file.specs.Meaning.{records}
use Rattle.job_file.specs.Timed.{at_beginning, says_nothing}
use Rattle.job_file.specs.TimedLines.{timed_inserts}
use Rattle.job_file.proofs.BeginLemmas.{within_at_start, acts_few, acts_fit, job_gives, records_give}
use Rattle.job_file.proofs.resolving.resolve.Goals as goal

pub by_number-requires-clause-acts : goal.by_number-requires-clause-acts
by_number-requires-clause-acts c =
    let base = c.args.base in
    let is = c.in-Ok.ensures in
    let most = own_inserts base.actions + timed_inserts base.timed.whens in
    acts_fit (job_in base) base.timed is.last.machine c.in-Ok.actions c.in-Ok.plan is.end is.acts is.plans base.addresses most is.last.left
    (is.within base.addresses most (within_at_start (at_beginning (job_in base) base.timed) base base.timed most refl (subst (λ (b : JobState). list_all (may_act b.addresses) b.actions ≡ true) c.base.view_is c.base.invariant.actions) (subst (λ (b : JobState). IsFitTimed b.addresses b.timed) c.base.view_is c.base.invariant.timed) (omega arith)))

pub by_number-requires-clause-few : goal.by_number-requires-clause-few
by_number-requires-clause-few c =
    let base = c.args.base in
    let is = c.in-Ok.ensures in
    let most = own_inserts base.actions + timed_inserts base.timed.whens in
    acts_few (job_in base) base.timed is.last.machine c.in-Ok.actions c.in-Ok.plan is.end is.acts is.plans base.addresses most (worst_messages (code_of_tree (tree_in base)).operations) is.last.left
    (is.within base.addresses most (within_at_start (at_beginning (job_in base) base.timed) base base.timed most refl (subst (λ (b : JobState). list_all (may_act b.addresses) b.actions ≡ true) c.base.view_is c.base.invariant.actions) (subst (λ (b : JobState). IsFitTimed b.addresses b.timed) c.base.view_is c.base.invariant.timed) (omega arith))) c.requires.few

pub returns-in-Ok-clause-job : goal.returns-in-Ok-clause-job
returns-in-Ok-clause-job c =
    let base = c.args.base in
    let is = c.in-Ok.ensures in
    ap job_in c.by_number.ensures
    ∙ job_gives (job_in base) base.timed is.last.machine c.in-Ok.actions c.in-Ok.plan is.end is.acts is.plans (ap says_nothing (sym c.timed.ensures.value) ∙ sym c.is_empty.ensures ∙ c.if-is_empty.false)

pub returns-in-Ok-clause-records : goal.returns-in-Ok-clause-records
returns-in-Ok-clause-records c says =
    let base = c.args.base in
    let is = c.in-Ok.ensures in
    records_give (job_in base) base.timed is.last.machine c.in-Ok.actions c.in-Ok.plan is.end is.acts is.plans c.job_runs.ensures.whole (subst (λ (b : JobState). IsSound (tree_in b)) c.base.view_is c.base.invariant.program_is.sound) is.under_way is.ended
    ∙ ap (λ (j : JobState). records (job_in j) j.actions) (sym c.by_number.ensures)
