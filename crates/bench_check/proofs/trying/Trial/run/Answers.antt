use Rattle.std.proofs.Common.{◌≡◌, sym, ◌∙◌}
use Rattle.bench_check.specs.Trying.{HasEnded}
use Rattle.bench_check.specs.Unmet.{made}
use Rattle.bench_check.proofs.Noted.{all_unmet}
use Rattle.bench_check.proofs.trying.Trial.run.Goals as goal

pub steps-preserved : goal.steps-preserved
steps-preserved g c = (
  (c.in_ok-more.ensures.on c.if-not-more.false).tried,
  c.in_ok-more.ensures.told c.if-not-more.false _ c.steps.invariant.1,
)

pub steps-smaller : goal.steps-smaller
steps-smaller g c = (c.in_ok-more.ensures.on c.if-not-more.false).smaller

pub returns-clause-made : goal.returns-clause-made
returns-clause-made g c = (c.in_ok-more.ensures.ends c.if-not-more.true).sent

pub returns-clause-unmet : goal.returns-clause-unmet
returns-clause-unmet g c =
    let ended : HasEnded c.args.job.now c.step.new.self = c.in_ok-more.ensures.ends c.if-not-more.true in
    let all : c.number.result ≡ made c.args.job.now = c.number.ensures.value ∙ ended.sent in
    all_unmet c.args.job.now c.add_never_sent.new.unmet.items c.step.new.self.unmet.items c.plan.result.now (made c.args.job.now) c.number.result ended.unmet (sym all) all c.plan.ensures c.in_ok-add_never_sent.ensures

pub returns-clause-overruns : goal.returns-clause-overruns
returns-clause-overruns g c = (c.in_ok-more.ensures.ends c.if-not-more.true).overruns

pub returns-clause-told : goal.returns-clause-told
returns-clause-told g c = c.in_ok-more.ensures.last c.if-not-more.true _ c.steps.invariant.1
