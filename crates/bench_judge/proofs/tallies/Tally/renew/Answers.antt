use Rattle.std.proofs.Common.{ℕ, ◌∙◌, cond, sym, ap}
use Rattle.std.specs.Prelude.{◌==◌, Option, Some}
use Rattle.judge_rules.specs.declared.rules.Check.{Check}
use Rattle.bench_judge.specs.Checks.{compared, meets}
use Rattle.bench_judge.specs.Verdicts.{latest}
use Rattle.bench_judge.proofs.Latest.{latest-more, latest-none, meets-alone}
use Rattle.bench_judge.proofs.tallies.Tally.renew.Goals as goal

pub returns-in_ok-before-in-Some-clause-before : goal.returns-in_ok-before-in-Some-clause-before
returns-in_ok-before-in-Some-clause-before c = λ rule origins history same is.
    ap (λ (b : Option ℕ). meets c.args.check.now b c.args.view.now) (c.in_ok-before-in-Some.ensures.before ∙ is c.args.channel)

pub returns-in_ok-before-in-Some-clause-latest : goal.returns-in_ok-before-in-Some-clause-latest
returns-in_ok-before-in-Some-clause-latest c = λ rule origins history same sel is channel.
    let view = c.args.view.now in
    let value = c.in-Some.value in
    let has = ap (λ (k : Check). compared k view) same ∙ sym c.compared.ensures ∙ c.in-Some.is in
    c.in_ok-before-in-Some.ensures.after channel ∙ ap (λ (o : Option ℕ). cond (c.args.channel == channel) (Some value) o) (is channel) ∙ sym (latest-more rule origins (c.args.channel, view) history channel value sel has)

pub returns-in-None-clause-before : goal.returns-in-None-clause-before
returns-in-None-clause-before c = λ rule origins history same is. meets-alone c.args.check.now (latest rule origins c.args.channel history) c.args.view.now (sym c.compared.ensures ∙ c.in-None.is)

pub returns-in-None-clause-latest : goal.returns-in-None-clause-latest
returns-in-None-clause-latest c = λ rule origins history same sel is channel.
    is channel ∙ sym (latest-none rule origins (c.args.channel, c.args.view.now) history channel (ap (λ (k : Check). compared k c.args.view.now) same ∙ sym c.compared.ensures ∙ c.in-None.is))
