use Rattle.std.proofs.Common.{◌<◌, ◌^◌, ◌∙◌, arith, refl}
use Rattle.bench_select.specs.Viewed.{Viewed}
use Rattle.bench_judge.proofs.FirstTold.{telling-put, telling-skip}
use Rattle.bench_judge.proofs.Writing.{told}
use Rattle.bench_judge.proofs.telling.Telling.tell.Goals as goal

pub returns-in_ok-put : goal.returns-in_ok-put
returns-in_ok-put c = λ history most telling counted.
    let small : c.args.number < 2 ^ 64 = omega arith in
    let missed = rw c.in-Some.is at (c.in_ok-miss.ensures.told history telling.tallied) in
    let h : Viewed = (c.args.channel, c.args.view.now) in
    telling-put c.args.rule.now c.args.origins.now most h history c.args.self.now _ c.put.new.self _ c.before-last.result telling missed.0 (c.in_ok-miss.ensures.noted history telling.tallied (omega (arith, counted, small))) refl refl
    (missed.1 ∙ told c.args.number c.args.channel c.args.view.now history counted) (c.before-last.ensures c.args.rule.now c.args.origins.now history telling.tallied.latest) c.in_ok-put.ensures

pub returns-in_default : goal.returns-in_default
returns-in_default c = λ history most telling counted.
    let small : c.args.number < 2 ^ 64 = omega arith in
    telling-skip c.args.rule.now c.args.origins.now most (c.args.channel, c.args.view.now) history c.args.self.now _ telling
    (rw c.in_default.is at (c.in_ok-miss.ensures.told history telling.tallied)) (c.in_ok-miss.ensures.noted history telling.tallied (omega (arith, counted, small))) refl refl
