use Rattle.bench_judge.proofs.Missing.{told-full, told-one, told-same}
use Rattle.std.proofs.Common.{◌<◌, ◌∙◌, sym, arith}
use Rattle.bench_judge.proofs.telling.tell_one.Goals as goal

pub returns-then-left-eq0 : goal.returns-then-left-eq0
returns-then-left-eq0 c = λ packets most t. told-full c.args.skips.now c.args.rule.now most packets c.args.packet.now _ _ t c.if-left-eq0.true

pub returns-then-not-missed : goal.returns-then-not-missed
returns-then-not-missed c = λ packets most t. told-same c.args.skips.now c.args.rule.now most packets c.args.packet.now _ _ t (sym c.misses_packet-missed.ensures ∙ c.if-not-missed.true)

pub returns : goal.returns
returns c = λ packets most t.
    let some : 0 < c.args.left = omega (arith, c.if-left-eq0.false) in
    told-one c.args.skips.now c.args.rule.now most packets c.args.packet.now c.args.text.now.items c.put_packet.new.text.items c.args.left t (sym c.misses_packet-missed.ensures ∙ c.if-not-missed.false) some c.in_ok-put_packet.ensures
