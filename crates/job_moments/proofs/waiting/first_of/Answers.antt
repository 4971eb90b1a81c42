use Rattle.std.proofs.Common.{sym, subst, ◌∙◌, take, arith}
use Rattle.std.proofs.lemmas.List.{take_all}
use Rattle.std.proofs.lemmas.List.Elements.{All-more, All-same}
use Rattle.job_moments.specs.Awaiting.{IsStill}
use Rattle.job_moments.proofs.waiting.first_of.Goals as goal

pub loop-place-preserved : goal.loop-place-preserved
loop-place-preserved g c =
    let still = IsStill c.args.counts.now.made c.args.next.now in
    All-more still c.args.lines.now c.loop-place.place c.index-lines-place.result c.loop-place-test.true c.loop-place.invariant
    (subst still c.index-lines-place.is (sym c.is_due.ensures ∙ c.if-is_due.false))

pub returns : goal.returns
returns g c =
    let lines = c.args.lines.now in
    All-same (IsStill c.args.counts.now.made c.args.next.now) lines (take c.loop-place.place lines)
    (sym (take_all c.loop-place.place lines (omega (arith, c.loop-place-test.false)))) c.loop-place.invariant
