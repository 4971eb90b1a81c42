use Rattle.std.proofs.Common.{◌≡◌, get_or, Some, refl, sym, ap, ◌∙◌, ⊎_elim, arith}
use Rattle.std.specs.Prelude.{slice_get}
use Rattle.std.proofs.lemmas.Bool.{cases_lt}
use Rattle.frame_code.specs.declared.Op.TheVariants.{Halt}
use Rattle.frame_code.specs.Loadable.{GoesWell}
use Rattle.frame_load.proofs.Opened.{within}
use Rattle.frame_load.proofs.Marks.{op_at}
use Rattle.std.proofs.Common.{subst}
use Rattle.std.specs.Prelude.{IsTrue}
use Rattle.frame_load.proofs.Marks.{is_true, not_true}
use Rattle.frame_load.proofs.checks.all_go_well.Goals as goal

pub returns-then-not-goes_well : goal.returns-then-not-goes_well
returns-then-not-goes_well c =
    let os = c.args.operations.now in
    let i = c.loop-i.i in
    let at : slice_get os i ≡ Some (get_or os i Halt) = op_at os i Halt _ c.loop-i-test.true refl in
    let k = c.goes_well.ensures (get_or os i Halt) at in
    (λ n. absurd (not_true n), λ all. subst IsTrue c.if-not-goes_well.true (k.1 (all i (get_or os i Halt) at)))

pub loop-i-preserved : goal.loop-i-preserved
loop-i-preserved c = λ p o h at.
    let os = c.args.operations.now in
    ⊎_elim (λ lt. c.loop-i.invariant p o lt at)
    (λ le. let same : p ≡ c.loop-i.i = omega (arith, h, le) in
    let here : slice_get os c.loop-i.i ≡ Some o = ap (slice_get os) (sym same) ∙ at in
    subst (λ q. GoesWell os q o) (sym same) ((c.goes_well.ensures o here).0 (subst IsTrue (sym c.if-not-goes_well.false) is_true))) (cases_lt p c.loop-i.i)

pub returns : goal.returns
returns c = (λ y p o at. c.loop-i.invariant p o (omega (arith, within c.args.operations.now p o at)) at, λ all. is_true)
