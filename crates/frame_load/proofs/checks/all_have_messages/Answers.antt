use Rattle.std.proofs.Common.{◌≡◌, get_or, Some, refl, sym, ap, ◌∙◌, ⊎_elim, arith}
use Rattle.std.specs.Prelude.{slice_get}
use Rattle.std.proofs.lemmas.Bool.{cases_lt}
use Rattle.frame_code.specs.declared.Op.TheVariants.{Halt}
use Rattle.frame_code.specs.Loadable.{HasMessage}
use Rattle.frame_load.proofs.Opened.{within}
use Rattle.frame_load.proofs.Marks.{op_at}
use Rattle.std.proofs.Common.{subst}
use Rattle.std.specs.Prelude.{IsTrue, ◌↔◌}
use Rattle.frame_load.proofs.Marks.{is_true, not_true}
use Rattle.frame_load.proofs.checks.all_have_messages.Goals as goal

pub returns-then-not-has_message : goal.returns-then-not-has_message
returns-then-not-has_message c =
    let os = c.args.operations.now in
    let i = c.loop-op.op-index in
    let at : slice_get os i ≡ Some (get_or os i Halt) = op_at os i Halt _ c.loop-op-test.true refl in
    let k = c.has_message.ensures in
    (λ n. absurd (not_true n), λ all. subst IsTrue c.if-not-has_message.true (k.1 (all i (get_or os i Halt) at)))

pub loop-op-preserved : goal.loop-op-preserved
loop-op-preserved c = λ p o h at.
    let os = c.args.operations.now in
    ⊎_elim (λ lt. c.loop-op.invariant p o lt at)
    (λ le. let same : p ≡ c.loop-op.op-index = omega (arith, h, le) in
    let here : slice_get os c.loop-op.op-index ≡ Some o = ap (slice_get os) (sym same) ∙ at in
    subst (λ q. HasMessage c.args.count o) (sym same) ((subst (λ x. IsTrue c.has_message.result ↔ HasMessage c.args.count x) (let two : Some (get_or os c.loop-op.op-index Halt) ≡ Some o = sym (op_at os c.loop-op.op-index Halt _ c.loop-op-test.true refl) ∙ here in cc) c.has_message.ensures).0 (subst IsTrue (sym c.if-not-has_message.false) is_true))) (cases_lt p c.loop-op.op-index)

pub returns : goal.returns
returns c = (λ y p o at. c.loop-op.invariant p o (omega (arith, within c.args.operations.now p o at)) at, λ all. is_true)
