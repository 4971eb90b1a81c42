use Rattle.std.proofs.Common.{◌≡◌, ◌≤◌, length, get_or, sym, ap, ◌∙◌, subst, arith, rules}
use Rattle.std.specs.Prelude.{IsTrue}
use Rattle.std.proofs.lemmas.Option.{slice_get-get_or}
use Rattle.frame_code.specs.declared.Op.TheVariants.{Halt}
use Rattle.frame_code.specs.Routines.{routines, owner_at}
use Rattle.frame_code.specs.Loadable.{CallsEarlier}
use Rattle.frame_load.proofs.Opened.{within, routines_are}
use Rattle.frame_load.proofs.Marks.{is_true, not_true}
use Rattle.frame_load.proofs.Owners.{next_owner, more_earlier}
use Rattle.frame_load.proofs.routines.are_right.Goals as goal

pub returns-then-not-calls_well : goal.returns-then-not-calls_well
returns-then-not-calls_well c =
    let os = c.args.operations.now in
    let i = c.loop-op.op-index in
    let at = slice_get-get_or os i Halt c.loop-op-test.true in
    (λ no. not_true no, λ h. subst IsTrue c.if-not-calls_well.true (c.calls_well.ensures.1 (subst (λ k. CallsEarlier k (get_or os i Halt)) (sym c.loop-op.invariant.number) (h.earlier i (get_or os i Halt) at))))

pub loop-op-preserved : goal.loop-op-preserved
loop-op-preserved c =
    let os = c.args.operations.now in
    let i = c.loop-op.op-index in
    let at = slice_get-get_or os i Halt c.loop-op-test.true in
    let g = c.loop-op.invariant in
    let x = next_owner os i _ c.loop-op.routine c.next_routine-routine.result at g.number c.next_routine-routine.ensures in
    record {
      number = x.0;
      few = omega (arith, x.1, g.few);
      so_far = more_earlier os i _ at (subst (λ k. CallsEarlier k (get_or os i Halt)) g.number (c.calls_well.ensures.0 (subst IsTrue (sym c.if-not-calls_well.false) is_true))) g.so_far;
    }

pub returns : goal.returns
returns c =
    let os = c.args.operations.now in
    let g = c.loop-op.invariant in
    let all : c.loop-op.op-index ≡ length os = omega arith in
    let number : c.loop-op.routine ≡ routines os = g.number ∙ ap (owner_at os) all ∙ sym (routines_are os) in (
      λ yes'. record {
        few = let few : c.loop-op.routine ≤ 32 = search rules in omega (arith, number, few);
        earlier = λ p o e. g.so_far p o (omega (arith, within os p o e)) e;
      },
      λ h. let few : c.loop-op.routine ≤ 32 = omega (arith, number, h.few) in search rules,
    )
