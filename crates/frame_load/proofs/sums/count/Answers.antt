use Rattle.std.proofs.Common.{◌≡◌, ◌+◌, ◌*◌, ◌^◌, ◌<◌, ◌≤◌, min, Some, length, get_or, sym, ap, ◌∙◌, subst, arith}
use Rattle.std.proofs.lemmas.List.{length-set}
use Rattle.std.proofs.lemmas.Option.{slice_get-get_or}
use Rattle.frame_code.specs.declared.Op.TheVariants.{Halt, Return}
use Rattle.frame_load.specs.Budget.{Sums, cost_called}
use Rattle.frame_load.specs.Marks.{counted}
use Rattle.frame_load.proofs.Marks.{range_at}
use Rattle.frame_load.proofs.Shallow.{call_low, owner_low}
use Rattle.frame_load.proofs.Owners.{up_owner, same_owner, EndedSums, one_sum, no_sum, called_capped, sums_next, now_is, end_is}
use Rattle.frame_load.proofs.sums.count.Goals as goal
use Rattle.frame_load.proofs.sums.count.Goals.{in-Return, in_default}

pub cost-requires : goal.cost-requires
cost-requires c =
    let os = c.args.operations.now in
    range_at os c.loop-i.i _ c.requires.range (slice_get-get_or os c.loop-i.i Halt c.loop-i-test.true)

pub cost_called-requires : goal.cost_called-requires
cost_called-requires c = λ r e.
    let os = c.args.operations.now in
    let i = c.loop-i.i in
    omega (arith, call_low os c.requires.routines i _ (slice_get-get_or os i Halt c.loop-i-test.true) r e, owner_low os c.requires.routines i (omega (arith, c.loop-i-test.true)))

pub overflow_add-one : goal.overflow_add-one
overflow_add-one c =
    let os = c.args.operations.now in
    let i = c.loop-i.i in
    omega (arith, c.cost.ensures.small, called_capped (2 ^ 46 + 1) (omega arith) (counted c.args.what) os i c.cost_called.result _ c.loop-i.ended c.cost_called.ensures (c.requires.routines.earlier i _ (slice_get-get_or os i Halt c.loop-i-test.true)) c.loop-i.invariant.ended)

pub added-now-requires-clause-now : goal.added-now-requires-clause-now
added-now-requires-clause-now c = omega (arith, c.loop-i.invariant.now)

pub added-now-requires-clause-weight : goal.added-now-requires-clause-weight
added-now-requires-clause-weight c = omega (arith, c.requires.marked c.loop-i.i c.loop-i-test.true)

pub added-now-requires-clause-one : goal.added-now-requires-clause-one
added-now-requires-clause-one c =
    let os = c.args.operations.now in
    let i = c.loop-i.i in
    omega (arith, c.cost.ensures.small, called_capped (2 ^ 46 + 1) (omega arith) (counted c.args.what) os i c.cost_called.result _ c.loop-i.ended c.cost_called.ensures (c.requires.routines.earlier i _ (slice_get-get_or os i Halt c.loop-i-test.true)) c.loop-i.invariant.ended)

pub bounds-ended-routine : goal.bounds-ended-routine
bounds-ended-routine c =
    let os = c.args.operations.now in
    let i = c.loop-i.i in
    omega (arith, c.loop-i.invariant.number, up_owner os i (slice_get-get_or os i Halt c.loop-i-test.true ∙ ap Some c.in-Return.is), owner_low os c.requires.routines (i + 1) (omega (arith, c.loop-i-test.true)))

pub overflow_add-routine : goal.overflow_add-routine
overflow_add-routine c =
    let os = c.args.operations.now in
    let i = c.loop-i.i in
    omega (arith, c.loop-i.invariant.number, up_owner os i (slice_get-get_or os i Halt c.loop-i-test.true ∙ ap Some c.in-Return.is), owner_low os c.requires.routines (i + 1) (omega (arith, c.loop-i-test.true)))

pub loop-i-preserved : goal.loop-i-preserved
loop-i-preserved c =
    let os = c.args.operations.now in
    let i = c.loop-i.i in
    let g = c.loop-i.invariant in
    let cap = 2 ^ 46 + 1 in
    let some : 1 ≤ cap = omega arith in
    let cost = counted c.args.what in
    let at = slice_get-get_or os i Halt c.loop-i-test.true in
    let w = get_or c.args.weights.now i 0 in
    let mark = c.requires.marked i c.loop-i-test.true in
    let o = get_or os i Halt in
    let k = called_capped cap some cost os i c.cost_called.result o c.loop-i.ended c.cost_called.ensures (c.requires.routines.earlier i o at) g.ended in
    let sum : c.added-now.result ≡ min (c.loop-i.now + w * (cost o + c.cost_called.result)) cap = omega (arith, c.added-now.ensures, ap (λ z. w * (z + c.cost_called.result)) c.cost.ensures.value) in
    elim c.match-op.branch [
      | in-Return v ↦
          let here = at ∙ ap Some v.in-Return.is in
          let few : c.loop-i.routine < length c.loop-i.ended = omega (arith, g.long, g.number, up_owner os i here, owner_low os c.requires.routines (i + 1) (omega (arith, c.loop-i-test.true))) in
          let none : c.cost_called.result ≡ 0 = c.cost_called.ensures ∙ ap (λ z. cost_called z c.loop-i.ended) v.in-Return.is in
          let whole = end_is cap some cost os i c.loop-i.now c.added-now.result w c.cost_called.result here g.now mark none (sum ∙ ap (λ z. min (c.loop-i.now + w * (cost z + c.cost_called.result)) cap) v.in-Return.is) in
          record {
            now = v.now-is ∙ ap (min cap) (sym (ap (λ (z : Sums). z.now) (sums_next cap some cost os i Return here)));
            long = ap length v.ended-is ∙ length-set c.loop-i.ended c.loop-i.routine c.added-now.result ∙ g.long;
            number = v.routine-is ∙ (omega (arith, g.number, up_owner os i here));
            ended = subst (λ xs. EndedSums cap some cost os (i + 1) xs) (sym v.ended-is) (one_sum cap some cost os i c.loop-i.routine c.added-now.result c.loop-i.ended here g.number few whole g.ended);
          }
      | in_default v ↦ record {
        now = v.now-is ∙ now_is cap some cost os i o c.loop-i.now c.added-now.result w c.cost_called.result at (λ e. v.in_default.not-Return e) g.now mark k sum;
        long = ap length v.ended-is ∙ g.long;
        number = v.routine-is ∙ g.number ∙ sym (same_owner os i o at (λ e. v.in_default.not-Return e));
        ended = subst (λ xs. EndedSums cap some cost os (i + 1) xs) (sym v.ended-is) (no_sum cap some cost os i o c.loop-i.ended at (λ e. v.in_default.not-Return e) g.ended);
      }
    ]
