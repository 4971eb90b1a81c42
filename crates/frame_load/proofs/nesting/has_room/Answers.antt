use Rattle.std.proofs.Common.{◌≡◌, ◌<◌, ◌≤◌, suc, get_or, sym, ap, ◌∙◌, arith}
use Rattle.frame_code.specs.Routines.{owner_at}
use Rattle.std.proofs.lemmas.Option.{slice_get-get_or}
use Rattle.frame_code.specs.declared.Op.TheVariants.{Halt}
use Rattle.frame_code.specs.Loadable.{open_at}
use Rattle.frame_load.specs.Marks.{effect_of, peak_of, depth_after, most_of}
use Rattle.frame_load.proofs.Counts.{some_to_close, call_of, passed_by}
use Rattle.frame_load.proofs.Opened.{within}
use Rattle.frame_load.proofs.Marks.{is_true, not_true}
use Rattle.frame_load.proofs.Depths.{owner_next}
use Rattle.frame_load.proofs.Shallow.{room_of, peaks_of, call_low, owner_low}
use Rattle.frame_load.proofs.Paired.{peak_is, goes_on, goes_back}
use Rattle.frame_load.proofs.nesting.has_room.Goals as goal
use Rattle.frame_load.proofs.nesting.has_room.Goals.{in-Ends, in_default}

pub peak-requires-clause-routine : goal.peak-requires-clause-routine
peak-requires-clause-routine c = λ r e.
    let os = c.args.operations.now in
    let i = c.loop-op.op-index in
    let o = get_or os i Halt in
    let call = call_of c.args.kind o r (sym c.effect_on-effect.ensures ∙ e) in
    omega (arith, call_low os c.requires.routines i o (slice_get-get_or os i Halt c.loop-op-test.true) r call, owner_low os c.requires.routines i (omega (arith, c.loop-op-test.true)))

pub peak-requires-clause-ended : goal.peak-requires-clause-ended
peak-requires-clause-ended c = λ r e.
    let os = c.args.operations.now in
    let i = c.loop-op.op-index in
    let o = get_or os i Halt in
    let call = call_of c.args.kind o r (sym c.effect_on-effect.ensures ∙ e) in
    omega (arith, c.loop-op.invariant.ended_low r (call_low os c.requires.routines i o (slice_get-get_or os i Halt c.loop-op-test.true) r call), c.most-most.ensures.value, c.most-most.ensures.low)

pub returns-then-most-deepest : goal.returns-then-most-deepest
returns-then-most-deepest c =
    let os = c.args.operations.now in
    let kind = c.args.kind in
    let i = c.loop-op.op-index in
    let o = get_or os i Halt in
    let at = slice_get-get_or os i Halt c.loop-op-test.true in
    let peak : c.peak.result ≡ peak_of (effect_of o kind) c.loop-op.depth c.loop-op.ended = c.peak.ensures ∙ ap (λ v. peak_of v c.loop-op.depth c.loop-op.ended) c.effect_on-effect.ensures in (
      λ n. absurd (not_true n),
      λ h. absurd (omega (
        arith,
        c.if-most-deepest.true,
        c.max-deepest.ensures,
        c.most-most.ensures.value,
        c.loop-op.invariant.low,
        peak,
        peak_is kind os i o at (call_low os c.requires.routines i o at) c.loop-op.invariant,
        peaks_of os c.requires.routines kind h i o at,
      )),
    )

pub bounds-ended-routine : goal.bounds-ended-routine
bounds-ended-routine c =
    let os = c.args.operations.now in
    let i = c.loop-op.op-index in
    let o = get_or os i Halt in
    let at = slice_get-get_or os i Halt c.loop-op-test.true in
    let n = owner_next c.args.kind os i o at ∙ ap (λ v. passed_by v (owner_at os i)) (sym c.effect_on-effect.ensures ∙ c.in-Ends.is) in
    omega (arith, n, owner_low os c.requires.routines (suc i) (omega (arith, c.loop-op-test.true)), c.loop-op.invariant.routine_is)

pub overflow_add-routine : goal.overflow_add-routine
overflow_add-routine c =
    let os = c.args.operations.now in
    let i = c.loop-op.op-index in
    let o = get_or os i Halt in
    let at = slice_get-get_or os i Halt c.loop-op-test.true in
    let n = owner_next c.args.kind os i o at ∙ ap (λ v. passed_by v (owner_at os i)) (sym c.effect_on-effect.ensures ∙ c.in-Ends.is) in
    omega (arith, n, owner_low os c.requires.routines (suc i) (omega (arith, c.loop-op-test.true)), c.loop-op.invariant.routine_is)

pub next_depth-depth-requires-clause-closes : goal.next_depth-depth-requires-clause-closes
next_depth-depth-requires-clause-closes c = λ e.
    let os = c.args.operations.now in
    let i = c.loop-op.op-index in
    let o = get_or os i Halt in
    let at = slice_get-get_or os i Halt c.loop-op-test.true in
    omega (arith, c.loop-op.invariant.depth_is, some_to_close os c.args.kind o (open_at os i) (c.requires.paired i o at) (sym c.effect_on-effect.ensures ∙ e))

pub loop-op-preserved : goal.loop-op-preserved
loop-op-preserved c =
    let os = c.args.operations.now in
    let kind = c.args.kind in
    let i = c.loop-op.op-index in
    let o = get_or os i Halt in
    let at = slice_get-get_or os i Halt c.loop-op-test.true in
    let g = c.loop-op.invariant in
    let calls = call_low os c.requires.routines i o at in
    let pair = c.requires.paired i o at in
    let effect = c.effect_on-effect.ensures in
    let peak : c.peak.result ≡ peak_of (effect_of o kind) c.loop-op.depth c.loop-op.ended = c.peak.ensures ∙ ap (λ v. peak_of v c.loop-op.depth c.loop-op.ended) effect in
    let depth : c.next_depth-depth.result ≡ depth_after (effect_of o kind) c.loop-op.depth = c.next_depth-depth.ensures ∙ ap (λ v. depth_after v c.loop-op.depth) effect in
    let low : c.max-deepest.result ≤ most_of kind = omega (arith, c.if-most-deepest.false, c.most-most.ensures.value) in
    elim c.match-effect.branch [
      | in-Ends w ↦
          let ends = sym effect ∙ w.in-Ends.is in
          let n = owner_next kind os i o at ∙ ap (λ v. passed_by v (owner_at os i)) ends in
          let room : c.loop-op.routine < 32 = omega (arith, n, owner_low os c.requires.routines (suc i) (omega (arith, c.loop-op-test.true)), g.routine_is) in
          rw (w.deepest-is, w.ended-is, w.routine-is) (goes_back kind os i o at calls g pair ends room c.next_depth-depth.result c.max-deepest.result c.peak.result peak c.max-deepest.ensures low depth)
      | in_default w ↦
          rw (w.deepest-is, w.ended-is, w.routine-is) (goes_on kind os i o at calls g pair (λ e. w.in_default.not-Ends (effect ∙ e)) c.next_depth-depth.result c.max-deepest.result c.peak.result peak c.max-deepest.ensures low depth)
    ]

pub returns : goal.returns
returns c =
    let os = c.args.operations.now in
    (λ y. room_of os c.requires.routines c.args.kind (λ p o e. c.loop-op.invariant.so_far p o (omega (arith, within os p o e)) e), λ h. is_true)
