use Rattle.std.proofs.Common.{◌≡◌, ◌+◌, suc, get_or, Some, refl, sym, ap, ◌∙◌, subst, arith}
use Rattle.std.specs.Prelude.{IsTrue, slice_get}
use Rattle.std.proofs.lemmas.Option.{slice_get-get_or}
use Rattle.frame_code.specs.declared.Op.TheVariants.{Halt, Again}
use Rattle.frame_code.specs.Loadable.{open_at, IsPaired}
use Rattle.frame_load.specs.declared.nesting.Kind.TheVariants.{Loops}
use Rattle.frame_load.specs.Marks.{open_of, effect_of, depth_after}
use Rattle.frame_load.proofs.Opened.{within}
use Rattle.frame_load.proofs.Marks.{is_true, not_true}
use Rattle.frame_load.proofs.Counts.{some_to_close}
use Rattle.frame_load.proofs.Paired.{more, open_next, keeps_loops}
use Rattle.frame_load.proofs.nesting.all_pair.Goals as goal
use Rattle.frame_load.proofs.nesting.all_pair.Goals.{in-Loop, in-Again, in_default}

pub returns-then-not-pairs : goal.returns-then-not-pairs
returns-then-not-pairs c =
    let os = c.args.operations.now in
    let i = c.loop-i.i in
    let at = slice_get-get_or os i Halt c.loop-i-test.true in
    (λ n. absurd (not_true n), λ all. subst IsTrue c.if-not-pairs.true ((c.pairs.ensures (get_or os i Halt) at).1 (all i (get_or os i Halt) at)))

pub overflow_sub-loops : goal.overflow_sub-loops
overflow_sub-loops c =
    let os = c.args.operations.now in
    let i = c.loop-i.i in
    let at : slice_get os i ≡ Some (Again c.in-Again.field-0) = slice_get-get_or os i Halt c.loop-i-test.true ∙ ap Some c.in-Again.is in
    let pair = (c.pairs.ensures (Again c.in-Again.field-0) at).0 (subst IsTrue (sym c.if-not-pairs.false) is_true) in
    omega (arith, c.loop-i.invariant.loops_are, some_to_close os Loops (Again c.in-Again.field-0) (open_at os i) pair refl)

pub loop-i-preserved : goal.loop-i-preserved
loop-i-preserved c =
    let os = c.args.operations.now in
    let i = c.loop-i.i in
    let o = get_or os i Halt in
    let at = slice_get-get_or os i Halt c.loop-i-test.true in
    let pair = (c.pairs.ensures o at).0 (subst IsTrue (sym c.if-not-pairs.false) is_true) in
    let s : suc i ≡ i + 1 = omega arith in
    let next : open_of Loops os (i + 1) ≡ depth_after (effect_of o Loops) (open_of Loops os i) = ap (open_of Loops os) (sym s) ∙ open_next Loops os i o at pair in
    record {
      loops_are = elim c.match-operations-i.branch [
        | in-Loop w ↦ omega (arith, w.loops-is, c.loop-i.invariant.loops_are, next ∙ ap (λ v. depth_after (effect_of v Loops) (open_of Loops os i)) w.in-Loop.is)
        | in-Again w ↦ omega (arith, w.loops-is, c.loop-i.invariant.loops_are, next ∙ ap (λ v. depth_after (effect_of v Loops) (open_of Loops os i)) w.in-Again.is)
        | in_default w ↦ w.loops-is ∙ c.loop-i.invariant.loops_are ∙ sym (next ∙ keeps_loops o (open_of Loops os i) w.in_default.not-Loop w.in_default.not-Again)
      ];
      few = elim c.match-operations-i.branch [
        | in-Loop w ↦ omega (arith, w.loops-is, c.loop-i.invariant.few)
        | in-Again w ↦ omega (arith, w.loops-is, c.loop-i.invariant.few)
        | in_default w ↦ omega (arith, w.loops-is, c.loop-i.invariant.few)
      ];
      so_far = λ p o' h e. more os (λ q. IsPaired os (open_at os q)) i o at pair c.loop-i.invariant.so_far p o' (omega (arith, h)) e;
    }

pub returns : goal.returns
returns c = (λ y p o at. c.loop-i.invariant.so_far p o (omega (arith, within c.args.operations.now p o at)) at, λ all. is_true)
