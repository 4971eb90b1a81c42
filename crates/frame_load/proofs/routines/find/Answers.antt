use Rattle.std.proofs.Common.{◌≡◌, ◌≢◌, ◌+◌, ◌<◌, Some, length, get_or, sym, ap, ◌∙◌, subst, arith}
use Rattle.std.proofs.lemmas.Option.{slice_get-get_or}
use Rattle.std.proofs.lemmas.List.{get_or-set_other}
use Rattle.frame_code.specs.declared.Op.TheVariants.{Halt}
use Rattle.frame_code.specs.Routines.{owner_at}
use Rattle.frame_load.proofs.Opened.{routine_le, routines_are}
use Rattle.frame_load.proofs.Owners.{up_owner, same_owner, one_start, no_start, starts_are, StartsSoFar}
use Rattle.frame_load.proofs.routines.find.Goals as goal
use Rattle.frame_load.proofs.routines.find.Goals.{in-Return, in_default}

pub overflow_add-routine : goal.overflow_add-routine
overflow_add-routine c =
    let os = c.args.operations.now in
    let i = c.loop-i.i in
    omega (arith, c.loop-i.invariant.number, up_owner os i (slice_get-get_or os i Halt c.loop-i-test.true ∙ ap Some c.in-Return.is), routine_le os (i + 1) (length os) (omega (arith, c.loop-i-test.true)), routines_are os, c.requires.few)

pub bounds-starts-routine : goal.bounds-starts-routine
bounds-starts-routine c =
    let os = c.args.operations.now in
    let i = c.loop-i.i in
    omega (arith, c.loop-i.invariant.number, up_owner os i (slice_get-get_or os i Halt c.loop-i-test.true ∙ ap Some c.in-Return.is), routine_le os (i + 1) (length os) (omega (arith, c.loop-i-test.true)), routines_are os, c.requires.few)

pub loop-i-preserved : goal.loop-i-preserved
loop-i-preserved c =
    let os = c.args.operations.now in
    let i = c.loop-i.i in
    let g = c.loop-i.invariant in
    let at = slice_get-get_or os i Halt c.loop-i-test.true in
    elim c.match-operations-i.branch [
      | in-Return w ↦
          let here = at ∙ ap Some w.in-Return.is in
          let few : c.loop-i.routine + 1 < length c.loop-i.starts = omega (arith, c.match-operations-i.array_long, g.number, up_owner os i here, routine_le os (i + 1) (length os) (omega (arith, c.loop-i-test.true)), routines_are os, c.requires.few) in
          let apart : 0 ≢ c.loop-i.routine + 1 = λ e. omega (arith, e) in
          record {
            number = w.routine-is ∙ (omega (arith, g.number, up_owner os i here));
            first = ap (λ xs. get_or xs 0 0) w.starts-is ∙ get_or-set_other c.loop-i.starts (c.loop-i.routine + 1) 0 (i + 1) 0 apart ∙ g.first;
            so_far = subst (λ xs. StartsSoFar os (i + 1) xs) (sym w.starts-is) (one_start os i c.loop-i.routine c.loop-i.starts here g.number few g.so_far);
          }
      | in_default w ↦ record {
        number = w.routine-is ∙ g.number ∙ sym (same_owner os i _ at (λ e. w.in_default.not-Return e));
        first = ap (λ xs. get_or xs 0 0) w.starts-is ∙ g.first;
        so_far = subst (λ xs. StartsSoFar os (i + 1) xs) (sym w.starts-is) (no_start os i _ c.loop-i.starts at (λ e. w.in_default.not-Return e) g.so_far);
      }
    ]

pub returns-clause-starts : goal.returns-clause-starts
returns-clause-starts c =
    let os = c.args.operations.now in
    let all : c.loop-i.i ≡ length os = omega arith in
    starts_are os c.loop-i.starts c.loop-i.invariant.first (subst (λ k. StartsSoFar os k c.loop-i.starts) all c.loop-i.invariant.so_far)

pub returns-clause-number : goal.returns-clause-number
returns-clause-number c =
    let os = c.args.operations.now in
    let all : c.loop-i.i ≡ length os = omega arith in
    c.loop-i.invariant.number ∙ ap (owner_at os) all ∙ sym (routines_are os)
