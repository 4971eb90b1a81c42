use Rattle.std.proofs.Common.{length, arith}
use Rattle.std.proofs.lemmas.Option.{slice_get-get_or}
use Rattle.frame_code.specs.declared.Op.TheVariants.{Halt}
use Rattle.frame_code.specs.Routines.{owner_at}
use Rattle.frame_load.proofs.Opened.{routine_le, routines_are}
use Rattle.frame_load.proofs.Marks.{more_marks}
use Rattle.frame_load.proofs.Owners.{next_owner}
use Rattle.frame_load.proofs.routines.number.Goals as goal

pub overflow_cast-numbers : goal.overflow_cast-numbers
overflow_cast-numbers c =
    let os = c.args.operations.now in
    omega (arith, c.loop-i.invariant.number, routine_le os c.loop-i.i (length os) (omega (arith, c.loop-i-test.true)), routines_are os, c.requires.few)

pub loop-i-preserved : goal.loop-i-preserved
loop-i-preserved c =
    let os = c.args.operations.now in
    let i = c.loop-i.i in
    let x = next_owner os i _ c.loop-i.routine c.next_routine-routine.result (slice_get-get_or os i Halt c.loop-i-test.true) c.loop-i.invariant.number c.next_routine-routine.ensures in
    record {
      number = x.0;
      so_far = more_marks (owner_at os) c.loop-i.numbers i c.loop-i.routine (omega arith) c.loop-i.invariant.so_far c.loop-i.invariant.number;
    }
