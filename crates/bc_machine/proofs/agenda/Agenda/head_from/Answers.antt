use Rattle.std.proofs.Common.{arith}
use Rattle.bc_machine.proofs.Queued.{head_there, next_number, none_behind}
use Rattle.bc_machine.proofs.agenda.Agenda.head_from.Goals as goal

pub loop-number-init : goal.loop-number-init
loop-number-init c = record { first = c.requires.cursor.first; sent = c.requires.cursor.sent }

pub returns-in-Some-clause-there : goal.returns-in-Some-clause-there
returns-in-Some-clause-there c =
    head_there c.loop-number.number c.loop-number.passed c.in-Some.place _ c.args.self.now.placed c.args.self.now.made c.loop-number.invariant.first (omega (arith, c.loop-number-test.true, c.requires.last))
    c.loop-number.invariant.sent c.in-Some.ensures.there

pub loop-number-preserved : goal.loop-number-preserved
loop-number-preserved c = record {
  first = omega (arith, c.loop-number.invariant.first);
  sent = next_number (record { number = c.loop-number.number; passed = c.loop-number.passed }) c.args.self.now.placed c.loop-number.invariant.first c.args.self.now.made c.loop-number.invariant.sent c.in_default.ensures.none;
}

pub returns-clause-none : goal.returns-clause-none
returns-clause-none c =
    none_behind (record { number = c.loop-number.number; passed = c.loop-number.passed }) c.args.self.now.placed c.loop-number.invariant.first _ c.args.self.now.made
    (omega (arith, c.loop-number-test.false, c.requires.last)) c.loop-number.invariant.sent
