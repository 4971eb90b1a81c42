use Rattle.std.proofs.Common.{◌+◌, length, sym, subst, arith}
use Rattle.bc_machine.specs.Schedules.{MayControl}
use Rattle.bc_machine.proofs.Queued.{next_none, next_is, next_full, none_asked}
use Rattle.bc_machine.proofs.agenda.Agenda.next_insertion.Goals as goal

pub returns-then-not-has_controls-clause-value : goal.returns-then-not-has_controls-clause-value
returns-then-not-has_controls-clause-value c =
    let s = c.args.self.now in
    sym (next_none c.args.most s.placed s.made (none_asked (length s.made + 1) s.placed s.made (subst (λ b. MayControl b s.placed) c.if-not-has_controls.true c.has_controls.ensures)))

pub returns-then-from-most-clause-value : goal.returns-then-from-most-clause-value
returns-then-from-most-clause-value c =
    let s = c.args.self.now in
    next_full c.args.most s.placed s.made (omega (arith, c.if-from-most.true, c.from.ensures, c.inserted.ensures))

pub returns-in-Some-clause-value : goal.returns-in-Some-clause-value
returns-in-Some-clause-value c =
    let s = c.args.self.now in
    next_is c.args.most s.placed s.made c.at-next.result (omega (arith, c.if-from-most.false, c.from.ensures, c.inserted.ensures)) c.at-next.ensures

pub returns-in-None-clause-value : goal.returns-in-None-clause-value
returns-in-None-clause-value c = let s = c.args.self.now in sym (next_none c.args.most s.placed s.made c.in-None.ensures.none)
