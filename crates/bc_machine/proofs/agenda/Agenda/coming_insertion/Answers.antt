use Rattle.std.proofs.Common.{◌+◌, length, sym, subst, arith}
use Rattle.bc_machine.specs.Schedules.{MayControl}
use Rattle.bc_machine.proofs.Queued.{next_none, next_is, next_full, none_asked}
use Rattle.bc_machine.proofs.agenda.Agenda.coming_insertion.Goals as goal

pub returns-then-not-has_controls : goal.returns-then-not-has_controls
returns-then-not-has_controls c =
    let s = c.args.self.now in
    sym (next_none c.args.most s.placed s.made (none_asked (length s.made + 1) s.placed s.made (subst (λ b. MayControl b s.placed) c.if-not-has_controls.true c.has_controls.ensures)))

pub returns-then-from-most : goal.returns-then-from-most
returns-then-from-most c =
    let s = c.args.self.now in
    next_full c.args.most s.placed s.made (omega (arith, c.if-from-most.true, c.from.ensures, c.inserted.ensures))

pub returns-in-Some : goal.returns-in-Some
returns-in-Some c =
    let s = c.args.self.now in
    next_is c.args.most s.placed s.made c.at.result (omega (arith, c.if-from-most.false, c.from.ensures, c.inserted.ensures)) c.at.ensures

pub returns-in-None : goal.returns-in-None
returns-in-None c = let s = c.args.self.now in sym (next_none c.args.most s.placed s.made c.in-None.ensures.none)
