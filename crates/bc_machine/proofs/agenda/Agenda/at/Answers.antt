use Rattle.std.proofs.Common.{Some, sym, ap, ◌∙◌}
use Rattle.bc_machine.specs.Hosting.{placed_at}
use Rattle.bc_machine.proofs.Queued.{first_is, not_none}
use Rattle.bc_machine.proofs.agenda.Agenda.at.Goals as goal

pub returns-in-Some : goal.returns-in-Some
returns-in-Some c =
    let s = c.args.self.now in
    let head = c.requires.cursor in
    ap Some c.insertion.ensures
    ∙ sym (first_is c.args.head.number c.args.head.passed _ c.in-Some.inserted s.placed s.made head.first head.number head.sent c.in-Some.ensures.there)

pub returns-in-None : goal.returns-in-None
returns-in-None c =
    absurd (not_none (placed_at c.args.head.number c.args.self.now.placed) c.args.head.passed c.requires.one c.requires.there c.requires.inserts c.in-None.ensures.none)
