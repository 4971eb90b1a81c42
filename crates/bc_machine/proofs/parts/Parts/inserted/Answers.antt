use Rattle.std.proofs.Common.{◌≡◌, None, sym, ap, subst, ◌∙◌}
use Rattle.bc_machine.specs.Coming.{ComesInserted}
use Rattle.bc_machine.specs.Hosting.{next_insertion}
use Rattle.bc_machine.specs.Running.{MachineState, most_inserted}
use Rattle.bc_machine.proofs.Coming.{about_inserted}
use Rattle.bc_machine.proofs.parts.Parts.inserted.Goals as goal

pub returns-in_default-clause-comes : goal.returns-in_default-clause-comes
returns-in_default-clause-comes c =
    let m = c.args.self.now in
    let a = c.self.inside.agenda in
    let next : c.coming_insertion.result ≡ next_insertion m.placed (most_inserted m.code) m.made =
    c.coming_insertion.ensures ∙ ap (λ k. next_insertion a.placed k a.made) c.most_inserted.ensures ∙ ap (λ (z : MachineState). next_insertion z.placed (most_inserted m.code) z.made) c.self.view_is in
    subst (λ o. ComesInserted m o None) (sym c.in_default.is ∙ next) tt

pub returns-clause-comes : goal.returns-clause-comes
returns-clause-comes c =
    let m = c.args.self.now in
    let a = c.self.inside.agenda in
    let x = c.in-Some.insertion in
    let next : c.coming_insertion.result ≡ next_insertion m.placed (most_inserted m.code) m.made =
    c.coming_insertion.ensures ∙ ap (λ k. next_insertion a.placed k a.made) c.most_inserted.ensures ∙ ap (λ (z : MachineState). next_insertion z.placed (most_inserted m.code) z.made) c.self.view_is in
    about_inserted m x (next_insertion m.placed (most_inserted m.code) m.made) c.in_ok-upcoming.upcoming c.tick.result c.line.result c.message.result.now (sym next ∙ c.in-Some.is)
    c.tick.ensures.value c.line.ensures c.message.ensures.value c.in_ok-upcoming.ensures.bus c.in_ok-upcoming.ensures.gap c.in_ok-upcoming.ensures.talk c.in_ok-upcoming.ensures.inserted
