use Rattle.std.proofs.Common.{◌≡◌, Some, sym, ap, ◌∙◌}
use Rattle.std.specs.Option.{option_map}
use Rattle.bc_machine.specs.Hosting.{next_insertion}
use Rattle.bc_machine.specs.Running.{MachineState, most_inserted}
use Rattle.bc_machine.proofs.Ahead.{inserted_in_advance}
use Rattle.bc_machine.proofs.parts.Parts.next_waiting.Goals as goal

pub returns-in-Some-clause-value : goal.returns-in-Some-clause-value
returns-in-Some-clause-value c =
    let m = c.args.self.now in
    let a = c.self.inside.agenda in
    let next : c.coming_insertion.result ≡ next_insertion m.placed (most_inserted m.code) m.made =
    c.coming_insertion.ensures ∙ ap (λ k. next_insertion a.placed k a.made) c.most_inserted.ensures ∙ ap (λ (z : MachineState). next_insertion z.placed (most_inserted m.code) z.made) c.self.view_is in
    ap Some c.next_of_host.ensures.value ∙ ap (option_map (inserted_in_advance m)) (sym c.in-Some.is ∙ next)

pub returns-in-None-clause-value : goal.returns-in-None-clause-value
returns-in-None-clause-value c =
    let m = c.args.self.now in
    let a = c.self.inside.agenda in
    let next : c.coming_insertion.result ≡ next_insertion m.placed (most_inserted m.code) m.made =
    c.coming_insertion.ensures ∙ ap (λ k. next_insertion a.placed k a.made) c.most_inserted.ensures ∙ ap (λ (z : MachineState). next_insertion z.placed (most_inserted m.code) z.made) c.self.view_is in
    ap (option_map (inserted_in_advance m)) (sym c.in-None.is ∙ next)
