use Rattle.std.proofs.Common.{sym, subst}
use Rattle.controller_host.specs.Sources.{SourcesState}
use Rattle.bc_machine.specs.Agendas.{AgendaState, StandsForSources}
use Rattle.bc_machine.proofs.Kept.{all_of}
use Rattle.bc_machine.proofs.agenda.Agenda.sources.Goals as goal

pub returns : goal.returns
returns c =
    subst (λ (s : AgendaState). StandsForSources c.sources.result.now.rows s.placed s.made) c.self.view_is
    (subst (λ (s : SourcesState). StandsForSources s.rows (all_of c.self.inside) c.self.inside.made) (sym c.sources.ensures) c.self.invariant.sources)
