use Rattle.std.proofs.Common.{sym, ap, ◌∙◌}
use Rattle.bench_decode.specs.Waiting.{Waiting}
use Rattle.bench_decode.proofs.Drawing.{hidden-none, hidden-told}
use Rattle.bench_decode.proofs.line.TextLine.put_hidden.Goals as goal

pub returns-in-Colored-clause-put : goal.returns-in-Colored-clause-put
returns-in-Colored-clause-put c =
    hidden-told _ _ _ _ _ c.args.self.now (c.self-in-Colored.view_is ∙ c.put.ensures.put) (sym (ap (λ (w : Waiting). w.shown) c.self.view_is) ∙ c.in-Colored.is)

pub returns-in-Plain-clause-put : goal.returns-in-Plain-clause-put
returns-in-Plain-clause-put c = hidden-none _ c.args.self.now (sym (ap (λ (w : Waiting). w.shown) c.self.view_is) ∙ c.in-Plain.is)
