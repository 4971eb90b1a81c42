use Rattle.std.proofs.Common.{◌≡◌, ◌<◌, ◌∙◌, ap, sym, subst, length, slice_get, Some}
use Rattle.bench_run.specs.Entries.{index_of}
use Rattle.bench_run.specs.Writer.{IsTakenBy}
use Rattle.bench_run.proofs.Logged.{has_place}
use Rattle.bench_run.proofs.writer.Log.put.Goals as goal

pub returns-in-Message-clause-goes_on : goal.returns-in-Message-clause-goes_on
returns-in-Message-clause-goes_on g c =
    let place : c.from-index.result ≡ index_of c.args.entry.now = c.from-index.ensures ∙ c.tag.ensures in
    rw (← place, c.in-Message.is, ← c.from.ensures) c.keep.ensures.goes_on

pub returns-in-End-clause-goes_on : goal.returns-in-End-clause-goes_on
returns-in-End-clause-goes_on g c =
    let place : c.from-index.result ≡ index_of c.args.entry.now = c.from-index.ensures ∙ c.tag.ensures in
    rw (← place, c.in-End.is) c.end.ensures.goes_on

pub returns-in-End-clause-when : goal.returns-in-End-clause-when
returns-in-End-clause-when g c = λ h low takes.
    let held = c.args.self.now.recorder.held in
    let at : slice_get held c.in-End.index ≡ Some h = subst (λ x. IsTakenBy held x h) c.in-End.is takes in
    let place : c.from-index.result ≡ c.in-End.index = c.from-index.ensures ∙ c.tag.ensures ∙ ap index_of c.in-End.is in
    c.end.ensures.when (subst (λ i. i < length held) (sym place) (has_place held c.in-End.index h at))
