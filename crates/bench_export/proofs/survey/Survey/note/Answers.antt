use Rattle.bench_export.proofs.Surveying.{one_noted}
use Rattle.bench_export.proofs.survey.Survey.note.Goals as goal

pub returns-clause-noted : goal.returns-clause-noted
returns-clause-noted c cs s =
    rw (c.mark.ensures.marked, c.lower.ensures)
    (one_noted c.args.self.now.marks.items c.args.self.now.least c.args.self.now.newest c.args.self.now.lag c.larger-self.result c.larger-self-2.result cs c.args.change.now c.requires
    c.larger-self.ensures.one (rw c.saturating_sub.ensures at c.larger-self.ensures.other) c.larger-self-2.ensures.one c.larger-self-2.ensures.other s)
