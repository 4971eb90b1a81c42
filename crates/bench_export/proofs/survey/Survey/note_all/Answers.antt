use Rattle.std.proofs.Common.{◌≡◌, ◌+◌, List, [], ◌∷◌, ◌++◌, length, get_or, take, ap, sym, subst, ◌∙◌, append_assoc, append-nil, arith}
use Rattle.std.proofs.lemmas.List.{take_all, take_more}
use Rattle.bench_export.specs.Merging.{IsSurvey}
use Rattle.bench_export.specs.declared.changes.Change.{Change}
use Rattle.bench_export.proofs.survey.Survey.note_all.Goals as goal

pub changes-init : goal.changes-init
changes-init c = record {
  many = c.requires;
  noted = λ cs s. subst (IsSurvey c.args.self.now.marks.items c.args.self.now.least c.args.self.now.newest c.args.self.now.lag) (sym (append-nil cs)) s;
}

pub changes-preserved : goal.changes-preserved
changes-preserved c =
    let xs = c.args.changes.now in
    let i = c.changes.change-index in
    record {
      many = c.note.ensures.many;
      noted = λ cs s.
          subst (IsSurvey c.note.new.self.marks.items c.note.new.self.least c.note.new.self.newest c.note.new.self.lag)
          (append_assoc cs (take i xs) _ ∙ ap (λ (l : List Change). cs ++ l) (sym (take_more xs i _ c.changes-test.true)))
          (c.note.ensures.noted (cs ++ take i xs) (c.changes.invariant.noted cs s));
    }

pub returns-clause-noted : goal.returns-clause-noted
returns-clause-noted c cs s =
    subst (λ (l : List Change). IsSurvey c.changes.self.marks.items c.changes.self.least c.changes.self.newest c.changes.self.lag (cs ++ l))
    (take_all c.changes.change-index c.args.changes.now (omega (arith, c.changes-test.false))) (c.changes.invariant.noted cs s)
