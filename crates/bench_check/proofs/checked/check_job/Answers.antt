use Rattle.std.proofs.Common.{ap, ◌∙◌, subst, length, List}
use Rattle.std.specs.Prelude.{Bool, not, ◌==◌, ◌||◌}
use Rattle.std.specs.Io.KnownBytes.{Appends}
use Rattle.bench_check.specs.declared.mistakes.Mistake.{Mistake}
use Rattle.bench_check.specs.Checked.{AreMistakesOf}
use Rattle.bench_check.specs.MistakeLines.{findings_text}
use Rattle.bench_check.proofs.checked.check_job.Goals as goal

pub returns : goal.returns
returns g c = λ spelled.
    let t = c.in_ok-tried.tried in
    let of : AreMistakesOf (c.args.way.summary || c.args.way.strict) c.args.job.now t.findings t.mistakes.items =
    subst (λ (b : Bool). AreMistakesOf b c.args.job.now t.findings t.mistakes.items) c.looks_for_all.ensures (c.in_ok-tried.ensures.found spelled) in
    record {
      found = t.findings;
      ms = t.mistakes.items;
      of = of;
      room = of.room;
      suspicious = ap not (c.is_empty.ensures ∙ ap (λ (xs : List Mistake). length xs == 0) c.as_slice-listed.ensures.value);
      between = g.W.Write.contents c.tried_in_way.new.out;
      listed = c.in_ok-tried.ensures.listed;
      text = subst (λ (xs : List Mistake). Appends (g.W.Write.contents c.tried_in_way.new.out) (g.W.Write.contents c.print_findings.new.out) (findings_text c.args.way.summary t.findings xs)) c.as_slice-listed.ensures.value c.in_ok-print_findings.ensures;
    }
