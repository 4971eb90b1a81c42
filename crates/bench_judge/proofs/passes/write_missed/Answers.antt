use Rattle.std.proofs.Common.{◌∙◌, sym, subst}
use Rattle.std.specs.Io.KnownBytes.{Appends}
use Rattle.bench_dump.proofs.Steps.{appends_nothing}
use Rattle.bench_judge.specs.Streaming.{passed_of}
use Rattle.bench_judge.proofs.Rereading.{lines_none}
use Rattle.bench_judge.proofs.passes.write_missed.Goals as goal

pub returns-then-missed-eq0 : goal.returns-then-missed-eq0
returns-then-missed-eq0 g c file is read many =
    let got = g.W.Write.contents c.args.out.now in
    (read, subst (Appends got got) (sym (lines_none c.args.ruled.skips.now c.args.ruled.rule.now (passed_of c.args.ruled.origins.now file) (sym many ∙ c.if-missed-eq0.true))) (appends_nothing got))

pub returns : goal.returns
returns g c file is read many = c.write_each.ensures file is
