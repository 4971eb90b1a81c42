use Rattle.std.proofs.Common.{ap, sym, ◌∙◌}
use Rattle.std.specs.Prelude.{Option, unwrap_or}
use Rattle.bench_report.specs.Reports.{RunReport}
use Rattle.bench_report.proofs.Taken.{made}
use Rattle.bench_report.proofs.laws.text_spells_one_report.Goals as goal

pub returns : goal.returns
returns c text one other is_one is_other spells_one spells_other =
    ap (λ (r : Option RunReport). unwrap_or r one) (sym (made text one is_one spells_one) ∙ made text other is_other spells_other)
