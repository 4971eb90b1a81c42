use Rattle.std.proofs.Common.{◌∙◌, ap, sym, subst, Ok}
use Rattle.bench_assemble.specs.Assembled.{judged_code, IsRefusal}
use Rattle.bench_assemble.proofs.Judged.{judged_within, judged_refused}
use Rattle.bench_assemble.proofs.assembling.loaded.Goals as goal

pub returns-in-Ok-clause-program : goal.returns-in-Ok-clause-program
returns-in-Ok-clause-program c =
    let h = c.in-Ok.ensures.judged in
    judged_within c.args.image c.requires.loadable.image h.2 h.3 ∙ ap Ok (sym h.0)

pub returns-in-Err-clause-refused : goal.returns-in-Err-clause-refused
returns-in-Err-clause-refused c =
    subst (IsRefusal (judged_code c.args.image)) (sym c.told.ensures) (judged_refused c.args.image c.in-Err.why c.requires.loadable c.in-Err.ensures.judged)
