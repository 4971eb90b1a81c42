use Rattle.std.proofs.Common.{◌≡◌, Option, Some, None, ap, sym, ◌∙◌, subst}
use Rattle.std.specs.Prelude.{slice_get, OnOk}
use Rattle.std.specs.Io.KnownBytes.{Appends}
use Rattle.std.specs.Option.{option_copied}
use Rattle.signal_dictionary.specs.declared.signals.Signal.{Signal}
use Rattle.bench_dump.proofs.Steps.{appends_nothing}
use Rattle.bench_signals.specs.FigureText.{signal_text}
use Rattle.bench_signals.specs.Figures.{said_by}
use Rattle.bench_signals.proofs.Printed.{signal_at}
use Rattle.bench_signals.proofs.printing.print_figure.Goals as goal

pub returns-in-Some : goal.returns-in-Some
returns-in-Some g c =
    let there : Some c.in-Some.signal.now ≡ slice_get c.args.signals.now c.args.figure.now.signal = sym (ap (λ o. option_copied o) c.in-Some.is) ∙ signal_at c.args.signals.now c.args.figure.now.signal c.get.result c.get.ensures.lookup in
    subst (λ (o : Option Signal). OnOk c.print_signal.result (Appends (g.W.Write.contents c.args.out.now) (g.W.Write.contents c.print_signal.new.out) (signal_text c.args.rows (said_by c.args.figure.now) o))) there c.print_signal.ensures

pub returns-in-None : goal.returns-in-None
returns-in-None g c =
    let none : None ≡ slice_get c.args.signals.now c.args.figure.now.signal = sym (ap (λ o. option_copied o) c.in-None.is) ∙ signal_at c.args.signals.now c.args.figure.now.signal c.get.result c.get.ensures.lookup in
    subst (λ (o : Option Signal). Appends (g.W.Write.contents c.args.out.now) (g.W.Write.contents c.args.out.now) (signal_text c.args.rows (said_by c.args.figure.now) o)) none (appends_nothing (g.W.Write.contents c.args.out.now))
