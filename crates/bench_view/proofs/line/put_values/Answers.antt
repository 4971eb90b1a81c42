use Rattle.std.proofs.Common.{◌≡◌, ◌<◌, ◌∙◌, length, ap, sym, arith}
use Rattle.std.specs.Prelude.{Some, slice_get}
use Rattle.std.proofs.lemmas.Option.{slice_get-get_or}
use Rattle.signal_dictionary.specs.declared.signals.Signal.{Signal}
use Rattle.bench_view.proofs.Lettering.{values_more}
use Rattle.bench_view.proofs.line.put_values.Goals as goal

pub signals-preserved : goal.signals-preserved
signals-preserved c =
    let i = c.signals.index in
    let s = c.index-signals-index.result in
    let within : i < length c.args.signals.now = omega arith in
    let there : slice_get c.args.signals.now i ≡ Some s = slice_get-get_or c.args.signals.now i s within ∙ ap (λ (x : Signal). Some x) (sym c.index-signals-index.is) in
    values_more c.signals.text.items c.put_value.new.text.items _ c.args.signals.now i c.args.channel s c.args.view.now there c.in_ok-put_value.ensures c.signals.invariant
