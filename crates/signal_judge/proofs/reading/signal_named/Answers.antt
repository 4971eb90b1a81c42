use Rattle.std.proofs.Common.{◌≡◌, ◌<◌, ◌∙◌, add-one, ap, arith, length, sym}
use Rattle.std.specs.Prelude.{Some, slice_get}
use Rattle.std.proofs.lemmas.Option.{slice_get-get_or}
use Rattle.signal_dictionary.specs.declared.signals.Signal.{Signal}
use Rattle.signal_judge.proofs.Named.{named_end, named_here, named_next}
use Rattle.signal_judge.proofs.reading.signal_named.Goals as goal

pub loop-signal-preserved : goal.loop-signal-preserved
loop-signal-preserved c =
    let i = c.loop-signal.signal-index in
    let within : i < length c.args.signals.now = omega arith in
    let at : slice_get c.args.signals.now i ≡ Some c.signal-item.result =
    slice_get-get_or c.args.signals.now i c.signal-item.result within ∙ ap (λ (s : Signal). Some s) (sym c.signal-item.is) in
    rw add-one (c.loop-signal.invariant ∙ named_next c.args.signals.now c.args.name.now i c.signal-item.result at (sym c.is_named.ensures ∙ c.if-is_named.false))

pub returns-then-is_named : goal.returns-then-is_named
returns-then-is_named c =
    let i = c.loop-signal.signal-index in
    let within : i < length c.args.signals.now = omega arith in
    let at : slice_get c.args.signals.now i ≡ Some c.signal-item.result =
    slice_get-get_or c.args.signals.now i c.signal-item.result within ∙ ap (λ (s : Signal). Some s) (sym c.signal-item.is) in
    sym (c.loop-signal.invariant ∙ named_here c.args.signals.now c.args.name.now i c.signal-item.result at (sym c.is_named.ensures ∙ c.if-is_named.true))

pub returns : goal.returns
returns c = sym (c.loop-signal.invariant ∙ named_end c.args.signals.now c.args.name.now c.loop-signal.signal-index (omega arith))
