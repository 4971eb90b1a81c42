use Rattle.std.proofs.Common.{◌<◌, ◌∙◌, ◌++◌, List, length, ap, arith}
use Rattle.std.specs.Prelude.{map}
use Rattle.bench_signals.specs.Figures.{figures_from, said_by}
use Rattle.bench_signals.specs.declared.figures.SignalFigures.{SignalFigures}
use Rattle.bench_signals.proofs.Listed.{all_channels, from_end, from_more}
use Rattle.bench_signals.proofs.Parts.{is_there}
use Rattle.bench_signals.proofs.counting.Counting.figures_of.Goals as goal

pub signals-init : goal.signals-init
signals-init c = λ selection history are. ap (λ (fs : List SignalFigures). map said_by fs ++ figures_from selection history 0 c.args.signals.now) c.new-figures.ensures.items

pub signals-preserved : goal.signals-preserved
signals-preserved c = λ selection history are.
    let signals = c.args.signals.now in
    let i = c.signals.index in
    let within : i < length signals = omega arith in
    let one = is_there signals i within in
    let so_far = map said_by c.signals.figures.items in
    let more = map said_by c.push_signal.new.figures.items in
    from_more selection history signals i one.0 so_far more _ one.1
    (all_channels selection signals history c.args.self.now i one.0 c.as_slice.result.now so_far more are one.1 (c.as_slice.ensures.value ∙ c.in_ok-channels.ensures) c.in_ok-push_signal.ensures)
    (c.signals.invariant selection history are)

pub returns : goal.returns
returns c = λ selection history are.
    from_end selection history c.args.signals.now c.signals.index (map said_by c.signals.figures.items) _ (omega arith) (c.signals.invariant selection history are)
