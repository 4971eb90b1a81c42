use Rattle.std.proofs.Common.{◌<◌, get_or, length, refl, arith}
use Rattle.std.specs.Prelude.{map}
use Rattle.std.proofs.lemmas.Option.{slice_get-get_or}
use Rattle.bench_signals.specs.Figures.{said_by}
use Rattle.bench_signals.proofs.Listed.{in_end, in_more}
use Rattle.bench_signals.proofs.counting.Counting.push_signal.Goals as goal

pub channels-init : goal.channels-init
channels-init c = refl

pub channels-preserved : goal.channels-preserved
channels-preserved c =
    let channels = c.args.channels.now in
    let k = c.channels.place in
    let within : k < length channels = omega arith in
    in_more c.args.self.now c.args.index k (get_or channels k 0) channels (map said_by c.channels.figures.items) (map said_by c.push_figures.new.figures.items) _ (slice_get-get_or channels k 0 within) c.channels.invariant c.in_ok-push_figures.ensures

pub returns : goal.returns
returns c = in_end c.args.self.now c.args.index c.channels.place c.args.channels.now (map said_by c.channels.figures.items) _ (omega arith) c.channels.invariant
