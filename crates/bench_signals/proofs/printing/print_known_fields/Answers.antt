use Rattle.std.proofs.Common.{◌++◌}
use Rattle.std.specs.Prelude.{codes}
use Rattle.signal_values.specs.Readings.{value_of}
use Rattle.signal_values.specs.Texts.{value_text}
use Rattle.bench_dump.proofs.Steps.{appends_both}
use Rattle.bench_signals.specs.FigureText.{time_text}
use Rattle.bench_signals.proofs.printing.print_known_fields.Goals as goal

pub returns : goal.returns
returns g c =
    let value = value_text c.args.kind.now (value_of c.args.told.value) in
    let time = time_text c.args.told.time in
    appends_both _ _ _ (codes ",") (value ++ (codes "," ++ time)) c.in_ok-write_all.ensures.bytes
    (appends_both _ _ _ value (codes "," ++ time) c.in_ok-print_value.ensures
    (appends_both _ _ _ (codes ",") time c.in_ok-write_all-2.ensures.bytes c.in_ok-print_time.ensures))
