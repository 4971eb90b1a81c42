use Rattle.std.proofs.Common.{◌≡◌, ℕ, ◌++◌, sym, ap, ◌∙◌, arith}
use Rattle.std.specs.Prelude.{Option, Some, None, option_map}
use Rattle.signal_values.specs.Readings.{value_of}
use Rattle.bench_select.specs.Signals.{value_in}
use Rattle.bench_decode.specs.Waiting.{Waiting}
use Rattle.bench_decode.proofs.Putting.{valued-all, valued-more, valued-none}
use Rattle.bench_decode.proofs.messages.put_values.Goals as goal

pub signals-init : goal.signals-init
signals-init g c = valued-none _ _ _ _ _ c.requires

pub put_signal-requires : goal.put_signal-requires
put_signal-requires g c = c.signals.invariant.room

pub signals-preserved : goal.signals-preserved
signals-preserved g c = valued-more _ _ _ _ _ _ _ _ _ _ _ _ c.signals.invariant c.in-Some.ensures.cases.0 c.in_ok-put_signal.ensures.put c.in_ok-put_signal.ensures.room

pub returns-clause-put : goal.returns-clause-put
returns-clause-put g c = valued-all _ _ _ _ _ _ _ _ c.signals.invariant c.in_default.ensures.cases

pub returns-clause-room : goal.returns-clause-room
returns-clause-room g c = c.signals.invariant.room
