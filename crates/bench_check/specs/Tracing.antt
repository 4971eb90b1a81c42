-- A job whose lines by time and by command are traced.
use Rattle.std.specs.Prelude.{◌≡◌, ◌≤◌, length}
use Rattle.bench_check.specs.declared.tracing.Trace.{Trace}

-- the messages that were sent are counted
pub record IsCounted (t : Trace) : Type 0 where
  pub count : t.sent ≡ length t.occasions.made
  pub few : t.sent ≤ 1000000
