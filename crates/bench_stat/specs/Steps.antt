-- The figures with one more call or message.
use Rattle.std.specs.Prelude.{ℕ, ◌+◌, ◌==◌, if◌then◌else◌, List, min, max, Some}
use Rattle.ch11_layout.specs.Stamps.{Recorded}
use Rattle.ch11_layout.specs.Layouts.{size_of}
use Rattle.bench_stat.specs.declared.calls.Call.{Call}
use Rattle.bench_stat.specs.declared.terminals.TerminalFigures.{TerminalFigures}
use Rattle.bench_stat.specs.declared.traffic.Traffic.{Traffic}
use Rattle.bench_stat.specs.declared.errors.Errors.{Errors}
use Rattle.bench_stat.specs.declared.tally.Tally.{Tally}
use Rattle.bench_stat.specs.Sendings.{is_failed, latest}
use Rattle.ch11_reader.specs.Contents.{capped}
use Rattle.bench_stat.specs.Figures.{one_if, duration, end_of, is_silent, is_miscounted, is_of_other_sync, is_unsound}
use Rattle.bench_stat.specs.Figures.{is_otherwise_failed, is_receive_call, is_transmit_call, is_mode_call}
use Rattle.bench_stat.specs.Figures.{figures_of_channel, joined}
use Rattle.bench_stat.specs.Stretches.{with_stretch}

abbrev pub with_kind : Call → TerminalFigures → TerminalFigures
with_kind c f = record f {
  receive = capped (f.receive + one_if (is_receive_call c));
  transmit = capped (f.transmit + one_if (is_transmit_call c));
  mode = capped (f.mode + one_if (is_mode_call c));
  errors = capped (f.errors + one_if c.failed);
}

abbrev pub with_response : ℕ → TerminalFigures → TerminalFigures
with_response n f = record f {
  responses = capped (f.responses + 1);
  total = capped (f.total + n);
  least = min n f.least;
  greatest = max n f.greatest;
}

abbrev pub with_call : Call → TerminalFigures → TerminalFigures
with_call c f = if c.response == 0 then with_kind c f else with_response c.response (with_kind c f)

abbrev pub with_traffic : Recorded → Traffic → Traffic
with_traffic m t = record {
  messages = capped (t.messages + 1);
  words = capped (t.words + size_of m);
  busy = capped (t.busy + duration m);
  stamps = Some (joined t.stamps m.kind);
  begin = min m.stamp t.begin;
  last = max m.stamp t.last;
  «end» = max (end_of m) t.«end»;
  stretches = with_stretch m t.stretches;
}

abbrev pub with_errors : Recorded → Errors → Errors
with_errors m e = record {
  messages = capped (e.messages + one_if (is_failed m));
  response = capped (e.response + one_if (is_silent m));
  word_count = capped (e.word_count + one_if (is_miscounted m));
  sync = capped (e.sync + one_if (is_of_other_sync m));
  unsound = capped (e.unsound + one_if (is_unsound m));
  other = capped (e.other + one_if (is_otherwise_failed m));
}

-- a channel's figures so far, and how its latest message was sent
abbrev pub tally_of : ℕ → List Recorded → Tally
tally_of channel history = record { figures = figures_of_channel channel history; latest = latest history }
