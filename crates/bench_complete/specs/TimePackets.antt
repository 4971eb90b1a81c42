-- Time packets (IRIG 106-17 Chapter 11, time data packets, Format 1).
use Rattle.std.specs.Prelude.{ℕ, zero, suc, ◌+◌, ◌-◌, ◌*◌, ◌%◌, List, [], ◌∷◌, ◌++◌}
use Rattle.ch11_header.specs.declared.header.Header.{Header}
use Rattle.ch11_header.specs.HeaderBytes.{header_bytes}
use Rattle.ch11_header.specs.Kinds.{time_data}
use Rattle.bench_complete.specs.declared.times.Times.{Times}
use Rattle.bench_complete.specs.Pieces.{Piece}
use Rattle.bench_clock.specs.TimeBody.{body_of}

abbrev pub time_header : Times → ℕ → Header
time_header t second = record {
  channel = t.channel;
  packet_length = 36;
  data_length = 12;
  version = t.version;
  sequence = (second - t.first) % 256;
  flags = 0;
  kind = time_data;
  counter = second * 10000000;
}

-- the time packet of a second of the relative time counter (10,000,000 ticks of 0.1 µs); tick 0 is the UTC second
-- `start`
abbrev pub time_piece : Times → ℕ → Piece
time_piece t second = record {
  header = time_header t second;
  bytes = header_bytes (time_header t second) ++ body_of (t.start + second);
}

-- the time packets of so many seconds from one on
abbrev pub times_from : Times → ℕ → ℕ → List Piece
times_from t zero second = []
times_from t (suc count) second = time_piece t second ∷ times_from t count (second + 1)

-- the time packets of a file
abbrev pub times_in : Times → List Piece
times_in t = times_from t (t.end - t.first) t.first
