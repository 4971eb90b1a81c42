-- The packets of a recording by their type (IRIG 106-17 Chapter 11, packet header: data type, packet length).
use Rattle.std.specs.Prelude.{◌≡◌, ℕ, ◌+◌, ◌<◌, ◌==◌, if◌then◌else◌, List, length, slice_index_or}
use Rattle.std.specs.List.{sum_by, count_by}
use Rattle.ch11_header.specs.declared.header.Header.{Header}
use Rattle.ch11_reader.specs.Contents.{capped}
use Rattle.bench_stat.specs.declared.kinds.KindFigures.{KindFigures}

abbrev pub no_packets : KindFigures
no_packets = record { packets = 0; bytes = 0 }

-- how many packets of a type there are, and how many bytes they take, as far as 64 bits count
abbrev pub packets_of : ℕ → List Header → ℕ
packets_of kind hs = count_by (λ (h : Header). h.kind == kind) hs

abbrev pub bytes_of : ℕ → List Header → ℕ
bytes_of kind hs = sum_by (λ (h : Header). if h.kind == kind then h.packet_length else 0) hs

abbrev pub kind_of : ℕ → List Header → KindFigures
kind_of kind hs = record { packets = capped (packets_of kind hs); bytes = capped (bytes_of kind hs) }

-- these are the figures of each type
pub record AreKinds (hs : List Header) (kinds : List KindFigures) : Type 0 where
  pub many : length kinds ≡ 256
  pub each : (kind : ℕ) → kind < 256 → slice_index_or kinds kind no_packets ≡ kind_of kind hs

-- one more packet
abbrev pub with_packet : ℕ → KindFigures → KindFigures
with_packet size f = record { packets = capped (f.packets + 1); bytes = capped (f.bytes + size) }
