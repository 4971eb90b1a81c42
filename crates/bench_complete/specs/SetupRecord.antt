-- The setup record (IRIG 106-17 Chapter 11, computer generated data packets, Format 1; its first word and its version
-- are a profile of ours).
use Rattle.std.specs.Prelude.{ℕ, ◌+◌, ◌-◌, ◌%◌, List, [], ◌∷◌, ◌++◌, length, replicate}
use Rattle.ch11_header.specs.declared.header.Header.{Header}
use Rattle.ch11_header.specs.HeaderBytes.{header_bytes}
use Rattle.ch11_header.specs.Kinds.{setup_record}
use Rattle.bench_complete.specs.Pieces.{Piece}

-- how many bytes of filler bring a length to a multiple of four
abbrev pub filler_for : ℕ → ℕ
filler_for size = (4 - size % 4) % 4

abbrev pub setup_header : ℕ → ℕ → ℕ → Header
setup_header version counter size = record {
  channel = 0;
  packet_length = 24 + (size + 4) + filler_for (size + 4);
  data_length = size + 4;
  version = version;
  sequence = 0;
  flags = 0;
  kind = setup_record;
  counter = counter;
}

-- the setup record of a text, with a version and a counter
abbrev pub setup_piece : ℕ → ℕ → List ℕ → Piece
setup_piece version counter text = record {
  header = setup_header version counter (length text);
  bytes = header_bytes (setup_header version counter (length text))
      ++ ((0x0C ∷ 0 ∷ 0 ∷ 0 ∷ []) ++ (text ++ replicate (filler_for (length text + 4)) 0));
}
