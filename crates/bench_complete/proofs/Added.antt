-- The packets that are added are read by themselves.
use Rattle.std.proofs.Common.{◌≡◌, ℕ, zero, suc, ◌+◌, ◌%◌, ◌<◌, ◌≤◌, ◌^◌, false, ltb, List, [], ◌∷◌, ◌++◌, length, replicate, Ok, refl, arith}
use Rattle.std.proofs.lemmas.Bool.{le-ltb, le-leb}
use Rattle.std.proofs.lemmas.List.{length-append, length-replicate}
use Rattle.ch11_header.specs.declared.header.Header.{Header}
use Rattle.ch11_header.specs.HeaderBytes.{Fits, header_bytes, summed_bytes}
use Rattle.ch11_header.specs.HeaderReading.{with_lawful_lengths}
use Rattle.ch11_header.proofs.Again.{read_again}
use Rattle.ch11_reader.specs.Recording.{packet_at}
use Rattle.bench_complete.specs.declared.times.Times.{Times}
use Rattle.bench_clock.specs.TimeBody.{body_of}
use Rattle.bench_complete.specs.TimePackets.{time_header, time_piece, times_from}
use Rattle.bench_complete.specs.SetupRecord.{filler_for, setup_header, setup_piece}
use Rattle.bench_complete.proofs.Again.{IsWhole, AreWhole}

time_fits : (t : Times) (second : ℕ) → second < 28147498 → t.channel < 2 ^ 16 → t.version < 2 ^ 8 → Fits (time_header t second)
time_fits t second small channel version = record {
  channel = channel;
  packet_length = omega arith;
  data_length = omega arith;
  version = version;
  sequence = omega arith;
  flags = omega arith;
  kind = omega arith;
  counter = omega (arith, small);
}

time_lawful : (t : Times) (second : ℕ) → with_lawful_lengths (time_header t second) ≡ Ok (time_header t second)
unfolding with_lawful_lengths
time_lawful t second = refl

time_size : (t : Times) (second : ℕ) → length (time_piece t second).bytes ≡ 36
unfolding header_bytes summed_bytes
time_size t second = refl

time_read : (t : Times) (second : ℕ) → second < 28147498 → t.channel < 2 ^ 16 → t.version < 2 ^ 8 → packet_at (time_piece t second).bytes ≡ Ok (time_header t second)
unfolding packet_at
time_read t second small channel version =
    let header = read_again (time_header t second) (body_of (t.start + second)) (time_fits t second small channel version) (time_lawful t second) in
    rw (header, time_size t second) refl

pub times_whole : (t : Times) (count second : ℕ) → second + count ≤ 28147498 → t.channel < 2 ^ 16 → t.version < 2 ^ 8 → AreWhole (times_from t count second)
times_whole t zero second le channel version = tt
times_whole t (suc count) second le channel version =
    (record { over = refl; size = time_size t second; read = time_read t second (omega (arith, le)) channel version }, times_whole t count (second + 1) (omega (arith, le)) channel version)

-- ---- the setup record

abbrev setup_bytes : ℕ → ℕ → List ℕ → List ℕ
setup_bytes version counter text = header_bytes (setup_header version counter (length text))

setup_fits : (version counter size : ℕ) → version < 2 ^ 8 → counter < 2 ^ 48 → size ≤ 524000 → Fits (setup_header version counter size)
setup_fits version counter size small low few = record {
  channel = omega arith;
  packet_length = omega (arith, few);
  data_length = omega (arith, few);
  version = small;
  sequence = omega arith;
  flags = omega arith;
  kind = omega arith;
  counter = low;
}

whole_words : (size : ℕ) → (24 + (size + 4) + filler_for (size + 4)) % 4 ≡ 0
whole_words size = omega arith

setup_lawful : (version counter size : ℕ) → with_lawful_lengths (setup_header version counter size) ≡ Ok (setup_header version counter size)
unfolding with_lawful_lengths
setup_lawful version counter size =
    rw (
      le-leb 24 (24 + (size + 4) + filler_for (size + 4)) (omega arith),
      whole_words size,
      le-leb (24 + (size + 4)) (24 + (size + 4) + filler_for (size + 4)) (omega arith),
    ) refl

header_size : (h : Header) → length (header_bytes h) ≡ 24
unfolding header_bytes summed_bytes
header_size h = refl

setup_size : (version counter : ℕ) (text : List ℕ) → length (setup_piece version counter text).bytes ≡ 24 + (length text + 4) + filler_for (length text + 4)
setup_size version counter text =
    let one = length-append (setup_bytes version counter text) ((0x0C ∷ 0 ∷ 0 ∷ 0 ∷ []) ++ (text ++ replicate (filler_for (length text + 4)) 0)) in
    let two = length-append text (replicate (filler_for (length text + 4)) 0) in
    omega (arith, one, two, length-replicate {A = ℕ} (filler_for (length text + 4)) 0, header_size (setup_header version counter (length text)))

setup_read : (version counter : ℕ) (text : List ℕ) → version < 2 ^ 8 → counter < 2 ^ 48 → length text ≤ 524000 → packet_at (setup_piece version counter text).bytes ≡ Ok (setup_header version counter (length text))
unfolding packet_at
setup_read version counter text small low few =
    let header = read_again (setup_header version counter (length text)) ((0x0C ∷ 0 ∷ 0 ∷ 0 ∷ []) ++ (text ++ replicate (filler_for (length text + 4)) 0))
    (setup_fits version counter (length text) small low few) (setup_lawful version counter (length text)) in
    let all : ltb (length (setup_piece version counter text).bytes) (24 + (length text + 4) + filler_for (length text + 4)) ≡ false = le-ltb _ _ (omega (arith, setup_size version counter text)) in
    rw (header, all) refl

pub setup_whole : (version counter : ℕ) (text : List ℕ) → version < 2 ^ 8 → counter < 2 ^ 48 → length text ≤ 524000 → IsWhole (setup_piece version counter text)
setup_whole version counter text small low few = record { over = refl; size = setup_size version counter text; read = setup_read version counter text small low few }
