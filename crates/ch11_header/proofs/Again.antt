-- What is written is read again.
use Rattle.std.proofs.Common.{◌≡◌, ℕ, suc, ◌+◌, ◌-◌, true, false, eqb, ltb, List, ◌++◌, length, take, drop, Ok, eq-eqb, refl, arith}
use Rattle.std.proofs.lemmas.Bool.{le-ltb}
use Rattle.std.proofs.lemmas.List.{drop-drop, length-drop}
use Rattle.std.proofs.Math.Seq.{take-length}
use Rattle.std.proofs.Math.Nat.{mod-lt}
use Rattle.byteorder.specs.Numbers.{little_number-reads_back}
use Rattle.byteorder.specs.Endian.{little_number}
use Rattle.ch11_header.specs.declared.header.Header.{Header}
use Rattle.ch11_header.specs.HeaderBytes.{number_at, word_sum, header_sum, summed_bytes, header_bytes, Fits}
use Rattle.ch11_header.specs.HeaderReading.{fields_of, with_lawful_lengths, header_in}

sum_again : (h : Header) (rest : List ℕ) → header_sum (header_bytes h ++ rest) ≡ header_sum (summed_bytes h)
unfolding header_sum word_sum header_bytes summed_bytes
sum_again h rest = refl

sync_again : (h : Header) (rest : List ℕ) → number_at 0 2 (header_bytes h ++ rest) ≡ 0xEB25
unfolding header_bytes summed_bytes
sync_again h rest = refl

check_again : (h : Header) (rest : List ℕ) → number_at 22 2 (header_bytes h ++ rest) ≡ header_sum (summed_bytes h)
unfolding header_bytes summed_bytes header_sum
check_again h rest = little_number-reads_back 2 (header_sum (summed_bytes h)) rest (mod-lt (word_sum 11 (summed_bytes h)) (omega arith))

same_fields : (h : Header) (a b c d e f g i : ℕ) → a ≡ h.channel → b ≡ h.packet_length → c ≡ h.data_length → d ≡ h.version → e ≡ h.sequence → f ≡ h.flags → g ≡ h.kind → i ≡ h.counter
    → record { channel = a; packet_length = b; data_length = c; version = d; sequence = e; flags = f; kind = g; counter = i } ≡ h
same_fields h a b c d e f g i p1 p2 p3 p4 p5 p6 p7 p8 = rw (p1, p2, p3, p4, p5, p6, p7, p8) refl

fields_again : (h : Header) (rest : List ℕ) → Fits h → fields_of (header_bytes h ++ rest) ≡ h
unfolding header_bytes summed_bytes fields_of
fields_again h rest fits =
    let e1 : number_at 2 2 (header_bytes h ++ rest) ≡ h.channel = little_number-reads_back 2 h.channel (drop 4 (header_bytes h ++ rest)) fits.channel in
    let e2 : number_at 4 4 (header_bytes h ++ rest) ≡ h.packet_length = little_number-reads_back 4 h.packet_length (drop 8 (header_bytes h ++ rest)) fits.packet_length in
    let e3 : number_at 8 4 (header_bytes h ++ rest) ≡ h.data_length = little_number-reads_back 4 h.data_length (drop 12 (header_bytes h ++ rest)) fits.data_length in
    let e4 : number_at 16 6 (header_bytes h ++ rest) ≡ h.counter = little_number-reads_back 6 h.counter (drop 22 (header_bytes h ++ rest)) fits.counter in
    same_fields h _ _ _ _ _ _ _ _ e1 e2 e3 refl refl refl refl e4

long : (h : Header) (rest : List ℕ) → ltb (length (header_bytes h ++ rest)) 24 ≡ false
unfolding header_bytes summed_bytes
long h rest = le-ltb _ _ (omega arith)

pub read_again : (h : Header) (rest : List ℕ) → Fits h → with_lawful_lengths h ≡ Ok h → header_in (header_bytes h ++ rest) ≡ Ok h
unfolding header_in
read_again h rest fits good =
    let same : eqb (header_sum (summed_bytes h)) (header_sum (summed_bytes h)) ≡ true = eq-eqb (header_sum (summed_bytes h)) (header_sum (summed_bytes h)) refl in
    rw (long h rest, sync_again h rest, check_again h rest, sum_again h rest, same, fields_again h rest fits) good

-- the sum of the words from a place on, the first apart
pub one_word : (n place : ℕ) (bytes : List ℕ) → word_sum (suc n) (drop place bytes) ≡ number_at place 2 bytes + word_sum n (drop (place + 2) bytes)
unfolding word_sum
one_word n place bytes = rw (drop-drop 2 place bytes) refl

-- the rest of a slice from a place on
pub number_in_rest : (place size : ℕ) (bytes : List ℕ) → little_number size (take (length bytes - place) (drop place bytes)) ≡ number_at place size bytes
number_in_rest place size bytes = rw (← length-drop place bytes, take-length (drop place bytes)) refl
