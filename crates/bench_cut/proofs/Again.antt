-- Messages that are written are read again.
use Rattle.std.proofs.Common.{◌≡◌, ℕ, suc, ◌+◌, ◌%◌, ◌^◌, ◌<◌, false, ltb, List, [], ◌∷◌, ◌++◌, length, take, drop, Result, Ok, refl, ap, sym, ◌∙◌, append_assoc, append-nil, arith}
use Rattle.std.specs.List.{AllByRecursion}
use Rattle.std.proofs.lemmas.Bool.{le-ltb}
use Rattle.std.proofs.lemmas.List.{take_at, drop_at, length-append}
use Rattle.byteorder.specs.Endian.{little_bytes}
use Rattle.byteorder.specs.Numbers.{little_number-reads_back}
use Rattle.ch11_header.specs.HeaderBytes.{number_at}
use Rattle.ch11_f1.specs.declared.error.BodyError.{BodyError}
use Rattle.ch11_f1.specs.BodyReading.{Message, message_at, messages_at, messages_in}
use Rattle.bench_cut.specs.Cut.{bytes_of_message, bytes_of_messages, head_of, one, sizes_of}
use Rattle.bench_cut.proofs.Facts.{Fits}

module _ (m : Message) (rest : List ℕ) (fits : Fits m) where
  abbrev written : List ℕ
  written = bytes_of_message m ++ rest

  size_again : number_at 12 2 written ≡ length m.bytes
  unfolding head_of
  size_again = little_number-reads_back 2 (length m.bytes) (m.bytes ++ rest) fits.size

  stamp_again : number_at 0 8 written ≡ m.stamp
  unfolding head_of
  stamp_again = little_number-reads_back 8 m.stamp (drop 8 written) fits.stamp

  block_again : number_at 8 2 written ≡ m.block
  unfolding head_of
  block_again = little_number-reads_back 2 m.block (drop 10 written) fits.block

  gaps_again : number_at 10 2 written ≡ m.gaps
  unfolding head_of
  gaps_again = little_number-reads_back 2 m.gaps (drop 12 written) fits.gaps

  behind : drop 14 written ≡ m.bytes ++ rest
  unfolding head_of
  behind = refl

  whole_length : length written ≡ 14 + (length m.bytes + length rest)
  unfolding head_of
  whole_length = omega (arith, length-append m.bytes rest)

same_message : (a b c : ℕ) (d : List ℕ) (m : Message) → a ≡ m.stamp → b ≡ m.block → c ≡ m.gaps → d ≡ m.bytes → record { stamp = a; block = b; gaps = c; bytes = d } ≡ m
same_message a b c d m p q r s = rw (p, q, r, s) refl

abbrev read_ok : Message → List ℕ → Result (Message × List ℕ) BodyError
read_ok m rest = Ok (m, rest)

same_read : (a b : Message) (x y : List ℕ) → a ≡ b → x ≡ y → read_ok a x ≡ read_ok b y
same_read a b x y p q = rw (p, q) refl

message_again : (m : Message) (rest : List ℕ) → Fits m → message_at (bytes_of_message m ++ rest) ≡ Ok (m, rest)
unfolding message_at
message_again m rest fits =
    let all : List ℕ = bytes_of_message m ++ rest in
    let long : ltb (length all) 14 ≡ false = le-ltb _ _ (omega (arith, whole_length m rest fits)) in
    let enough : ltb (length all) (14 + length m.bytes) ≡ false = le-ltb _ _ (omega (arith, whole_length m rest fits)) in
    let front : take (length m.bytes) (drop 14 all) ≡ m.bytes = ap (take (length m.bytes)) (behind m rest fits) ∙ take_at m.bytes rest (length m.bytes) refl in
    let back : drop (length m.bytes) (drop 14 all) ≡ rest = ap (drop (length m.bytes)) (behind m rest fits) ∙ drop_at m.bytes rest (length m.bytes) refl in
    let is = same_message (number_at 0 8 all) (number_at 8 2 all) (number_at 10 2 all) (take (length m.bytes) (drop 14 all)) m (stamp_again m rest fits) (block_again m rest fits) (gaps_again m rest fits) front in
    rw (long, size_again m rest fits, fits.even, enough) (same_read _ _ _ _ is back)

messages_again : (ms : List Message) (rest : List ℕ) → AllByRecursion Fits ms → messages_at (length ms) (bytes_of_messages ms ++ rest) ≡ Ok ms
unfolding messages_at
messages_again [] rest fits = refl
messages_again (m ∷ ms) rest fits =
    let regrouped : bytes_of_messages (m ∷ ms) ++ rest ≡ bytes_of_message m ++ (bytes_of_messages ms ++ rest) = append_assoc (bytes_of_message m) (bytes_of_messages ms) rest in
    ap (messages_at (suc (length ms))) regrouped ∙ rw (message_again m (bytes_of_messages ms ++ rest) fits.0, messages_again ms rest fits.1) refl

-- a first word counts as many as it has in its lower bytes
count_of : (n upper : ℕ) (rest : List ℕ) → n < 2 ^ 24 → number_at 0 4 (little_bytes 3 n ++ (one upper ++ rest)) % 2 ^ 24 ≡ n
count_of n upper rest few = omega (arith, few)

-- a body with this upper byte is read again
pub body_again : (ms : List Message) (upper : ℕ) → AllByRecursion Fits ms → length ms < 2 ^ 24 → messages_in (little_bytes 3 (length ms) ++ (one upper ++ bytes_of_messages ms)) ≡ Ok ms
unfolding messages_in
body_again ms upper fits few =
    let long : ltb (length (little_bytes 3 (length ms) ++ (one upper ++ bytes_of_messages ms))) 4 ≡ false = le-ltb _ _ (omega arith) in
    rw (long, count_of (length ms) upper (bytes_of_messages ms) few) (ap (messages_at (length ms)) (sym (append-nil (bytes_of_messages ms))) ∙ messages_again ms [] fits)

pub messages_size : (ms : List Message) → length (bytes_of_messages ms) ≡ sizes_of ms
unfolding head_of
messages_size [] = refl
messages_size (m ∷ ms) = omega (arith, length-append m.bytes (bytes_of_messages ms), messages_size ms, length-append (bytes_of_message m) (bytes_of_messages ms))
