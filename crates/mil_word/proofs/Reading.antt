-- A wave is read as the word whose wave it is, and as no other.
use Rattle.std.proofs.Common.{◌≡◌, ℕ, zero, suc, ◌+◌, ◌%◌, ◌^◌, ◌<◌, List, [], ◌∷◌, ◌++◌, length, sum, take, drop, refl, ap, sym, ◌∙◌, subst, arith, length-drop, length-take}
use Rattle.std.specs.Prelude.{Bool, true, false, ◌==◌, if◌then◌else◌, Option, Some, None, ◌↔◌}
use Rattle.std.specs.List.{flat_map}
use Rattle.std.specs.Option.{option_map, option_and_then}
use Rattle.std.proofs.lemmas.Bool.{eq-eqb, eqb-true, eqb-false}
use Rattle.std.proofs.lemmas.List.{take_at, take-append-drop}
use Rattle.std.proofs.lemmas.List.Sums.{sum_by-append, sum_by-cons}
use Rattle.std.proofs.lemmas.Slice.Eq.{bytes_eq-Decides}
use Rattle.mil_word.specs.declared.Sync.{Sync}
use Rattle.mil_word.specs.declared.Sync.TheVariants.{CommandSync, DataSync}
use Rattle.mil_word.specs.declared.Word.{Word}
use Rattle.mil_word.specs.Wave.{digits, number, sync_halves, pair, parity, halves, wave_of, raw_of, same_halves, sync_in, bits_in, word_with, word_in, word_of}
use Rattle.mil_word.proofs.Digits.{AreBinary, length-digits, digits_are_binary, digits-number, number-digits, number_below, length-pairs}
use Rattle.mil_word.proofs.WaveLemmas.{fits_mod, digits_of-wave, after_sync, raw_below, sync_read, same_word}

-- what is spelled is read

sync_in-sync : (s : Sync) (xs : List ℕ) → sync_in (take 6 (sync_halves s ++ xs)) ≡ Some s
sync_in-sync CommandSync xs = refl
sync_in-sync DataSync xs = refl

bits_in-pairs : (bits : List ℕ) → AreBinary bits → bits_in (flat_map pair bits) ≡ Some bits
bits_in-pairs [] b = refl
bits_in-pairs (zero ∷ bits) b = ap (λ (o : Option (List ℕ)). option_map (λ xs. 0 ∷ xs) o) (bits_in-pairs bits b.1)
bits_in-pairs (suc zero ∷ bits) b = ap (λ (o : Option (List ℕ)). option_map (λ xs. 1 ∷ xs) o) (bits_in-pairs bits b.1)
bits_in-pairs (suc (suc n) ∷ bits) b = absurd (omega (arith, b.0))

append_binary : (xs : List ℕ) (bit : ℕ) → AreBinary xs → bit < 2 → AreBinary (xs ++ bit ∷ [])
append_binary [] bit b lt = (lt, tt)
append_binary (x ∷ xs) bit b lt = (b.0, append_binary xs bit b.1 lt)

odd : (n : ℕ) → (n + (n + 1) % 2) % 2 ≡ 1
odd n = omega arith

sum-last : (xs : List ℕ) (bit : ℕ) → sum (xs ++ bit ∷ []) ≡ sum xs + bit
sum-last xs bit = sum_by-append (λ m. m) xs (bit ∷ []) ∙ omega (arith, sum_by-cons (λ m. m) bit [])

word_with-bits : (word : Word) → word.value < 2 ^ 16 → word_with word.sync (digits 16 word.value ++ parity (digits 16 word.value) ∷ []) ≡ Some word
word_with-bits word small =
    let bits = digits 16 word.value in
    let ones : sum (bits ++ parity bits ∷ []) % 2 ≡ 1 = ap (λ n. n % 2) (sum-last bits (parity bits)) ∙ odd (sum bits) in
    let test = eq-eqb (sum (bits ++ parity bits ∷ []) % 2) 1 ones in
    let front : take 16 (bits ++ parity bits ∷ []) ≡ bits = take_at bits (parity bits ∷ []) 16 (length-digits 16 word.value) in
    let value : number bits ≡ word.value = number-digits 16 word.value ∙ fits_mod word.value 16 small in
    rw (test, front, value) refl

pub word_of-wave : (word : Word) → word.value < 2 ^ 16 → word_of (wave_of word) ≡ Some word
unfolding word_of
word_of-wave word small =
    let bits = digits 16 word.value ++ parity (digits 16 word.value) ∷ [] in
    let binary = append_binary (digits 16 word.value) (parity (digits 16 word.value)) (digits_are_binary 16 word.value) (omega arith) in
    let cut = after_sync word.sync (flat_map pair bits) in
    let sync = sync_in-sync word.sync (flat_map pair bits) in
    let read = bits_in-pairs bits binary in
    ap word_in (digits_of-wave word) ∙ rw (sync, cut, read) (word_with-bits word small)

-- what is read was spelled

same_are : (xs ys : List ℕ) → same_halves xs ys ≡ true → xs ≡ ys
same_are xs ys is = (bytes_eq-Decides xs ys).0 is

sync_was : (high low : Bool) (xs : List ℕ) (sync : Sync) → (high ≡ true → xs ≡ sync_halves CommandSync) → (low ≡ true → xs ≡ sync_halves DataSync)
    → (if high then Some CommandSync else if low then Some DataSync else None) ≡ Some sync → xs ≡ sync_halves sync
sync_was true low xs sync is_command is_data is =
    let same : CommandSync ≡ sync = cc in
    is_command refl ∙ ap sync_halves same
sync_was false true xs sync is_command is_data is =
    let same : DataSync ≡ sync = cc in
    is_data refl ∙ ap sync_halves same
sync_was false false xs sync is_command is_data is = absurd cc

pair_of : (a b : ℕ) → a < 2 → b < 2 → (a == b) ≡ false → a ∷ b ∷ [] ≡ pair a
pair_of zero zero la lb differ = absurd (eqb-false 0 0 differ refl)
pair_of zero (suc zero) la lb differ = refl
pair_of (suc zero) zero la lb differ = refl
pair_of (suc zero) (suc zero) la lb differ = absurd (eqb-false 1 1 differ refl)
pair_of (suc (suc a)) b la lb differ = absurd (omega arith)
pair_of zero (suc (suc b)) la lb differ = absurd (omega arith)
pair_of (suc zero) (suc (suc b)) la lb differ = absurd (omega arith)

one_pair : (same : Bool) (found : Option (List ℕ)) (a b : ℕ) (rest bits : List ℕ) → same ≡ (a == b) → a < 2 → b < 2
    → ((more : List ℕ) → found ≡ Some more → (rest ≡ flat_map pair more) × AreBinary more)
    → (if same then None else option_map (λ more. a ∷ more) found) ≡ Some bits → (a ∷ b ∷ rest ≡ flat_map pair bits) × AreBinary bits
one_pair true found a b rest bits test la lb were is = absurd cc
one_pair false None a b rest bits test la lb were is = absurd cc
one_pair false (Some more) a b rest bits test la lb were is =
    let same : a ∷ more ≡ bits = cc in
    let first : a ∷ b ∷ [] ≡ pair a = pair_of a b la lb (sym test) in
    let others = were more refl in
    let all : a ∷ b ∷ rest ≡ flat_map pair (a ∷ more) = ap (λ xs. a ∷ b ∷ xs) others.0 ∙ ap (λ xs. xs ++ flat_map pair more) first in
    (all ∙ ap (flat_map pair) same, subst AreBinary same (la, others.1))

bits_were : (xs bits : List ℕ) → AreBinary xs → bits_in xs ≡ Some bits → (xs ≡ flat_map pair bits) × AreBinary bits
bits_were [] bits b is =
    let same : [] ≡ bits = cc in
    (ap (flat_map pair) same, subst AreBinary same tt)
bits_were (x ∷ []) bits b is = absurd cc
bits_were (x ∷ y ∷ rest) bits b is = one_pair (x == y) (bits_in rest) x y rest bits refl b.0 b.1.0 (λ more. bits_were rest more b.1.1) is

take_binary : (k : ℕ) (xs : List ℕ) → AreBinary xs → AreBinary (take k xs)
take_binary zero xs b = tt
take_binary (suc k) [] b = tt
take_binary (suc k) (x ∷ xs) b = (b.0, take_binary k xs b.1)

drop_binary : (k : ℕ) (xs : List ℕ) → AreBinary xs → AreBinary (drop k xs)
drop_binary zero xs b = b
drop_binary (suc k) [] b = tt
drop_binary (suc k) (x ∷ xs) b = drop_binary k xs b.1

last_one : (xs : List ℕ) → length xs ≡ 1 → AreBinary xs → (last : ℕ) × (xs ≡ last ∷ []) × (last < 2)
last_one [] long b = absurd (omega arith)
last_one (x ∷ []) long b = (x, refl, b.0)
last_one (x ∷ y ∷ xs) long b = absurd (omega arith)

-- seventeen bits with an odd number of ones end in the parity of the others
ends_in_parity : (bits : List ℕ) → AreBinary bits → length bits ≡ 17 → sum bits % 2 ≡ 1 → bits ≡ take 16 bits ++ parity (take 16 bits) ∷ []
ends_in_parity bits b long odd_ones =
    let cut : take 16 bits ++ drop 16 bits ≡ bits = take-append-drop 16 bits in
    let one = last_one (drop 16 bits) (omega (arith, length-drop 16 bits)) (drop_binary 16 bits b) in
    let shown : bits ≡ take 16 bits ++ one.0 ∷ [] = sym cut ∙ ap (λ xs. take 16 bits ++ xs) one.1 in
    let ones : sum bits ≡ sum (take 16 bits) + one.0 = ap sum shown ∙ sum-last (take 16 bits) one.0 in
    let last : one.0 ≡ parity (take 16 bits) = omega (arith, ones, odd_ones, one.2) in
    shown ∙ ap (λ n. take 16 bits ++ n ∷ []) last

word_made : (odd_ones : Bool) (made word : Word) → (if odd_ones then Some made else None) ≡ Some word → (odd_ones ≡ true) × (made ≡ word)
word_made true made word is = (refl, cc)
word_made false made word is = absurd cc

halves_were : (sync : Sync) (bits : List ℕ) (word : Word) → AreBinary bits → length bits ≡ 17 → word_with sync bits ≡ Some word
    → (sync_halves sync ++ flat_map pair bits ≡ halves word) × (word.value < 2 ^ 16)
halves_were sync bits word b long is =
    let made : Word = record { sync = sync; value = number (take 16 bits) } in
    let h = word_made (sum bits % 2 == 1) made word is in
    let ends = ends_in_parity bits b long (eqb-true (sum bits % 2) 1 h.0) in
    let front_long : length (take 16 bits) ≡ 16 = omega (arith, length-take 16 bits) in
    let front_binary = take_binary 16 bits b in
    let spelled : digits 16 (number (take 16 bits)) ≡ take 16 bits = rw front_long at (digits-number (take 16 bits) front_binary) in
    let same : flat_map pair bits ≡ flat_map pair (digits 16 made.value ++ parity (digits 16 made.value) ∷ []) =
    ap (flat_map pair) (ends ∙ sym (ap (λ xs. xs ++ parity xs ∷ []) spelled)) in
    let below : number (take 16 bits) < 2 ^ 16 = rw front_long at (number_below (take 16 bits) front_binary) in
    (ap (λ xs. sync_halves sync ++ xs) same ∙ ap halves h.1, subst (λ (w : Word). w.value < 2 ^ 16) h.1 below)

word_was : (xs : List ℕ) (word : Word) (sync : Option Sync) (found : Option (List ℕ)) → length xs ≡ 40
    → ((s : Sync) → sync ≡ Some s → take 6 xs ≡ sync_halves s)
    → ((bits : List ℕ) → found ≡ Some bits → (drop 6 xs ≡ flat_map pair bits) × AreBinary bits)
    → option_and_then (λ s. option_and_then (word_with s) found) sync ≡ Some word → (xs ≡ halves word) × (word.value < 2 ^ 16)
word_was xs word None found long sync_is bits_are is = absurd cc
word_was xs word (Some s) None long sync_is bits_are is = absurd cc
word_was xs word (Some s) (Some bits) long sync_is bits_are is =
    let read = bits_are bits refl in
    let bits_long : length bits ≡ 17 = omega (arith, length-pairs bits, ap length read.0, length-drop 6 xs) in
    let h = halves_were s bits word read.1 bits_long is in
    let cut : take 6 xs ++ drop 6 xs ≡ xs = take-append-drop 6 xs in
    (sym cut ∙ ap (λ ys. ys ++ drop 6 xs) (sync_is s refl) ∙ ap (λ ys. sync_halves s ++ ys) read.0 ∙ h.0, h.1)

were_halves : (wave : ℕ) (word : Word) → word_of wave ≡ Some word → (digits 40 wave ≡ halves word) × (word.value < 2 ^ 16)
unfolding word_of
were_halves wave word is =
    let xs = digits 40 wave in
    let front = take 6 xs in
    word_was xs word (sync_in front) (bits_in (drop 6 xs)) (length-digits 40 wave)
    (λ s. sync_was (same_halves front (sync_halves CommandSync)) (same_halves front (sync_halves DataSync)) front s (same_are front (sync_halves CommandSync)) (same_are front (sync_halves DataSync)))
    (λ bits. bits_were (drop 6 xs) bits (drop_binary 6 xs (digits_are_binary 40 wave))) is

pub wave_of-word : (wave : ℕ) (word : Word) → wave < 2 ^ 40 → word_of wave ≡ Some word → wave ≡ wave_of word
unfolding wave_of
wave_of-word wave word small is =
    sym (number-digits 40 wave ∙ fits_mod wave 40 small) ∙ ap number (were_halves wave word is).0

pub word_fits : (wave : ℕ) (word : Word) → word_of wave ≡ Some word → word.value < 2 ^ 16
word_fits wave word is = (were_halves wave word is).1

-- what `decode` answers

pub word_of_is : (wave : ℕ) (found : Option Word) (word : Word) → wave < 2 ^ 40 → found ≡ word_of wave → word.value < 2 ^ 16 → (found ≡ Some word) ↔ (wave ≡ wave_of word)
word_of_is wave found word small is fits = (λ e. wave_of-word wave word small (sym is ∙ e), λ e. is ∙ ap word_of e ∙ word_of-wave word fits)

none_of : (wave : ℕ) (read : Word) (found : Option Word) → found ≡ word_of wave → wave < 2 ^ 40 → read.sync ≡ sync_read wave → read.value ≡ raw_of wave → (wave_of read == wave) ≡ false → found ≡ None
none_of wave read None is small sync value differ = refl
none_of wave read (Some word) is small sync value differ =
    let wave_is = wave_of-word wave word small (sym is) in
    let same = same_word wave read word sync value (word_fits wave word (sym is)) wave_is in
    absurd (eqb-false (wave_of read) wave differ (ap wave_of same ∙ sym wave_is))

pub found_is : (wave : ℕ) (read : Word) (b : Bool) → wave < 2 ^ 40 → read.sync ≡ sync_read wave → read.value ≡ raw_of wave → b ≡ (wave_of read == wave) → (if b then Some read else None) ≡ word_of wave
found_is wave read true small sync value test =
    sym (ap word_of (sym (eqb-true (wave_of read) wave (sym test))) ∙ word_of-wave read (omega (arith, value, raw_below wave)))
found_is wave read false small sync value test = sym (none_of wave read (word_of wave) refl small sync value (sym test))
