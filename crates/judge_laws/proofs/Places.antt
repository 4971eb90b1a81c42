-- The parts of a recorded message whose commands, status words and data words are known.
use Rattle.std.proofs.Common.{◌≡◌, ℕ, zero, suc, ◌+◌, ◌-◌, ◌*◌, ◌/◌, ◌<◌, ◌≤◌, List, [], ◌∷◌, ◌++◌, map, length, get_or, refl, sym, ap, ◌∙◌, arith, length-append}
use Rattle.std.specs.Prelude.{Bool, true, false, nat_lt, if◌then◌else◌}
use Rattle.std.specs.List.{flat_map, range_with_len}
use Rattle.std.proofs.lemmas.Bool.Decides.{nat_tests}
use Rattle.std.proofs.lemmas.List.{same_lists, get_or_append_left}
use Rattle.std.proofs.lemmas.List.FromFn.{get_or-map-range_with_len, length-map-range_with_len}
use Rattle.std.proofs.lemmas.Grind.{get_or_default_zero}
use Rattle.byteorder.specs.Endian.{little_bytes}
use Rattle.ch11_layout.specs.Stamps.{Recorded}
use Rattle.ch11_layout.specs.declared.layouts.Layout.{Layout}
use Rattle.ch11_layout.specs.Layouts.{size_of, word_of, commands_in, has_front, has_back, data_start, data_end, layout_of}
use Rattle.ch11_layout.specs.Replies.{statuses_by, statuses, data_count, data_words}
use Rattle.judge_laws.proofs.Words.{AreSmall}
use Rattle.judge_laws.proofs.Bytes.{bytes-long, word-read}

abbrev pub is_some : List ℕ → Bool
is_some [] = false
is_some (x ∷ xs) = true

abbrev pub all : List ℕ → List ℕ → List ℕ → List ℕ → List ℕ
all cs fs ds bs = cs ++ (fs ++ (ds ++ bs))

-- its words are commands, perhaps a status word, data words, and perhaps a status word
pub record IsLaidOut (m : Recorded) (cs fs ds bs : List ℕ) : Type 0 where
  pub bytes : m.bytes ≡ flat_map (little_bytes 2) (all cs fs ds bs)
  pub small : AreSmall (all cs fs ds bs)
  pub commands : commands_in m ≡ length cs
  pub front : has_front m ≡ is_some fs
  pub back : has_back m ≡ is_some bs
  pub one_front : length fs ≤ 1
  pub one_back : length bs ≤ 1

long-all : (cs fs ds bs : List ℕ) → length (all cs fs ds bs) ≡ length cs + length fs + length ds + length bs
long-all cs fs ds bs = omega (arith, length-append cs (fs ++ (ds ++ bs)), length-append fs (ds ++ bs), length-append ds bs)

half : (n k : ℕ) → n ≡ 2 * k → n / 2 ≡ k
half n k is = omega (arith, is)

one-if : (xs : List ℕ) → length xs ≤ 1 → (if is_some xs then 1 else 0) ≡ length xs
one-if [] few = refl
one-if (x ∷ []) few = refl
one-if (x ∷ y ∷ more) few = absurd (omega (arith, few))

-- one list behind another
behind : (xs ys : List ℕ) (k j : ℕ) → k ≡ length xs + j → get_or (xs ++ ys) k 0 ≡ get_or ys j 0
behind [] ys k j is = ap (λ i. get_or ys i 0) (omega (arith, is))
behind (x ∷ xs) ys zero j is = absurd (omega (arith, is))
behind (x ∷ xs) ys (suc k) j is = behind xs ys k j (omega (arith, is))

module _ (m : Recorded) (cs fs ds bs : List ℕ) (laid : IsLaidOut m cs fs ds bs) where
  pub size : size_of m ≡ length cs + length fs + length ds + length bs
  size =
      ap (λ (bytes : List ℕ). length bytes / 2) laid.bytes
      ∙ half (length (flat_map (little_bytes 2) (all cs fs ds bs))) (length (all cs fs ds bs)) (bytes-long (all cs fs ds bs))
      ∙ long-all cs fs ds bs

  pub word : (k : ℕ) → k < length (all cs fs ds bs) → word_of m.bytes k ≡ get_or (all cs fs ds bs) k 0
  word k lt = ap (λ (bytes : List ℕ). word_of bytes k) laid.bytes ∙ word-read (all cs fs ds bs) k lt laid.small

  start : data_start m ≡ length cs + length fs
  start = sums (commands_in m) (has_front m) laid.commands laid.front
    where
      sums : (k : ℕ) (b : Bool) → k ≡ length cs → b ≡ is_some fs → k + (if b then 1 else 0) ≡ length cs + length fs
      sums k b e f = rw (e, f, one-if fs laid.one_front) refl

  end : data_end m ≡ length cs + length fs + length ds
  end = less (size_of m) (has_back m) size laid.back
    where
      less : (n : ℕ) (b : Bool) → n ≡ length cs + length fs + length ds + length bs → b ≡ is_some bs → n - (if b then 1 else 0) ≡ length cs + length fs + length ds
      less n b e f = rw (e, f, one-if bs laid.one_back) (omega arith)

  abbrev here : Layout
  here = record {
    words = length cs + length fs + length ds + length bs;
    commands = length cs;
    data_start = length cs + length fs;
    data_end = length cs + length fs + length ds;
  }

  layout : layout_of m ≡ here
  layout = same (size_of m) (commands_in m) (data_start m) (data_end m) size laid.commands start end
    where
      same : (w c s e : ℕ) → w ≡ here.words → c ≡ here.commands → s ≡ here.data_start → e ≡ here.data_end → (let l : Layout = record { words = w; commands = c; data_start = s; data_end = e } in l) ≡ here
      same w c s e a b d f = rw (a, b, d, f) refl

  pub count : data_count m ≡ length ds
  count = ap (λ (l : Layout). l.data_end - l.data_start) layout ∙ omega arith

  front-status : (xs : List ℕ) → xs ≡ fs → (if nat_lt (length cs) (length cs + length xs) then word_of m.bytes (length cs) ∷ [] else []) ≡ xs
  front-status [] is = let no : nat_lt (length cs) (length cs + 0) ≡ false = grind (arith, nat_tests) in rw no refl
  front-status (x ∷ []) is =
      let yes : nat_lt (length cs) (length cs + 1) ≡ true = grind (arith, nat_tests) in
      let long : length fs ≡ 1 = ap (λ (ys : List ℕ). length ys) (sym is) in
      let there : word_of m.bytes (length cs) ≡ x =
      word (length cs) (omega (arith, long, long-all cs fs ds bs)) ∙ behind cs (fs ++ (ds ++ bs)) (length cs) 0 (omega arith)
      ∙ ap (λ (ys : List ℕ). get_or (ys ++ (ds ++ bs)) 0 0) (sym is) in
      rw (yes, there) refl
  front-status (x ∷ y ∷ more) is = absurd (omega (arith, laid.one_front, ap (λ (ys : List ℕ). length ys) is))

  back-status : (xs : List ℕ) → xs ≡ bs → (if nat_lt (length cs + length fs + length ds) (length cs + length fs + length ds + length xs) then word_of m.bytes (length cs + length fs + length ds) ∷ [] else []) ≡ xs
  back-status [] is = let no : nat_lt (length cs + length fs + length ds) (length cs + length fs + length ds + 0) ≡ false = grind (arith, nat_tests) in rw no refl
  back-status (x ∷ []) is =
      let yes : nat_lt (length cs + length fs + length ds) (length cs + length fs + length ds + 1) ≡ true = grind (arith, nat_tests) in
      let long : length bs ≡ 1 = ap (λ (ys : List ℕ). length ys) (sym is) in
      let place = length cs + length fs + length ds in
      let there : word_of m.bytes place ≡ x =
      word place (omega (arith, long, long-all cs fs ds bs)) ∙ behind cs (fs ++ (ds ++ bs)) place (length fs + length ds) (omega arith)
      ∙ behind fs (ds ++ bs) (length fs + length ds) (length ds) refl ∙ behind ds bs (length ds) 0 (omega arith)
      ∙ ap (λ (ys : List ℕ). get_or ys 0 0) (sym is) in
      rw (yes, there) refl
  back-status (x ∷ y ∷ more) is = absurd (omega (arith, laid.one_back, ap (λ (ys : List ℕ). length ys) is))

  pub are-statuses : statuses m ≡ fs ++ bs
  are-statuses =
      ap (λ (l : Layout). statuses_by l m.bytes) layout
      ∙ joined (if nat_lt (length cs) (length cs + length fs) then word_of m.bytes (length cs) ∷ [] else [])
      (if nat_lt (length cs + length fs + length ds) (length cs + length fs + length ds + length bs) then word_of m.bytes (length cs + length fs + length ds) ∷ [] else [])
      (front-status fs refl) (back-status bs refl)
    where
      joined : (a b : List ℕ) → a ≡ fs → b ≡ bs → a ++ b ≡ fs ++ bs
      joined a b e f = cc

  data-at : (k d : ℕ) → k < length ds → get_or ds k d ≡ word_of m.bytes (length cs + length fs + k)
  data-at k d lt =
      let place = length cs + length fs + k in
      get_or_default_zero ds k d lt ∙ sym (get_or_append_left ds bs 0 k lt)
      ∙ sym (word place (omega (arith, lt, long-all cs fs ds bs)) ∙ behind cs (fs ++ (ds ++ bs)) place (length fs + k) (omega arith) ∙ behind fs (ds ++ bs) (length fs + k) k refl)

  pub are-data : data_words m ≡ ds
  are-data =
      let many : length cs + length fs + length ds - (length cs + length fs) ≡ length ds = omega arith in
      ap (λ (l : Layout). map (λ place. word_of m.bytes (l.data_start + place)) (range_with_len 0 (l.data_end - l.data_start))) layout
      ∙ ap (λ n. map (λ place. word_of m.bytes (length cs + length fs + place)) (range_with_len 0 n)) many
      ∙ sym (same_lists ds (map (λ place. word_of m.bytes (length cs + length fs + place)) (range_with_len 0 (length ds)))
      (sym (length-map-range_with_len (λ place. word_of m.bytes (length cs + length fs + place)) 0 (length ds)))
      (λ k d lt. data-at k d lt ∙ sym (get_or-map-range_with_len (λ place. word_of m.bytes (length cs + length fs + place)) 0 (length ds) k k d lt (omega arith))))
