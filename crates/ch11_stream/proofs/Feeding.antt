-- Bytes of a reader that are passed.
use Rattle.std.proofs.Common.{◌≡◌, ℕ, ◌+◌, ◌-◌, ◌<◌, ◌≤◌, Bool, true, false, zero, suc, List, [], ◌++◌, length, drop, Option, None, Some, refl, sym, ap, ◌∙◌, arith}
use Rattle.std.proofs.lemmas.List.{drop-append-le, drop-drop, length-append, length-drop}
use Rattle.std.proofs.Math.Seq.{drop-append_seam}
use Rattle.std.specs.Io.KnownBytes.{IsAtEnd, prepend_known}
use Rattle.ch11_stream.specs.Feeding.{IsAdvanced, AreMoreReady, IsPassed}

-- so many bytes were passed of those that are to be, and the rest is left
pub record Passing (count rest : ℕ) (left leaves : Option (List ℕ)) (before after : List ℕ) : Type 0 where
  pub within : rest ≤ count
  pub begun : rest ≡ 0 → count ≡ 0
  pub passed : (bytes : List ℕ) → prepend_known before left ≡ Some bytes → prepend_known after leaves ≡ Some (drop (count - rest) bytes)

-- known bytes: those that are ready, and those of the reader
pub record IsBoth (ready : List ℕ) (left : Option (List ℕ)) (bytes : List ℕ) : Type 0 where
  pub others : List ℕ
  pub known : left ≡ Some others
  pub all : ready ++ others ≡ bytes

pub both_of : (ready : List ℕ) (left : Option (List ℕ)) (bytes : List ℕ) → prepend_known ready left ≡ Some bytes → IsBoth ready left bytes
both_of ready None bytes is = absurd cc
both_of ready (Some ys) bytes is = record { others = ys; known = refl; all = cc }

-- what is ready when nothing was
given_all : (middle leaves : Option (List ℕ)) (after others : List ℕ) (more : Bool) → AreMoreReady middle leaves [] after more → middle ≡ Some others → prepend_known after leaves ≡ Some others
given_all None leaves after others more is known = absurd cc
given_all (Some xs) None after others more is known = absurd is.taken
given_all (Some xs) (Some ys) after others more is known =
    let same : xs ≡ others = cc in
    ap Some (ap (λ (l : List ℕ). l ++ ys) is.kept ∙ sym is.taken ∙ same)

ready_passed : (count rest : ℕ) (left leaves : Option (List ℕ)) (before mid : List ℕ) → length mid < rest → Passing count rest left leaves before mid
    → Passing count (rest - length mid) left leaves before []
ready_passed count rest left leaves before mid short p = record {
  within = omega (arith, p.within);
  begun = λ e. absurd (omega (arith, e, short));
  passed = λ bytes known.
      let b = both_of mid leaves (drop (count - rest) bytes) (p.passed bytes known) in
      let place : count - rest + length mid ≡ count - (rest - length mid) = omega (arith, p.within, short) in
      let behind : b.others ≡ drop (count - (rest - length mid)) bytes =
      sym (drop-append_seam mid b.others) ∙ ap (drop (length mid)) b.all ∙ drop-drop (length mid) (count - rest) bytes ∙ ap (λ (n : ℕ). drop n bytes) place in
      ap (prepend_known []) b.known ∙ ap Some behind;
}

-- who passes no more than so many passes no more than one more
pub one_more : (count passed : ℕ) (left leaves : Option (List ℕ)) → IsAdvanced (count - 1) passed left leaves → IsAdvanced count passed left leaves
one_more count passed left leaves is = record { within = omega (arith, is.within); behind = is.behind }

skims_on : (count rest passed : ℕ) (left middle leaves : Option (List ℕ)) (before : List ℕ) → passed < rest → IsAdvanced rest passed middle leaves → Passing count rest left middle before []
    → Passing count (rest - passed) left leaves before []
skims_on count rest passed left middle leaves before fewer is p = record {
  within = omega (arith, p.within);
  begun = λ e. absurd (omega (arith, e, fewer));
  passed = λ bytes known.
      let b = both_of [] middle (drop (count - rest) bytes) (p.passed bytes known) in
      let place : count - rest + passed ≡ count - (rest - passed) = omega (arith, p.within, fewer) in
      ap (prepend_known []) (is.behind b.others b.known) ∙ ap (λ (l : List ℕ). Some (drop passed l)) b.all ∙ ap Some (drop-drop passed (count - rest) bytes ∙ ap (λ (n : ℕ). drop n bytes) place);
}

-- what is ready was passed, and then bytes unread
pub both_passed : (count rest size passed : ℕ) (left middle leaves : Option (List ℕ)) (before mid : List ℕ) → size ≡ length mid → size < rest → passed < rest - size
    → IsAdvanced (rest - size) passed middle leaves → Passing count rest left middle before mid → Passing count (rest - size - passed) left leaves before []
both_passed count rest size passed left middle leaves before mid whole short fewer is p =
    skims_on count (rest - size) passed left middle leaves before fewer is (rw whole (ready_passed count rest left middle before mid (rw (sym whole) short) p))

pub reads_on : (count rest : ℕ) (left middle leaves : Option (List ℕ)) (before after : List ℕ) (more : Bool) → AreMoreReady middle leaves [] after more → Passing count rest left middle before []
    → Passing count rest left leaves before after
reads_on count rest left middle leaves before after more is p = record {
  within = p.within;
  begun = p.begun;
  passed = λ bytes known.
      let b = both_of [] middle (drop (count - rest) bytes) (p.passed bytes known) in
      given_all middle leaves after b.others more is b.known ∙ ap Some b.all;
}

enough_bytes : (count rest ready others all : ℕ) → rest ≤ count → (rest ≡ 0 → count ≡ 0) → rest ≤ ready → ready + others ≡ all - (count - rest) → count ≤ all
enough_bytes count zero ready others all within begun fits sum = omega (arith, begun refl)
enough_bytes count (suc rest) ready others all within begun fits sum = omega (arith, within, fits, sum)

pub all_passed : (count rest : ℕ) (left leaves : Option (List ℕ)) (before mid after : List ℕ) → rest ≤ length mid → after ≡ drop rest mid → Passing count rest left leaves before mid
    → IsPassed count left leaves before after true
all_passed count rest left leaves before mid after fits cut p = record {
  enough = λ e bytes known.
      let b = both_of mid leaves (drop (count - rest) bytes) (p.passed bytes known) in
      let place : count - rest + rest ≡ count = omega (arith, p.within) in
      let sum : length mid + length b.others ≡ length bytes - (count - rest) = sym (length-append mid b.others) ∙ ap length b.all ∙ length-drop (count - rest) bytes in
      let behind : after ++ b.others ≡ drop count bytes =
      ap (λ (l : List ℕ). l ++ b.others) cut ∙ sym (drop-append-le rest mid b.others fits) ∙ ap (drop rest) b.all ∙ drop-drop rest (count - rest) bytes ∙ ap (λ (n : ℕ). drop n bytes) place in (
        enough_bytes count rest (length mid) (length b.others) (length bytes) p.within p.begun fits sum,
        ap (prepend_known after) b.known ∙ ap Some behind,
      );
  few = λ e. absurd cc;
}

pub at_end : (leaves : Option (List ℕ)) (others : List ℕ) → IsAtEnd leaves → leaves ≡ Some others → others ≡ []
at_end None others end known = absurd cc
at_end (Some xs) others end known = let same : xs ≡ others = cc in sym same ∙ end

pub ends_few : (count rest : ℕ) (left middle leaves : Option (List ℕ)) (before after : List ℕ) → 0 < rest → AreMoreReady middle leaves [] after false → Passing count rest left middle before []
    → IsPassed count left leaves before after false
ends_few count rest left middle leaves before after some is p = record {
  enough = λ e. absurd cc;
  few = λ e bytes known.
      let b = both_of after leaves (drop (count - rest) bytes) ((reads_on count rest left middle leaves before after false is p).passed bytes known) in
      let none : length after ≡ 0 = ap length (is.kept ∙ (is.ended refl).0) in
      let others : length b.others ≡ 0 = ap length (at_end leaves b.others (is.ended refl).1 b.known) in
      omega (arith, ap length b.all, length-append after b.others, length-drop (count - rest) bytes, none, others, some, p.within);
}
