-- The numbers with which packets go over tell the jumps of the recording.
use Rattle.std.proofs.Common.{◌≡◌, ℕ, ◌+◌, ◌-◌, ◌%◌, ◌<◌, Bool, true, false, ◌&&◌, ◌||◌, List, [], ◌∷◌, refl, sym, ap, ◌∙◌, arith}
use Rattle.std.proofs.lemmas.Bool.{eqb-true}
use Rattle.std.specs.List.{AllByRecursion}
use Rattle.bench_cut.specs.Laws.{IsNumbered, jump, jumps_up_to, last_number}
use Rattle.bench_cut.specs.Numbers.{is_of, left_out, number_behind, went_over}
use Rattle.bench_cut.specs.Parts.{Part, goes_over}
use Rattle.bench_cut.proofs.ChannelLosses.{none_left}

-- a number less how many were left out
abbrev less : ℕ → ℕ → ℕ
less number out = (number + (256 - out % 256)) % 256

less_none : (number : ℕ) → number < 256 → less number 0 ≡ number
less_none number small = omega (arith, small)

-- behind a packet that went over
after_over : (own number out last : ℕ) → own < 256 → number < 256 → last ≡ less own out → less number out ≡ (last + 1 + (jump own number + 0)) % 256
after_over own number out last a b is = omega (arith, a, b, is)

-- behind one that was left out
after_out : (own number out last jumps : ℕ) → own < 256 → number < 256 → less own out ≡ (last + 1 + jumps) % 256 → less number (1 + out) ≡ (last + 1 + (jump own number + jumps)) % 256
after_out own number out last jumps a b is = omega (arith, a, b, is)

or_right : (a b : Bool) → a ≡ false → (a || b) ≡ true → b ≡ true
or_right true b e o = absurd cc
or_right false b e o = o

module _ (channel : ℕ) where
  told : (earlier : List Part) (number : ℕ) → AllByRecursion IsNumbered earlier → number < 256 → went_over channel earlier ≡ true
      → less number (left_out channel earlier) ≡ (last_number channel earlier + 1 + jumps_up_to channel earlier number) % 256
  told [] number all small went = absurd cc
  told (p ∷ earlier) number all small went = by (is_of channel p) (goes_over p) (went_over channel earlier) refl refl refl (λ n less_than before. told earlier n all.1 less_than before)
    where
      -- (stated over the three tests, so that each case computes)
      by : (own over before : Bool) → is_of channel p ≡ own → goes_over p ≡ over → went_over channel earlier ≡ before
          → ((n : ℕ) → n < 256 → went_over channel earlier ≡ true → less n (left_out channel earlier) ≡ (last_number channel earlier + 1 + jumps_up_to channel earlier n) % 256)
          → less number (left_out channel (p ∷ earlier)) ≡ (last_number channel (p ∷ earlier) + 1 + jumps_up_to channel (p ∷ earlier) number) % 256
      by false over before o g w so_far =
          let same : (0 + left_out channel earlier) ≡ left_out channel earlier = omega arith in
          let later : went_over channel earlier ≡ true = or_right (is_of channel p && goes_over p) (went_over channel earlier) (rw o refl) went in
          rw o (ap (less number) same ∙ so_far number small later)
      by true true before o g w so_far =
          let here : channel ≡ p.header.channel = sym (eqb-true p.header.channel channel o) in
          let same : (0 + left_out channel earlier) ≡ left_out channel earlier = omega arith in
          let last : number_behind earlier p ≡ less p.header.sequence (left_out channel earlier) = ap (λ (k : ℕ). less p.header.sequence (left_out k earlier)) (sym here) in
          rw (o, g) (ap (less number) same ∙ after_over p.header.sequence number (left_out channel earlier) (number_behind earlier p) all.0 small last)
      by true false true o g w so_far =
          rw (o, g, w) (after_out p.header.sequence number (left_out channel earlier) (last_number channel earlier) (jumps_up_to channel earlier p.header.sequence) all.0 small (so_far p.header.sequence all.0 w))
      by true false false o g w so_far = absurd (let e : went_over channel (p ∷ earlier) ≡ false = rw (o, g, w) refl in cc)

pub numbers_tell : (earlier : List Part) (p : Part) → AllByRecursion IsNumbered earlier → IsNumbered p
    → (went_over p.header.channel earlier ≡ false → number_behind earlier p ≡ p.header.sequence)
    × (went_over p.header.channel earlier ≡ true → number_behind earlier p ≡ (last_number p.header.channel earlier + 1 + jumps_up_to p.header.channel earlier p.header.sequence) % 256)
numbers_tell earlier p all small = (
  λ none. ap (less p.header.sequence) (none_left p.header.channel earlier none) ∙ less_none p.header.sequence small,
  λ went. told p.header.channel earlier p.header.sequence all small went,
)
