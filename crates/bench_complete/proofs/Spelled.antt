-- The digits of the text of a second.
use Rattle.std.proofs.Common.{◌≡◌, ℕ, ◌+◌, ◌*◌, ◌/◌, ◌%◌, ◌<◌, List, take, slice_index_or, ap, ◌∙◌, arith}
use Rattle.bench_clock.specs.Calendar.{Day, day_numbered}
use Rattle.bench_clock.specs.TimeText.{digit, time_of_day_text}
use Rattle.bench_clock.proofs.Days.{small_parts}
use Rattle.bench_complete.specs.UtcText.{second_text}

-- from a place on a text has the two digits of a number
abbrev pub IsPair : List ℕ → ℕ → ℕ → Type 0
IsPair text place n = (n < 100) × (slice_index_or text place 0 ≡ digit (n / 10)) × (slice_index_or text (place + 1) 0 ≡ digit n)

pub record Spells (text : List ℕ) (s : ℕ) : Type 0 where
  pub few : s / 86400 < 47482
  pub century : IsPair text 0 ((day_numbered (s / 86400)).year / 100)
  pub year : IsPair text 2 ((day_numbered (s / 86400)).year % 100)
  pub month : IsPair text 5 (day_numbered (s / 86400)).month
  pub day : IsPair text 8 (day_numbered (s / 86400)).day
  pub hours : IsPair text 11 (s % 86400 / 3600)
  pub minutes : IsPair text 14 (s % 86400 / 60 % 60)
  pub seconds : IsPair text 17 (s % 86400 % 60)

pub spells : (text : List ℕ) (s : ℕ) → s < 4102444800 → text ≡ second_text s → Spells text s
spells text s small is =
    let whole : s * 10000000 / 10000000 ≡ s = omega arith in
    let d : Day = day_numbered (s / 86400) in
    let same : text ≡ take 19 (time_of_day_text d (s % 86400) (s * 10000000 % 10000000)) =
    is ∙ ap (λ (k : ℕ). take 19 (time_of_day_text (day_numbered (k / 86400)) (k % 86400) (s * 10000000 % 10000000))) whole in
    let parts = small_parts (s / 86400) (omega (arith, small)) in
    let byte : (k : ℕ) → slice_index_or text k 0 ≡ slice_index_or (take 19 (time_of_day_text d (s % 86400) (s * 10000000 % 10000000))) k 0 =
    λ k. ap (λ (xs : List ℕ). slice_index_or xs k 0) same in
    record {
      few = omega (arith, small);
      century = (omega (arith, parts.0), omega (arith, byte 0), omega (arith, byte 1));
      year = (omega arith, omega (arith, byte 2), omega (arith, byte 3));
      month = (omega (arith, parts.1), omega (arith, byte 5), omega (arith, byte 6));
      day = (omega (arith, parts.2), omega (arith, byte 8), omega (arith, byte 9));
      hours = (omega arith, omega (arith, byte 11), omega (arith, byte 12));
      minutes = (omega arith, omega (arith, byte 14), omega (arith, byte 15));
      seconds = (omega arith, omega (arith, byte 17), omega (arith, byte 18));
    }
