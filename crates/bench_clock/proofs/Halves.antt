-- The marks at or before a stamp, and those behind it.
use Rattle.std.proofs.Common.{◌≡◌, ℕ, zero, suc, ◌-◌, ◌<◌, ◌≤◌, true, false, leb, List, length, get_or, Some, refl, ap, arith, leb-true, leb-false, le-leb}
use Rattle.std.specs.Prelude.{slice_get}
use Rattle.std.specs.List.Sorted.{IsPartitionedBy, IsPartitionPoint}
use Rattle.std.proofs.lemmas.Option.{slice_get_within, slice_get-get_or}
use Rattle.bench_clock.specs.declared.clock.Mark.{Mark}
use Rattle.bench_clock.specs.declared.told.PacketTime.TheVariants.{Utc}
use Rattle.bench_clock.specs.Rising.{IsRising}

-- where no counter falls, no mark at or before the stamp comes after one that is behind it
pub parted : (ms : List Mark) (stamp : ℕ) → IsRising ms → IsPartitionedBy (λ (m : Mark). leb m.counter stamp) ms
parted ms stamp rising i j d le within before =
    let low = rising.order i j _ _ le (slice_get-get_or ms i d (omega arith)) (slice_get-get_or ms j d within) in
    le-leb _ _ (omega (arith, low, leb-true _ _ before))

-- what is read at the place of a mark
read : (ms : List Mark) (i : ℕ) (m : Mark) → slice_get ms i ≡ Some m → get_or ms i m ≡ m
read ms i m is =
    let there = slice_get-get_or ms i m (slice_get_within ms i m is) in
    cc

-- all marks in front of a point are at or before the stamp, and no other is
module _ (ms : List Mark) (stamp n : ℕ)
    (point : IsPartitionPoint (λ (m : Mark). leb m.counter stamp ≡ true) (λ (m : Mark). leb m.counter stamp ≡ false) ms n) where
  pub some_before : 0 < length ms → ((m : Mark) → slice_get ms 0 ≡ Some m → m.counter ≤ stamp) → 0 < n
  some_before some first = elim n as (λ k. n ≡ k → 0 < k) [
    | zero ↦ λ is.
        let d : Mark = record { counter = 0; time = Utc 0 } in
        let low = first (get_or ms 0 d) (slice_get-get_or ms 0 d some) in
        let high = leb-false _ _ (point.1 0 d (omega (arith, is)) some) in
        absurd (omega (arith, low, high))
    | suc k ↦ λ is. omega arith
  ] refl

  pub last_before : (m : Mark) → 0 < n → slice_get ms (n - 1) ≡ Some m → m.counter ≤ stamp
  last_before m some is =
      let at = ap (λ (x : Mark). x.counter) (read ms (n - 1) m is) in
      let low = leb-true _ _ (point.0 (n - 1) m (omega arith) (omega arith)) in
      omega (arith, at, low)

  pub none_behind : (j : ℕ) (m : Mark) → n - 1 < j → slice_get ms j ≡ Some m → stamp < m.counter
  none_behind j m lt is =
      let at = ap (λ (x : Mark). x.counter) (read ms j m is) in
      let high = leb-false _ _ (point.1 j m (omega arith) (slice_get_within ms j m is)) in
      omega (arith, at, high)
