-- Stretches with one more message, and the time that they take.
use Rattle.std.proofs.Common.{◌≡◌, ℕ, ◌+◌, ◌-◌, ◌^◌, Bool, true, false, if◌then◌else◌, List, [], ◌∷◌, arith}
use Rattle.std.specs.List.{sum_by}
use Rattle.ch11_layout.specs.Stamps.{Recorded}
use Rattle.ch11_reader.specs.Contents.{capped}
use Rattle.bench_stat.specs.Measures.{one_if}
use Rattle.bench_stat.specs.Stretches.{latest_stamp, is_fall, falls, with_next, stretches, span_of_stretch, span, kept_of, kept_span, stretches_of, with_fall, with_stamp, with_stretch}
use Rattle.bench_stat.proofs.Counting.{summed_more}

no_latest : (x : ℕ) → capped (capped x + (0 - (2 ^ 64 - 1))) ≡ capped x
no_latest x = omega arith

kept_all : (n stamp : ℕ) (ss : List (List Recorded)) → kept_span (kept_of n stamp ss) ≡ capped (sum_by span_of_stretch ss)
kept_all n stamp [] = no_latest (sum_by span_of_stretch [])
kept_all n stamp (s ∷ ss) = summed_more span_of_stretch s ss

pub span_kept : (history : List Recorded) → kept_span (stretches_of history) ≡ span history
span_kept history = kept_all (falls history) (latest_stamp history) (stretches history)

one_fall : (n : ℕ) → capped (capped n + 1) ≡ capped (1 + n)
one_fall n = omega arith

no_fall : (n : ℕ) → capped n ≡ capped (0 + n)
no_fall n = omega arith

stretched : (fell : Bool) (n stamp : ℕ) (m : Recorded) (ss : List (List Recorded))
    → with_stamp m (if fell then with_fall (kept_of n stamp ss) else kept_of n stamp ss) ≡ kept_of (one_if fell + n) m.stamp (with_next fell m ss)
stretched true n stamp m ss =
    let a = one_fall n in
    let b = kept_all n stamp ss in
    cc
stretched false n stamp m [] =
    let a = no_fall n in
    cc
stretched false n stamp m (s ∷ ss) =
    let a = no_fall n in
    cc

pub stretch_more : (m : Recorded) (history : List Recorded) → with_stretch m (stretches_of history) ≡ stretches_of (m ∷ history)
stretch_more m history = stretched (is_fall history m) (falls history) (latest_stamp history) m (stretches history)
