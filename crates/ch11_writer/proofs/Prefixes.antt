-- Bytes that were taken in parts.
use Rattle.std.proofs.Common.{◌≡◌, ℕ, ◌+◌, ◌-◌, ◌≤◌, List, ◌++◌, length, take, drop, None, Some, refl, ap, ◌∙◌, subst, append_assoc, arith, Bool, true, false, not}
use Rattle.std.specs.declared.option.Option.{Option}
use Rattle.std.specs.Io.KnownBytes.{Appends}
use Rattle.std.proofs.lemmas.List.{take_rest, length-drop, length-append, take_all}
use Rattle.std.proofs.Math.Seq.{take-add, take-append-add}
use Rattle.ch11_writer.specs.Writing.{IsWritten}

-- one run behind another
pub appends_both : (first middle last : Option (List ℕ)) (xs ys : List ℕ) → Appends first middle xs → Appends middle last ys → Appends first last (xs ++ ys)
appends_both None middle last xs ys a b = tt
appends_both (Some us) None last xs ys a b = absurd a
appends_both (Some us) (Some vs) None xs ys a b = absurd b
appends_both (Some us) (Some vs) (Some ws) xs ys a b = b ∙ ap (λ (t : List ℕ). t ++ ys) a ∙ append_assoc us xs ys

-- the next part of a run
pub appends_next : (first middle last : Option (List ℕ)) (count n : ℕ) (bytes : List ℕ) → Appends first middle (take count bytes) → Appends middle last (take n (take (length bytes - count) (drop count bytes)))
    → Appends first last (take (count + n) bytes)
appends_next first middle last count n bytes a b =
    let parts : take count bytes ++ take n (take (length bytes - count) (drop count bytes)) ≡ take (count + n) bytes = rw (take_rest bytes count, take-add count n bytes) refl in
    subst (Appends first last) parts (appends_both first middle last (take count bytes) (take n (take (length bytes - count) (drop count bytes))) a b)

-- the next part is within the bytes
pub next_within : (count n : ℕ) (bytes : List ℕ) → count ≤ length bytes → n ≤ length (take (length bytes - count) (drop count bytes)) → count + n ≤ length bytes
next_within count n bytes le h =
    let size : length (take (length bytes - count) (drop count bytes)) ≡ length bytes - count = ap length (take_rest bytes count) ∙ length-drop count bytes in
    omega arith

-- bytes that are put to a writer that has not failed
pub written_next : (put bytes : List ℕ) (before old new : Option (List ℕ)) (count n : ℕ) (failed : Bool) → IsWritten put before (record { bytes = old; count = count; failed = false }) → n ≤ length bytes
    → Appends old new (take n bytes) → (failed ≡ false → n ≡ length bytes) → IsWritten (put ++ bytes) before (record { bytes = new; count = count + n; failed = failed })
written_next put bytes before old new count n failed w within a whole =
    let all : count ≡ length put = w.whole refl in
    let own : take count put ≡ put = take_all count put (omega arith) in
    let parts : take count put ++ take n bytes ≡ take (count + n) (put ++ bytes) = rw (all, take-append-add put bytes n) (rw (← all, own) refl) in
    record {
      within = omega (arith, length-append put bytes);
      taken = subst (Appends before new) parts (appends_both before old new (take count put) (take n bytes) w.taken a);
      whole = λ no. omega (arith, length-append put bytes, whole no);
    }

pub was_whole : (whole : Bool) → not whole ≡ false → whole ≡ true
was_whole true is = refl
was_whole false is = cc
