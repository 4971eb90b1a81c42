-- A job that runs beside the messages of a recording.
use Rattle.std.proofs.Common.{◌≡◌, ℕ, zero, suc, ◌+◌, ◌-◌, ◌<◌, ◌≤◌, ◌⊎◌, inl, inr, Bool, true, false, cond, List, [], ◌∷◌, length, map, min, max, Option, None, Some, slice_get, Result, Ok, Err, refl, sym, ap, subst, ◌∙◌, arith}
use Rattle.std.specs.Prelude.{IfNone, IfSome, OnOk, option_map}
use Rattle.std.proofs.lemmas.Option.{slice_get-map, slice_get_past, slice_get_within}
use Rattle.ch11_f1.specs.declared.Record.{Record}
use Rattle.ch11_layout.specs.Stamps.{Recorded}
use Rattle.frame_tree.specs.Bounds.{IsSound}
use Rattle.bc_machine.specs.Running.{MachineState}
use Rattle.bc_machine.specs.declared.placed.Placed.{Placed}
use Rattle.job_file.specs.Machines.{IsOf}
use Rattle.job_file.specs.Meaning.{records}
use Rattle.job_file.specs.Spelled.{ChannelJob}
use Rattle.bench_compare.specs.Channels.{origins_by}
use Rattle.bench_compare.specs.Differences.{first_stamp, origins_of}
use Rattle.bench_compare.specs.declared.differences.Origins.{Origins}
use Rattle.bench_reproduce.specs.Readings.{read_again}
use Rattle.bench_reproduce.specs.Running.{ComparesNext, IsCompared, stamp_or, told_from}
use Rattle.bench_reproduce.specs.Sameness.{is_same, places, same_in, same_up_to}
use Rattle.bench_reproduce.specs.declared.judging.Standing.{Standing}
use Rattle.bench_reproduce.proofs.Alike.{less_or}

-- ---- the next record

pub next_is : (job : ChannelJob) (placed : List Placed) (m now : MachineState) (r : Option Record)
    → IfSome r (λ x. (job : ChannelJob) (placed : List Placed) → IsSound job.tree → IsOf job placed m → slice_get (records job placed) m.point.number ≡ Some x)
    → IfSome r (λ _. now.point.number ≡ m.point.number + 1)
    → IfNone r ((job : ChannelJob) (placed : List Placed) → IsSound job.tree → IsOf job placed m → m.point.number ≡ length (records job placed))
    → IfNone r (now.point.number ≡ m.point.number)
    → IsSound job.tree → IsOf job placed m
    → (r ≡ slice_get (records job placed) m.point.number) × (now.point.number ≡ min (m.point.number + 1) (length (records job placed)))
next_is job placed m now (Some x) here more all same sound of =
    let is = here job placed sound of in
    let within : m.point.number < length (records job placed) = slice_get_within (records job placed) m.point.number x is in
    (sym is, omega (arith, within, more))
next_is job placed m now None here more all same sound of =
    let end : m.point.number ≡ length (records job placed) = all job placed sound of in
    (sym (slice_get_past (records job placed) m.point.number (omega (arith, end))), omega (arith, end, same))

-- a message was compared with it, whatever job and placed actions the controller is of
pub compares_under : {E : Type 0} (result : Result (Unit {0}) E) (m after : MachineState) (r : Option Record) (before now : Standing) (a : Recorded)
    → OnOk result (IsCompared before a r now)
    → ((job : ChannelJob) (placed : List Placed) → IsSound job.tree → IsOf job placed m → (r ≡ slice_get (records job placed) m.point.number) × (after.point.number ≡ min (m.point.number + 1) (length (records job placed))))
    → OnOk result ((job : ChannelJob) (placed : List Placed) → IsSound job.tree → IsOf job placed m → ComparesNext (records job placed) m.point.number after.point.number before a now)
compares_under (Ok x) m after r before now a compared next = λ job placed sound of.
    let is = next job placed sound of in
    record {
      next = is.1;
      compared = subst (λ (o : Option Record). IsCompared before a o now) is.0 compared;
    }
compares_under (Err e) m after r before now a compared next = tt

one_or_none : (b : Bool) → cond b 1 0 ≤ 1
one_or_none true = omega arith
one_or_none false = omega arith

pub counts_one : {E : Type 0} (result : Result (Unit {0}) E) (r : Option Record) (before now : Standing) (a : Recorded)
    → OnOk result (IsCompared before a r now) → OnOk result (now.same ≤ before.same + 1)
counts_one (Ok x) r before now a compared =
    omega (arith, compared.same, one_or_none (is_same (told_from before a r) (Some a) (option_map read_again r)))
counts_one (Err e) r before now a compared = tt

-- ---- so many messages were compared

abbrev pub origins_at : Origins → ℕ → Option Origins
origins_at o zero = None
origins_at o (suc n) = Some o

module _ (xs : List Recorded) (rs : List Record) where
  pub record IsAt (n made : ℕ) (st : Standing) : Type 0 where
    pub number : made ≡ min n (length rs)
    pub same : st.same ≡ same_up_to (origins_of xs (map read_again rs)) xs (map read_again rs) n
    pub small : st.same ≤ n
    pub origins : st.origins ≡ origins_at (origins_of xs (map read_again rs)) n

  record_at : (n : ℕ) → slice_get rs (min n (length rs)) ≡ slice_get rs n
  record_at n = by (less_or n (length rs))
    where
      by : (n < length rs) ⊎ (length rs ≤ n) → slice_get rs (min n (length rs)) ≡ slice_get rs n
      by (inl less) = let e : min n (length rs) ≡ n = omega (arith, less) in ap (slice_get rs) e
      by (inr past) = slice_get_past rs (min n (length rs)) (omega (arith, past)) ∙ sym (slice_get_past rs n past)

first_of : (rs : List Record) → stamp_or (slice_get rs 0) ≡ first_stamp (map read_again rs)
first_of [] = refl
first_of (r ∷ rs) = refl

first_is : (xs : List Recorded) (a : Recorded) → slice_get xs 0 ≡ Some a → a.stamp ≡ first_stamp xs
first_is [] a is = absurd cc
first_is (x ∷ xs) a is = let e : x ≡ a = cc in ap (λ (m : Recorded). m.stamp) (sym e)

told_at : (xs : List Recorded) (rs : List Record) (n : ℕ) (st : Standing) (a : Recorded) → st.origins ≡ origins_at (origins_of xs (map read_again rs)) n → slice_get xs n ≡ Some a
    → told_from st a (slice_get rs n) ≡ origins_of xs (map read_again rs)
told_at xs rs zero st a is here =
    ap (λ (o : Option Origins). origins_by o a.stamp (stamp_or (slice_get rs 0))) is
    ∙ ap (λ (k : ℕ). origins_by None k (stamp_or (slice_get rs 0))) (first_is xs a here)
    ∙ ap (λ (k : ℕ). origins_by None (first_stamp xs) k) (first_of rs)
told_at xs rs (suc n) st a is here = ap (λ (o : Option Origins). origins_by o a.stamp (stamp_or (slice_get rs (suc n)))) is

pub begins : (xs : List Recorded) (rs : List Record) (made : ℕ) (st : Standing) → made ≡ 0 → st.origins ≡ None → st.same ≡ 0 → IsAt xs rs 0 made st
begins xs rs made st none origins same = record {
  number = omega (arith, none);
  same = same;
  small = omega (arith, same);
  origins = origins;
}

pub goes_on : (xs : List Recorded) (rs : List Record) (n made after : ℕ) (st now : Standing) (a : Recorded) → IsAt xs rs n made st → slice_get xs n ≡ Some a
    → ComparesNext rs made after st a now → IsAt xs rs (n + 1) after now
goes_on xs rs n made after st now a k here next =
    let o : Origins = origins_of xs (map read_again rs) in
    let record_is : slice_get rs made ≡ slice_get rs n = ap (slice_get rs) k.number ∙ record_at xs rs n in
    let read_is : option_map read_again (slice_get rs made) ≡ slice_get (map read_again rs) n = ap (option_map read_again) record_is ∙ sym (slice_get-map read_again rs n) in
    let told : told_from st a (slice_get rs made) ≡ o = ap (told_from st a) record_is ∙ told_at xs rs n st a k.origins here in
    let alike : is_same (told_from st a (slice_get rs made)) (Some a) (option_map read_again (slice_get rs made)) ≡ is_same o (slice_get xs n) (slice_get (map read_again rs) n) =
    ap (λ (t : Origins). is_same t (Some a) (option_map read_again (slice_get rs made))) told
    ∙ ap (λ (y : Option Recorded). is_same o (Some a) y) read_is
    ∙ ap (λ (x : Option Recorded). is_same o x (slice_get (map read_again rs) n)) (sym here) in
    let more : n + 1 ≡ suc n = omega arith in
    let count : now.same ≡ same_up_to o xs (map read_again rs) (suc n) =
    next.compared.same ∙ ap (λ (b : Bool). st.same + cond b 1 0) alike
    ∙ ap (λ (k : ℕ). k + cond (is_same o (slice_get xs n) (slice_get (map read_again rs) n)) 1 0) k.same in
    record {
      number = omega (arith, next.next, k.number);
      same = count ∙ ap (same_up_to o xs (map read_again rs)) (sym more);
      small = omega (arith, next.compared.same, one_or_none (is_same (told_from st a (slice_get rs made)) (Some a) (option_map read_again (slice_get rs made))), k.small);
      origins = next.compared.origins ∙ ap (λ (t : Origins). Some t) told ∙ ap (origins_at o) (sym more);
    }

-- ---- all were compared

beyond : (o : Origins) (xs ys : List Recorded) (n : ℕ) → same_up_to o xs ys (n + length xs) ≡ same_up_to o xs ys (length xs)
beyond o xs ys zero = let e : 0 + length xs ≡ length xs = omega arith in ap (same_up_to o xs ys) e
beyond o xs ys (suc n) =
    let none : slice_get xs (n + length xs) ≡ None = slice_get_past xs (n + length xs) (omega arith) in
    let other : cond (is_same o (slice_get xs (n + length xs)) (slice_get ys (n + length xs))) 1 0 ≡ 0 =
    ap {B = ℕ} (λ (x : Option Recorded). cond (is_same o x (slice_get ys (n + length xs))) 1 0) none in
    let e : suc n + length xs ≡ suc (n + length xs) = omega arith in
    let same : same_up_to o xs ys (suc (n + length xs)) ≡ same_up_to o xs ys (length xs) = omega (arith, other, beyond o xs ys n) in
    ap (same_up_to o xs ys) e ∙ same

pub all_compared : (xs : List Recorded) (rs : List Record) (n made : ℕ) (st : Standing) → IsAt xs rs n made st → n ≡ length xs → st.same ≡ same_in xs (map read_again rs)
all_compared xs rs n made st k all =
    let o : Origins = origins_of xs (map read_again rs) in
    let ys : List Recorded = map read_again rs in
    let left : (more : ℕ) × (places xs ys ≡ more + length xs) = rest (length xs) (length ys) in
    k.same ∙ ap (same_up_to o xs ys) all ∙ sym (beyond o xs ys left.0) ∙ ap (same_up_to o xs ys) (sym left.1)
  where
    rest : (k n : ℕ) → (more : ℕ) × (max k n ≡ more + k)
    rest k n = by (less_or k n)
      where
        by : (k < n) ⊎ (n ≤ k) → (more : ℕ) × (max k n ≡ more + k)
        by (inl less) = (n - k, omega (arith, less))
        by (inr past) = (0, omega (arith, past))
