-- The messages of a line that speaks of many, one by one.
use Rattle.std.proofs.Common.{◌≡◌, ℕ, zero, suc, ◌+◌, ◌-◌, ◌/◌, ◌<◌, ◌≤◌, List, [], ◌∷◌, ◌++◌, map, refl, sym, ap, ap₂, ◌∙◌, arith, inl, inr}
use Rattle.std.specs.Prelude.{Bool, true, false, ◌&&◌, Option, Some, None, nat_lt, length, if◌then◌else◌}
use Rattle.std.specs.List.{range_with_len, list_all}
use Rattle.std.specs.Option.{is_none}
use Rattle.std.proofs.Math.Nat.{div-mul-le_self, mul-le-mul_right}
use Rattle.std.proofs.lemmas.Bool.{cases_lt}
use Rattle.std.proofs.lemmas.List.FromFn.{map-range_with_len_more}
use Rattle.mil_line.specs.Plans.{Planned, faults_of}
use Rattle.mil_line.specs.Ranges.{is_number, is_in_range}
use Rattle.mil_line.specs.declared.faults.Fault.{Fault}
use Rattle.mil_line.specs.declared.error.LineError.TheVariants.{TooMany, OutOfRange}
use Rattle.job_file.specs.declared.error.LineFault.{LineFault}
use Rattle.job_file.specs.declared.error.LineFault.TheVariants.{Fault as BadFaultOf}
use Rattle.job_file.specs.declared.spans.Span.{Span}
use Rattle.job_file.specs.HeadLines.{may_plan}
use Rattle.job_file.specs.Faults.{plan_fault, first_fault}
use Rattle.job_file.specs.Spans.{IsSpan, span_count, span_number}

-- the numbers of a span stand in its range
pub number_high : (s : Span) (k : ℕ) → IsSpan s → k < span_count s → span_number s k ≤ 1000000
number_high s k i lt =
    let few : k ≤ (s.last - s.first) / s.step = omega (arith, lt) in
    let below = mul-le-mul_right s.step few in
    let whole = div-mul-le_self (s.last - s.first) s.step in
    omega (arith, below, whole, i.rising, i.high)

-- what holds of each index below a count
pub all_counted : (p : ℕ → Bool) (a n : ℕ) → ((k : ℕ) → k < a + n → p k ≡ true) → list_all p (range_with_len a n) ≡ true
all_counted p a zero h = refl
all_counted p a (suc n) h = rw (h a (omega arith), all_counted p (a + 1) n (λ k lt. h k (omega (arith, lt)))) refl

-- the first fault, one more index at a time
first_more : (fs : List (Option LineFault)) (o : Option LineFault) → first_fault fs ≡ None → first_fault (fs ++ o ∷ []) ≡ o
first_more [] None e = refl
first_more [] (Some why) e = refl
first_more (None ∷ fs) o e = first_more fs o e
first_more (Some why ∷ fs) o e = absurd (cc)

first_stays : (fs : List (Option LineFault)) (o : Option LineFault) (why : LineFault) → first_fault fs ≡ Some why → first_fault (fs ++ o ∷ []) ≡ Some why
first_stays [] o why e = absurd (cc)
first_stays (None ∷ fs) o why e = first_stays fs o why e
first_stays (Some w ∷ fs) o why e = e

module _ (g : ℕ → Option LineFault) where
  pub fine_more : (k : ℕ) → first_fault (map g (range_with_len 0 k)) ≡ None → g k ≡ None → first_fault (map g (range_with_len 0 (k + 1))) ≡ None
  fine_more k none here =
      ap first_fault (map-range_with_len_more g 0 k k (omega arith))
      ∙ first_more (map g (range_with_len 0 k)) (g k) none ∙ here

  pub wrong_at : (k count : ℕ) (why : LineFault) → k < count → first_fault (map g (range_with_len 0 k)) ≡ None → g k ≡ Some why
      → first_fault (map g (range_with_len 0 count)) ≡ Some why
  wrong_at k zero why lt none here = absurd (omega (arith, lt))
  wrong_at k (suc n) why lt none here =
      let one : suc n ≡ n + 1 = omega arith in
      ap (λ m. first_fault (map g (range_with_len 0 m))) one ∙ ap first_fault (map-range_with_len_more g 0 n n (omega arith))
      ∙ elim (cases_lt k n) [
        | inl below ↦ first_stays (map g (range_with_len 0 n)) (g n) why (wrong_at k n why below none here)
        | inr above ↦ let same : k ≡ n = omega (arith, lt, above) in first_more (map g (range_with_len 0 n)) (g n) (ap (λ m. first_fault (map g (range_with_len 0 m))) (sym same) ∙ none) ∙ ap g (sym same) ∙ here
      ]

-- faults may be planned where nothing is wrong with them
may_plan_is : (plan : List Planned) (f : Fault) (number : ℕ) → may_plan number f plan ≡ is_none (plan_fault plan f number)
may_plan_is plan f number = by (nat_lt (length (faults_of number plan)) 4) (is_number number && is_in_range f)
  where
    by : (a b : Bool) → (a && b) ≡ is_none (if a then (if b then None else Some (BadFaultOf OutOfRange)) else Some (BadFaultOf TooMany))
    by true true = refl
    by true false = refl
    by false true = refl
    by false false = refl

pub may_plan_all_is : (plan : List Planned) (f : Fault) (ns : List ℕ) → list_all (λ number. may_plan number f plan) ns ≡ is_none (first_fault (map (plan_fault plan f) ns))
may_plan_all_is plan f [] = refl
may_plan_all_is plan f (n ∷ ns) =
    ap₂ (λ a b. a && b) (may_plan_is plan f n) (may_plan_all_is plan f ns) ∙ by (plan_fault plan f n) (map (plan_fault plan f) ns)
  where
    by : (o : Option LineFault) (os : List (Option LineFault)) → (is_none o && is_none (first_fault os)) ≡ is_none (first_fault (o ∷ os))
    by None os = refl
    by (Some why) os = refl
