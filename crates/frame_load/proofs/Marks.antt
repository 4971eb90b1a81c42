-- What the tables hold, from one place to the next.
use Rattle.std.proofs.Common.{rules, tests, ◌≡◌, ◌≢◌, ◌⊎◌, inl, inr, ℕ, zero, suc, ◌+◌, ◌-◌, ◌*◌, ◌<◌, ◌≤◌, min, List, [], ◌∷◌, length, get_or, set, Some, refl, sym, ap, ap₂, ◌∙◌, subst, ⊎_elim, arith}
use Rattle.std.specs.Prelude.{Bool, cond, slice_get, IsTrue, true, false}
use Rattle.std.proofs.Math.Nat.{mul_comm, mul-le-mul_left, mul-one}
use Rattle.std.proofs.lemmas.Bool.{cases_lt}
use Rattle.std.proofs.lemmas.List.{get_or-set_same, get_or-set_other}
use Rattle.std.proofs.lemmas.Option.{slice_get-get_or}
use Rattle.frame_code.specs.declared.Op.{Op}
use Rattle.frame_code.specs.declared.Op.TheVariants.{Loop, Again, Begin, Pace}
use Rattle.frame_code.specs.Ranges.{is_count, AreInRange}
use Rattle.frame_code.specs.Ranges as ranges
use Rattle.frame_code.specs.Loadable.{tail, after, open_at, is_loop, opens_loop}
use Rattle.frame_load.specs.declared.nesting.Kind.TheVariants.{Loops, Frames}
use Rattle.frame_load.specs.Marks.{innermost, kind_at}
use Rattle.frame_load.specs.Budget.{turns_of, weight_in, weight}
use Rattle.frame_load.proofs.Counts.{IsOpening, IsClosing, opened_after, closed_after}
use Rattle.frame_load.proofs.Opened.{opened}

pub is_true : IsTrue true
is_true = search rules

pub not_true : {X : Type 0} → IsTrue false → X
not_true h = absurd (let no : false ≡ true = search rules in cc)

pub op_at : (os : List Op) (i : ℕ) (d o : Op) → i < length os → get_or os i d ≡ o → slice_get os i ≡ Some o
op_at os i d o h e = slice_get-get_or os i d h ∙ ap Some e

pub no_loop : (o : Op) → ((n : ℕ) → o ≡ Loop n → ⊥) → is_loop (Some o) ≡ false
no_loop (Loop n) h = absurd (h n refl)
no_loop _ h = refl

-- what the code tells by two patterns
pub is_opening : (o : Op) → ((n : ℕ) × (o ≡ Loop n)) ⊎ (o ≡ Begin) → IsOpening o
is_opening o (inl x) = subst IsOpening (sym x.1) tt
is_opening o (inr x) = subst IsOpening (sym x) tt

pub is_closing : (o : Op) → ((i : ℕ) × (o ≡ Again i)) ⊎ ((h : ℕ) × (o ≡ Pace h)) → IsClosing o
is_closing o (inl x) = subst IsClosing (sym x.1) tt
is_closing o (inr x) = subst IsClosing (sym x.1) tt

pub no_opening : (o : Op) → ((n : ℕ) → o ≡ Loop n → ⊥) → (o ≡ Begin → ⊥) → IsOpening o → ⊥
no_opening (Loop n) nl nb u = nl n refl
no_opening Begin nl nb u = nb refl
no_opening _ nl nb u = u

pub no_closing : (o : Op) → ((i : ℕ) → o ≡ Again i → ⊥) → ((h : ℕ) → o ≡ Pace h → ⊥) → IsClosing o → ⊥
no_closing (Again i) na np u = na i refl
no_closing (Pace h) na np u = np h refl
no_closing _ na np u = u

-- one more entry
pub more_marks : (f : ℕ → ℕ) (xs : List ℕ) (i v : ℕ) → i < length xs → ((p : ℕ) → p < i → get_or xs p 0 ≡ f p) → v ≡ f i → (p : ℕ) → p < i + 1 → get_or (set xs i v) p 0 ≡ f p
more_marks f xs i v inside below here p h =
    ⊎_elim (λ lt. let apart : p ≢ i = λ e. omega (arith, e, lt) in get_or-set_other xs i p v 0 apart ∙ below p lt)
    (λ le. let same : p ≡ i = omega (arith, h, le) in ap (λ q. get_or (set xs i v) q 0) same ∙ get_or-set_same xs i v 0 inside ∙ here ∙ ap f (sym same)) (cases_lt p i)

module _ (os : List Op) where
  next_open : (i : ℕ) (o : Op) → slice_get os i ≡ Some o → open_at os (i + 1) ≡ after (Some o) i (open_at os i)
  next_open i o at = let s : i + 1 ≡ suc i = omega arith in ap (open_at os) s ∙ ap (λ v. after v i (open_at os i)) at

  pub innermost_below : (p : ℕ) → innermost (open_at os p) ≤ p
  innermost_below p = by (open_at os p) refl
    where
      by : (st : List ℕ) → open_at os p ≡ st → innermost (open_at os p) ≤ p
      by [] e = omega (arith, ap innermost e)
      by (s ∷ st) e = omega (arith, ap innermost e, (opened os p p s st (omega arith) e).2)

  -- what is open outside the innermost bracket
  pub outside : (p s : ℕ) (st : List ℕ) → open_at os p ≡ s ∷ st → open_at os (innermost (open_at os p) - 1) ≡ st
  outside p s st e = let here : innermost (open_at os p) - 1 ≡ s = omega (arith, ap innermost e) in ap (open_at os) here ∙ (opened os p p s st (omega arith) e).3

  pub same_brackets : (i p : ℕ) → innermost (open_at os i) ≡ innermost (open_at os p) → open_at os i ≡ open_at os p
  same_brackets i p e = by (open_at os i) (open_at os p) refl refl
    where
      by : (a b : List ℕ) → open_at os i ≡ a → open_at os p ≡ b → open_at os i ≡ open_at os p
      by [] [] x y = x ∙ sym y
      by [] (t ∷ b) x y = absurd (omega (arith, e, ap innermost x, ap innermost y))
      by (s ∷ a) [] x y = absurd (omega (arith, e, ap innermost x, ap innermost y))
      by (s ∷ a) (t ∷ b) x y =
          let same : s ≡ t = omega (arith, e, ap innermost x, ap innermost y) in
          let rest : a ≡ b = sym (opened os i i s a (omega arith) x).3 ∙ ap (open_at os) same ∙ (opened os p p t b (omega arith) y).3 in
          x ∙ ap₂ (λ v vs. v ∷ vs) same rest ∙ sym y

  pub mark_opened : (i : ℕ) (o : Op) → IsOpening o → slice_get os i ≡ Some o → innermost (open_at os (i + 1)) ≡ i + 1
  mark_opened i o u at = ap innermost (next_open i o at ∙ opened_after o u i (open_at os i))

  next_closed : (i : ℕ) (o : Op) → IsClosing o → slice_get os i ≡ Some o → open_at os (i + 1) ≡ tail (open_at os i)
  next_closed i o u at = next_open i o at ∙ closed_after o u i (open_at os i)

  pub out_same : (i : ℕ) (o : Op) → IsClosing o → slice_get os i ≡ Some o → innermost (open_at os i) ≡ 0 → open_at os (i + 1) ≡ open_at os i
  out_same i o u at none = by (open_at os i) refl
    where
      by : (st : List ℕ) → open_at os i ≡ st → open_at os (i + 1) ≡ open_at os i
      by [] e = next_closed i o u at ∙ ap tail e ∙ sym e
      by (s ∷ st) e = absurd (omega (arith, none, ap innermost e))

  -- what closes a bracket goes back to what was open before it was opened
  pub back_out : (i : ℕ) (o : Op) → IsClosing o → slice_get os i ≡ Some o → innermost (open_at os i) ≢ 0 → open_at os (i + 1) ≡ open_at os (innermost (open_at os i) - 1)
  back_out i o u at some = by (open_at os i) refl
    where
      by : (st : List ℕ) → open_at os i ≡ st → open_at os (i + 1) ≡ open_at os (innermost (open_at os i) - 1)
      by [] e = absurd (some (ap innermost e))
      by (s ∷ st) e = next_closed i o u at ∙ ap tail e ∙ sym (outside i s st e)

  pub mark_other : (i : ℕ) (o : Op) → slice_get os i ≡ Some o → (IsOpening o → ⊥) → (IsClosing o → ⊥) → open_at os (i + 1) ≡ open_at os i
  mark_other i o at nl na = next_open i o at ∙ by o nl na
    where
      by : (x : Op) → (IsOpening x → ⊥) → (IsClosing x → ⊥) → after (Some x) i (open_at os i) ≡ open_at os i
      by (Loop n) nl na = absurd (nl tt)
      by Begin nl na = absurd (nl tt)
      by (Again b) nl na = absurd (na tt)
      by (Pace h) nl na = absurd (na tt)
      by _ nl na = refl

  -- the kind of a bracket is told by its mark
  pub kind_marked : (p m : ℕ) {b : Bool} → m ≡ innermost (open_at os p) → m ≢ 0 → opens_loop os (m - 1) ≡ b → kind_at os (open_at os p) ≡ Some (cond b Loops Frames)
  kind_marked p m {b} e some is = by (open_at os p) refl
    where
      by : (st : List ℕ) → open_at os p ≡ st → kind_at os (open_at os p) ≡ Some (cond b Loops Frames)
      by [] x = absurd (some (e ∙ ap innermost x))
      by (s ∷ st) x = let here : m - 1 ≡ s = omega (arith, e, ap innermost x) in ap (kind_at os) x ∙ ap (λ v. Some (cond v Loops Frames)) (ap (opens_loop os) (sym here) ∙ is)

  pub jumps_by : (table : List ℕ) (p i : ℕ) → ((p : ℕ) → p < length os → get_or table p 0 ≡ innermost (open_at os p)) → p < length os → i < length os → get_or table i 0 ≡ get_or table p 0 → open_at os i ≡ open_at os p
  jumps_by table p i marked hp hi e = same_brackets i p (sym (marked i hi) ∙ e ∙ marked p hp)

  pub jumps_back : (table : List ℕ) (p i : ℕ) → ((p : ℕ) → p < length os → get_or table p 0 ≡ innermost (open_at os p)) → p < length os → i < length os → open_at os i ≡ open_at os p → get_or table i 0 ≡ get_or table p 0
  jumps_back table p i marked hp hi e = marked i hi ∙ ap innermost e ∙ sym (marked p hp)

  -- weights
  loop_weight : (i n : ℕ) → slice_get os i ≡ Some (Loop n) → weight os (i + 1) ≡ n * weight os i
  loop_weight i n at = ap (weight_in os) (next_open i (Loop n) at) ∙ ap (λ v. turns_of v * weight os i) at

  pub frame_weight : (i : ℕ) → slice_get os i ≡ Some Begin → weight os (i + 1) ≡ weight os i
  frame_weight i at = ap (weight_in os) (next_open i Begin at) ∙ ap (λ v. turns_of v * weight os i) at ∙ (omega arith)

  -- what opens no loop, and closes no bracket, leaves the weight as it is
  pub other_weight : (i : ℕ) (o : Op) → slice_get os i ≡ Some o → ((n : ℕ) → o ≡ Loop n → ⊥) → (IsClosing o → ⊥) → weight os (i + 1) ≡ weight os i
  other_weight i o at nl na = by o at nl na
    where
      by : (x : Op) → slice_get os i ≡ Some x → ((n : ℕ) → x ≡ Loop n → ⊥) → (IsClosing x → ⊥) → weight os (i + 1) ≡ weight os i
      by (Loop n) e nl na = absurd (nl n refl)
      by Begin e nl na = frame_weight i e
      by (Again b) e nl na = absurd (na tt)
      by (Pace h) e nl na = absurd (na tt)
      by x e nl na = ap (weight_in os) (mark_other i x e (λ u. u) (λ u. u))

capped : (cap n a b : ℕ) → 1 ≤ n → a ≡ min cap b → min (n * a) cap ≡ min cap (n * b)
capped cap n a b h e =
    ⊎_elim (λ lt. let same : a ≡ b = omega (arith, e, lt) in omega (arith, ap (λ v. n * v) same))
    (λ le. let full : a ≡ cap = omega (arith, e, le) in omega (arith, mul-le-mul_left n le, ap (λ v. n * v) full, one (n - 1), le)) (cases_lt b cap)
  where
    one : (k : ℕ) → cap ≤ n * cap
    one k = let z = mul-le-mul_left cap h in omega (arith, z, mul_comm cap n, mul-one cap)

-- a loop goes round at least once
pub count_of : (n : ℕ) → IsTrue (is_count n) → 1 ≤ n
count_of n h = search (rules, tests)

-- each operation is in its range
pub range_at : (os : List Op) (i : ℕ) (o : Op) → AreInRange os → slice_get os i ≡ Some o → IsTrue (ranges.in_range o)
range_at [] i o r e = absurd (cc)
range_at (x ∷ os) zero o r e = let same : x ≡ o = cc in subst (λ v. IsTrue (ranges.in_range v)) same r.0
range_at (x ∷ os) (suc i) o r e = range_at os i o r.1 e

pub mark_weight : (cap : ℕ) (os : List Op) (i n v w : ℕ) → AreInRange os → slice_get os i ≡ Some (Loop n) → w ≡ min cap (weight os i) → v ≡ min (n * w) cap → v ≡ min cap (weight os (i + 1))
mark_weight cap os i n v w r at e f = f ∙ capped cap n w (weight os i) (count_of n (range_at os i (Loop n) r at)) e ∙ ap (min cap) (sym (loop_weight os i n at))
