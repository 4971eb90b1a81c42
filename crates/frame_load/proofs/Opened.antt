-- Where brackets are opened, and where routines begin.
use Rattle.std.proofs.Common.{rules, ◌≡◌, ℕ, zero, suc, ◌+◌, ◌-◌, ◌<◌, ◌≤◌, true, cond, List, [], ◌∷◌, ◌++◌, length, get_or, Option, Some, None, refl, sym, ap, ◌∙◌, subst, ◌⊎◌, inl, inr, ⊎_elim, arith, length-append}
use Rattle.std.specs.Prelude.{slice_get, nat_lt}
use Rattle.std.proofs.Math.Seq.{get_or-append_seam}
use Rattle.std.proofs.lemmas.Bool.{cases_lt}
use Rattle.std.proofs.lemmas.Option.{slice_get-get_or, slice_get_past}
use Rattle.frame_code.specs.declared.Op.{Op}
use Rattle.frame_code.specs.declared.Op.TheVariants.{Halt, Send, Alt, SetGap, Loop, Again, Leave, Jump, Test, JumpFalse, Call, Return, Begin, Pace}
use Rattle.frame_code.specs.Routines.{ends_from, ends, routines, begin_of, main_of, routine_at, passed, owner_at}
use Rattle.frame_code.specs.Loadable.{tail, after, open_at, EndsInHalt}
use Rattle.frame_load.proofs.Counts.{IsOpening, IsClosing, opened_after, closed_after}

-- what is read is within
pub within : (os : List Op) (p : ℕ) (o : Op) → slice_get os p ≡ Some o → p < length os
within os p o e =
    ⊎_elim (λ lt. lt) (λ le. let none = slice_get_past os p le in absurd (let no : Some o ≡ None = sym e ∙ none in cc)) (cases_lt p (length os))

pub there : {X : Type 0} (xs : List X) (p : ℕ) → p < length xs → (x : X) × (slice_get xs p ≡ Some x)
there [] p h = absurd (omega arith)
there (x ∷ xs) zero h = (x, refl)
there (x ∷ xs) (suc p) h = there xs p (omega arith)

-- an operation that isn't Halt has one behind it
abbrev pub IsHalt : Op → Type 0
IsHalt Halt = Unit {0}
IsHalt _ = ⊥

last_halt : (os : List Op) (ends : EndsInHalt os) → slice_get os (length ends.0) ≡ Some Halt
last_halt os ends =
    ap (λ v. slice_get v (length ends.0)) ends.1 ∙ slice_get-get_or (ends.0 ++ Halt ∷ []) (length ends.0) Halt (omega (arith, length-append ends.0 (Halt ∷ []))) ∙ ap Some (get_or-append_seam ends.0 Halt [] Halt)

ends_long : (os : List Op) (ends : EndsInHalt os) → length os ≡ length ends.0 + 1
ends_long os ends = ap length ends.1 ∙ length-append ends.0 (Halt ∷ [])

pub next_within : (os : List Op) (p : ℕ) (o : Op) → EndsInHalt os → slice_get os p ≡ Some o → (IsHalt o → ⊥) → p + 1 < length os
next_within os p o ends e going =
    let lt = within os p o e in
    let long = ends_long os ends in
    ⊎_elim (λ l. omega (arith, l, long))
    (λ g.
    let at : p ≡ length ends.0 = omega (arith, g, lt, long) in
    let same : o ≡ Halt = let both : Some o ≡ Some Halt = sym e ∙ ap (slice_get os) at ∙ last_halt os ends in cc in
    absurd (going (subst IsHalt (sym same) tt)))
    (cases_lt p (length ends.0))

-- a Return ends its routine
abbrev pub IsReturn : Op → Type 0
IsReturn Return = Unit {0}
IsReturn _ = ⊥

pub same_routine : (os : List Op) (p : ℕ) (o : Op) → slice_get os p ≡ Some o → (IsReturn o → ⊥) → owner_at os (suc p) ≡ owner_at os p
same_routine os p o e h = ap (λ v. passed v (owner_at os p)) e ∙ by o h
  where
    by : (o : Op) → (IsReturn o → ⊥) → passed (Some o) (owner_at os p) ≡ owner_at os p
    by Return h = absurd (h tt)
    by _ h = refl

pub next_up : (os : List Op) (p : ℕ) → slice_get os p ≡ Some Return → owner_at os (suc p) ≡ suc (owner_at os p)
next_up os p e = ap (λ v. passed v (owner_at os p)) e

routine_step : (v : Option Op) (k : ℕ) → k ≤ passed v k
routine_step (Some Return) k = omega arith
routine_step _ k = omega arith

pub routine_grows : (os : List Op) (p d : ℕ) → owner_at os p ≤ owner_at os (p + d)
routine_grows os p zero = let e : p + 0 ≡ p = omega arith in omega (arith, ap (owner_at os) e)
routine_grows os p (suc d) =
    let e : p + suc d ≡ suc (p + d) = omega arith in
    omega (arith, routine_grows os p d, routine_step (slice_get os (p + d)) (owner_at os (p + d)), ap (owner_at os) e)

pub routine_le : (os : List Op) (p q : ℕ) → p ≤ q → owner_at os p ≤ owner_at os q
routine_le os p q h = let e : p + (q - p) ≡ q = omega (arith, h) in omega (arith, routine_grows os p (q - p), ap (owner_at os) e)

-- an open bracket has what opens it where it says
abbrev pub IsOpened : List Op → ℕ → ℕ → List ℕ → Type 0
IsOpened os p s st = (o : Op) × IsOpening o × (s < p) × (open_at os s ≡ st) × (slice_get os s ≡ Some o)

pub opened : (os : List Op) (n p : ℕ) (s : ℕ) (st : List ℕ) → p ≤ n → open_at os p ≡ s ∷ st → IsOpened os p s st
opened os n zero s st h e = absurd (cc)
opened os zero (suc p) s st h e = absurd (omega arith)
opened os (suc n) (suc p) s st h e = by_op (λ q s' st' l x. opened os n q s' st' l x) (slice_get os p) refl e
  where
    later : (q : ℕ) → q ≤ suc p → IsOpened os q s st → IsOpened os (suc p) s st
    later q l r = (r.0, r.1, omega (arith, l, r.2), r.3, r.4)

    here : (o : Op) → IsOpening o → slice_get os p ≡ Some o → p ∷ open_at os p ≡ s ∷ st → IsOpened os (suc p) s st
    here o u x y =
        let same : p ≡ s = cc in
        let rest : open_at os p ≡ st = cc in
        (o, u, omega (arith, same), ap (open_at os) (sym same) ∙ rest, ap (slice_get os) (sym same) ∙ x)

    popped : ((q s' : ℕ) (st' : List ℕ) → q ≤ n → open_at os q ≡ s' ∷ st' → IsOpened os q s' st') → (brackets : List ℕ) → open_at os p ≡ brackets → tail brackets ≡ s ∷ st → IsOpened os (suc p) s st
    popped below [] x y = absurd (cc)
    popped below (s1 ∷ st1) x y =
        let a = below p s1 st1 (omega arith) x in
        later s1 (omega (arith, a.2)) (below s1 s st (omega (arith, a.2)) (a.3 ∙ y))

    by_op : ((q s' : ℕ) (st' : List ℕ) → q ≤ n → open_at os q ≡ s' ∷ st' → IsOpened os q s' st') → (o : Option Op) → slice_get os p ≡ o → after o p (open_at os p) ≡ s ∷ st → IsOpened os (suc p) s st
    by_op below (Some (Loop k)) x y = here (Loop k) tt x y
    by_op below (Some Begin) x y = here Begin tt x y
    by_op below (Some (Again i)) x y = popped below (open_at os p) refl y
    by_op below (Some (Pace t)) x y = popped below (open_at os p) refl y
    by_op below _ x y = later p (omega arith) (below p s st (omega arith) y)

pub opens_no_end : (o : Op) → IsOpening o → IsReturn o → ⊥
opens_no_end Return u x = u
opens_no_end _ u x = x

pub closes_no_end : (o : Op) → IsClosing o → IsReturn o → ⊥
closes_no_end Return u x = u
closes_no_end _ u x = x

-- behind what closes a bracket the outer ones are open
pub closed_behind : (os : List Op) (q : ℕ) (o : Op) → IsClosing o → slice_get os q ≡ Some o → open_at os (suc q) ≡ tail (open_at os q)
closed_behind os q o u e = ap (λ v. after v q (open_at os q)) e ∙ closed_after o u q (open_at os q)

-- behind what opens a bracket it is the innermost one, in the same routine
pub open_behind : (os : List Op) (p s : ℕ) (st : List ℕ) → IsOpened os p s st → open_at os (suc s) ≡ s ∷ st
open_behind os p s st o = ap (λ v. after v s (open_at os s)) o.4 ∙ opened_after o.0 o.1 s (open_at os s) ∙ ap (λ v. s ∷ v) o.3

pub home_behind : (os : List Op) (p s : ℕ) (st : List ℕ) → IsOpened os p s st → owner_at os (suc s) ≡ owner_at os s
home_behind os p s st o = same_routine os s o.0 o.4 (opens_no_end o.0 o.1)

-- no bracket is open where a routine ends
abbrev pub EndsClosed : List Op → Type 0
EndsClosed os = (p : ℕ) → slice_get os p ≡ Some Return → open_at os p ≡ []

-- a bracket stands in the routine of what opens it
pub home : (os : List Op) → EndsClosed os → (n p s : ℕ) (st : List ℕ) → p ≤ n → open_at os p ≡ s ∷ st → owner_at os s ≡ owner_at os p
home os closed n zero s st h e = absurd (cc)
home os closed zero (suc p) s st h e = absurd (omega (arith, h))
home os closed (suc n) (suc p) s st h e = by (λ q t l x. home os closed n q t.0 t.1 l x) (slice_get os p) refl e
  where
    Below : Type 0
    Below = (q : ℕ) (t : ℕ × List ℕ) → q ≤ n → open_at os q ≡ t.0 ∷ t.1 → owner_at os t.0 ≡ owner_at os q

    popped : (o : Op) → (IsReturn o → ⊥) → slice_get os p ≡ Some o → ((q : ℕ) (t : ℕ × List ℕ) → q ≤ n → open_at os q ≡ t.0 ∷ t.1 → owner_at os t.0 ≡ owner_at os q) → (brackets : List ℕ) → open_at os p ≡ brackets → tail brackets ≡ s ∷ st → owner_at os s ≡ owner_at os (suc p)
    popped o u at below [] x y = absurd (cc)
    popped o u at below (s1 ∷ st1) x y =
        let a = opened os p p s1 st1 (omega arith) x in
        below s1 (s, st) (omega (arith, a.2, h)) (a.3 ∙ y) ∙ below p (s1, st1) (omega (arith, h)) x ∙ sym (same_routine os p o at u)

    by : ((q : ℕ) (t : ℕ × List ℕ) → q ≤ n → open_at os q ≡ t.0 ∷ t.1 → owner_at os t.0 ≡ owner_at os q) → (o : Option Op) → slice_get os p ≡ o → after o p (open_at os p) ≡ s ∷ st → owner_at os s ≡ owner_at os (suc p)
    by below (Some (Loop k)) x y = let here : s ≡ p = cc in ap (owner_at os) here ∙ sym (same_routine os p (Loop k) x (λ z. z))
    by below (Some Begin) x y = let here : s ≡ p = cc in ap (owner_at os) here ∙ sym (same_routine os p Begin x (λ z. z))
    by below (Some (Again i)) x y = popped (Again i) (λ z. z) x below (open_at os p) refl y
    by below (Some (Pace t)) x y = popped (Pace t) (λ z. z) x below (open_at os p) refl y
    by below (Some Return) x y = absurd (let none : [] ≡ s ∷ st = sym (closed p x) ∙ y in let long : 0 ≡ suc (length st) = ap length none in omega (arith, long))
    by below None x y = below p (s, st) (omega (arith, h)) y ∙ sym (ap (λ v. passed v (owner_at os p)) x)
    by below (Some Halt) x y = below p (s, st) (omega (arith, h)) y ∙ sym (same_routine os p Halt x (λ z. z))
    by below (Some (Send m)) x y = below p (s, st) (omega (arith, h)) y ∙ sym (same_routine os p (Send m) x (λ z. z))
    by below (Some (Alt m)) x y = below p (s, st) (omega (arith, h)) y ∙ sym (same_routine os p (Alt m) x (λ z. z))
    by below (Some (SetGap t)) x y = below p (s, st) (omega (arith, h)) y ∙ sym (same_routine os p (SetGap t) x (λ z. z))
    by below (Some (Leave i)) x y = below p (s, st) (omega (arith, h)) y ∙ sym (same_routine os p (Leave i) x (λ z. z))
    by below (Some (Jump i)) x y = below p (s, st) (omega (arith, h)) y ∙ sym (same_routine os p (Jump i) x (λ z. z))
    by below (Some (Test k)) x y = below p (s, st) (omega (arith, h)) y ∙ sym (same_routine os p (Test k) x (λ z. z))
    by below (Some (JumpFalse i)) x y = below p (s, st) (omega (arith, h)) y ∙ sym (same_routine os p (JumpFalse i) x (λ z. z))
    by below (Some (Call r)) x y = below p (s, st) (omega (arith, h)) y ∙ sym (same_routine os p (Call r) x (λ z. z))

-- places within the same bracket stand in one routine
pub same_home : (os : List Op) → EndsClosed os → (p q : ℕ) → open_at os p ≡ open_at os q → 0 < length (open_at os q) → owner_at os p ≡ owner_at os q
same_home os closed p q e some = by (open_at os q) refl
  where
    by : (st : List ℕ) → open_at os q ≡ st → owner_at os p ≡ owner_at os q
    by [] x = absurd (omega (arith, some, ap length x))
    by (s ∷ st) x = sym (home os closed p p s st (omega arith) (e ∙ x)) ∙ home os closed q q s st (omega arith) x

-- where a routine begins: at the first place, or behind the Return of the routine before
pub record Begun (os : List Op) (r b : ℕ) : Type 0 where
  pub routine : owner_at os b ≡ r
  pub none_open : open_at os b ≡ []
  pub first_or_next : (b ≡ 0) ⊎ ((p : ℕ) × (b ≡ suc p) × (slice_get os p ≡ Some Return))

-- one operation more in front
routine_front : (o : Op) (os : List Op) (p : ℕ) → owner_at (o ∷ os) (suc p) ≡ passed (Some o) 0 + owner_at os p
routine_front o os zero = omega arith
routine_front o os (suc p) = ap (passed (slice_get os p)) (routine_front o os p) ∙ by (slice_get os p) (passed (Some o) 0)
  where
    by : (v : Option Op) (k : ℕ) → passed v (k + owner_at os p) ≡ k + passed v (owner_at os p)
    by (Some Return) k = omega arith
    by _ k = refl

-- the Return behind which a routine begins that is not the first
abbrev Behind : List Op → ℕ → ℕ → ℕ → Type 0
Behind os k r b = (p : ℕ) × (b ≡ k + suc p) × (slice_get os p ≡ Some Return) × (owner_at os p ≡ r)

pub behind_at : (k : ℕ) (os : List Op) (r : ℕ) → r < length (ends_from k os) → Behind os k r (get_or (ends_from k os) r 0)
behind_at k [] r h = absurd (omega (arith, h))
behind_at k (o ∷ os) r h = by o r h (λ q l. behind_at (suc k) os q l)
  where
    by : (o : Op) (r : ℕ) → r < length (ends_from k (o ∷ os)) → ((q : ℕ) → q < length (ends_from (suc k) os) → Behind os (suc k) q (get_or (ends_from (suc k) os) q 0)) → Behind (o ∷ os) k r (get_or (ends_from k (o ∷ os)) r 0)
    by Return zero h below = (0, omega arith, refl, refl)
    by Return (suc r) h below =
        let i = below r (omega (arith, h)) in
        let n : owner_at (Return ∷ os) (suc i.0) ≡ suc r = omega (arith, routine_front Return os i.0, i.3) in
        (suc i.0, omega (arith, i.1), i.2, n)
    by o r h below =
        let i = below r h in
        let n : owner_at (o ∷ os) (suc i.0) ≡ r = omega (arith, routine_front o os i.0, i.3) in
        (suc i.0, omega (arith, i.1), i.2, n)

count_ends : (k : ℕ) (os : List Op) → length (ends_from k os) ≡ owner_at os (length os)
count_ends k [] = refl
count_ends k (o ∷ os) = by o (count_ends (suc k) os)
  where
    by : (o : Op) → length (ends_from (suc k) os) ≡ owner_at os (length os) → length (ends_from k (o ∷ os)) ≡ owner_at (o ∷ os) (suc (length os))
    by Return e = omega (arith, e, routine_front Return os (length os))
    by o e = omega (arith, e, routine_front o os (length os))

-- there are as many routines as Returns before the end
pub routines_are : (os : List Op) → routines os ≡ owner_at os (length os)
routines_are os = count_ends 0 os

pub begun_at : (os : List Op) → EndsClosed os → (r : ℕ) → r ≤ routines os → Begun os r (begin_of os r)
begun_at os closed zero h = record { routine = refl; none_open = refl; first_or_next = inl refl }
begun_at os closed (suc r) h =
    let i = behind_at 0 os r (omega (arith, h)) in
    let b : begin_of os (suc r) ≡ suc i.0 = omega (arith, i.1) in
    record {
      routine = ap (owner_at os) b ∙ next_up os i.0 i.2 ∙ ap suc i.3;
      none_open = ap (open_at os) b ∙ ap (λ v. after v i.0 (open_at os i.0)) i.2 ∙ closed i.0 i.2;
      first_or_next = inr (i.0, b, i.2);
    }

-- a routine that is there begins
pub routine_there : (os : List Op) (r : ℕ) → r < routines os → routine_at os r ≡ Some (begin_of os r)
routine_there os r h = let yes : nat_lt r (routines os) ≡ true = search rules in ap (λ b. cond b (Some (begin_of os r)) None) yes

pub main_begun : (os : List Op) → EndsClosed os → Begun os (routines os) (main_of os)
main_begun os closed = begun_at os closed (routines os) (omega arith)

pub begun_inside : (os : List Op) (r b : ℕ) → EndsInHalt os → Begun os r b → b < length os
begun_inside os r b ends g = ⊎_elim
    (λ z. omega (arith, z, ends_long os ends))
    (λ x. omega (arith, x.1, next_within os x.0 Return ends x.2 (λ h. h)))
    g.first_or_next
