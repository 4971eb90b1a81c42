-- Messages in front of which nothing is due: fewer of them, later ones, and those before a place.
use Rattle.std.proofs.Common.{◌≡◌, ℕ, ◌+◌, ◌<◌, ◌≤◌, Bool, true, false, List, [], ◌∷◌, ◌++◌, length, sym, ◌∙◌, subst, arith, append_assoc, length-append}
use Rattle.std.specs.Prelude.{◌==◌, cond, nat_le, count_by}
use Rattle.std.specs.List.{list_any}
use Rattle.std.proofs.lemmas.List.{append-nil}
use Rattle.std.proofs.lemmas.List.Folds.{list_any-append}
use Rattle.std.proofs.lemmas.List.Sums.{sum_by-append, count_by-le-length}
use Rattle.std.proofs.lemmas.Bool.{and_left, and_right, ne_eqb, lt-leb, or_left, not_from_true}
use Rattle.judge_rules.specs.declared.rules.Selector.{Selector}
use Rattle.job_moments.specs.declared.met.Met.{Met}
use Rattle.job_moments.specs.declared.moments.Moment.TheVariants.{Time, Nth}
use Rattle.job_moments.specs.declared.occasions.Occasion.TheVariants.{Numbers, Once, Places, Window}
use Rattle.job_moments.specs.declared.occasions.Turns.{Turns}
use Rattle.job_moments.specs.declared.quiet.Quiet.{Quiet}
use Rattle.job_moments.specs.Moments.{is_about, count_of, is_due, starts_by}
use Rattle.job_moments.specs.Planning.{is_turn, is_occasion}
use Rattle.job_moments.specs.Quiet.{IsQuiet, IsPart, Sleeps}

-- ---- any time

pub sleeps_later : (q : Quiet) (made : List Met) (due : List Met → Met → Bool) (met : Met)
    → Sleeps q made due → Sleeps q (made ++ met ∷ []) due
sleeps_later q made due met sleeps more next quiet =
    let same : (made ++ met ∷ []) ++ more ≡ made ++ (met ∷ more) = append_assoc made (met ∷ []) more in
    subst (λ (ms : List Met). due ms next ≡ false) (sym same)
    (sleeps (met ∷ more) next (subst (λ (ms : List Met). IsQuiet q ms next) same quiet))

pub sleeps_part : (part whole : Quiet) (made : List Met) (due : List Met → Met → Bool)
    → IsPart part whole → Sleeps whole made due → Sleeps part made due
sleeps_part part whole made due within sleeps more next quiet = sleeps more next (record {
  from = omega (arith, within.from, quiet.from);
  until = omega (arith, within.until, quiet.until);
  wake = omega (arith, within.wake, quiet.wake);
})

pub sleeps_now : (q : Quiet) (made : List Met) (next : Met) (due : List Met → Met → Bool)
    → Sleeps q made due → IsQuiet q made next → due made next ≡ false
sleeps_now q made next due sleeps quiet =
    subst (λ (ms : List Met). due ms next ≡ false) (append-nil made)
    (sleeps [] next (subst (λ (ms : List Met). IsQuiet q ms next) (sym (append-nil made)) quiet))

pub sleeps_unknown : (q : Quiet) (made : List Met) (due : List Met → Met → Bool) → q.wake ≡ 0 → Sleeps q made due
sleeps_unknown q made due none more next quiet = absurd (omega (arith, none, quiet.wake))

-- ---- by time

pub sleeps_until : (q : Quiet) (made : List Met) (ticks : ℕ) → q.until ≤ ticks
    → Sleeps q made (λ ms n. is_due ms n (Time ticks))
sleeps_until q made ticks until more next quiet = lt-leb ticks next.start (omega (arith, until, quiet.until))

pub sleeps_once : (q : Quiet) (made : List Met) (ticks : ℕ) → q.until ≤ ticks
    → Sleeps q made (λ ms n. is_occasion ms n (Once (Time ticks)))
sleeps_once q made ticks until more next quiet =
    and_left (starts_by ticks next) _ (lt-leb ticks next.start (omega (arith, until, quiet.until)))

-- a time that was met
pub sleeps_over : (q : Quiet) (made : List Met) (ticks : ℕ) → list_any (starts_by ticks) made ≡ true
    → Sleeps q made (λ ms n. is_occasion ms n (Once (Time ticks)))
sleeps_over q made ticks over more next quiet =
    let met : list_any (starts_by ticks) (made ++ more) ≡ true =
    list_any-append (starts_by ticks) made more ∙ or_left (list_any (starts_by ticks) made) (list_any (starts_by ticks) more) over in
    and_right (starts_by ticks next) _ (not_from_true (list_any (starts_by ticks) (made ++ more)) met)

-- a window that comes, or is over
pub sleeps_front : (q : Quiet) (made : List Met) (selector : Selector) (from to : ℕ) → q.until ≤ from
    → Sleeps q made (λ ms n. is_occasion ms n (Window selector from to))
sleeps_front q made selector from to until more next quiet =
    and_left _ (nat_le next.start to) (and_right (is_about selector next) _ (lt-leb from next.start (omega (arith, until, quiet.until))))

pub sleeps_behind : (q : Quiet) (made : List Met) (selector : Selector) (from to : ℕ) → to + 1 ≤ q.from
    → Sleeps q made (λ ms n. is_occasion ms n (Window selector from to))
sleeps_behind q made selector from to behind more next quiet =
    and_right _ (nat_le next.start to) (lt-leb next.start to (omega (arith, behind, quiet.from)))

-- ---- by place

-- which places none of these messages can have
abbrev pub IsNever : (ℕ → Bool) → Quiet → ℕ → ℕ → Type 0
IsNever hit q count number = (k : ℕ) → count < k → k + number < q.wake + count + 1 → hit k ≡ false

never_hit : (hit : ℕ → Bool) (about : Met → Bool) (q : Quiet) (made more : List Met) (next : Met)
    → IsNever hit q (count_by about made) (length made) → IsQuiet q (made ++ more) next → hit (count_by about (made ++ more) + 1) ≡ false
never_hit hit about q made more next never quiet =
    let count : count_by about (made ++ more) ≡ count_by about made + count_by about more = sum_by-append (λ (m : Met). cond (about m) 1 0) made more in
    let few = count_by-le-length about more in
    let long = length-append made more in
    never (count_by about (made ++ more) + 1) (omega (arith, count)) (omega (arith, count, few, long, quiet.wake))

pub sleeps_place : (q : Quiet) (made : List Met) (selector : Selector) (place : ℕ)
    → IsNever (λ k. k == place) q (count_of selector made) (length made)
    → Sleeps q made (λ ms n. is_due ms n (Nth selector place))
sleeps_place q made selector place never more next quiet =
    and_right (is_about selector next) _ (never_hit (λ k. k == place) (is_about selector) q made more next never quiet)

pub sleeps_turns : (q : Quiet) (made : List Met) (selector : Selector) (turns : Turns)
    → IsNever (is_turn turns) q (count_of selector made) (length made)
    → Sleeps q made (λ ms n. is_occasion ms n (Places selector turns))
sleeps_turns q made selector turns never more next quiet =
    and_right (is_about selector next) _ (never_hit (is_turn turns) (is_about selector) q made more next never quiet)

pub sleeps_numbers : (q : Quiet) (made : List Met) (turns : Turns)
    → IsNever (is_turn turns) q (length made) (length made)
    → Sleeps q made (λ ms n. is_occasion ms n (Numbers turns))
sleeps_numbers q made turns never more next quiet =
    let long = length-append made more in
    never (length (made ++ more) + 1) (omega (arith, long)) (omega (arith, long, quiet.wake))

-- a place that was passed, and one that comes
pub never_passed : (q : Quiet) (place count number : ℕ) → place ≤ count → IsNever (λ k. k == place) q count number
never_passed q place count number passed k above within = ne_eqb k place (λ e. omega (arith, e, passed, above))

pub never_before : (q : Quiet) (place count number : ℕ) → q.wake + count + 1 ≤ number + place → IsNever (λ k. k == place) q count number
never_before q place count number before k above within = ne_eqb k place (λ e. omega (arith, e, before, within))
