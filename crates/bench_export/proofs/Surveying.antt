-- What is known of changes, as one more is noted.
use Rattle.std.proofs.Common.{◌≡◌, ℕ, zero, suc, ◌+◌, ◌-◌, ◌==◌, ◌<◌, ◌≤◌, Bool, true, false, ◌||◌, nat_lt, if◌then◌else◌, ◌⊎◌, ◌≢◌, List, [], ◌∷◌, ◌++◌, length, get_or, set, Option, None, Some, ⊎_elim, inl, inr, refl, sym, ap, subst, ◌∙◌, arith}
use Rattle.std.specs.List.{All, Contains}
use Rattle.std.specs.List.Sorted.{IsPermutation}
use Rattle.std.proofs.lemmas.Bool.{cases_eq}
use Rattle.std.proofs.lemmas.Bool.Decides.{nat_tests}
use Rattle.std.proofs.Math.Bool.{or-false, or-true}
use Rattle.std.proofs.lemmas.List.{append-nil, get_or-set_same, get_or-set_other, get_or-replicate}
use Rattle.std.proofs.lemmas.List.Folds.{list_any-append}
use Rattle.std.proofs.lemmas.List.Sorted.{All-permutation, Contains-permutation, length_permutation, list_any-IsPermutation}
use Rattle.std.proofs.lemmas.List.Elements.{All-nil, All-cons, All-push, All-weaker, All-contains, Contains-append_left, Contains-push}
use Rattle.bench_export.specs.Changes.{AreInOrder}
use Rattle.bench_export.specs.Merging.{IsLag, IsLeast, IsSurvey, least_tick, lower}
use Rattle.bench_export.specs.Waves.{ArePresent, first_tick, has_channel}
use Rattle.bench_export.specs.declared.changes.Change.{Change}
use Rattle.bench_export.proofs.Orders.{Across, lag_both, lag_wider}

-- one channel more is marked
marked_case : (marks : List Bool) (cs : List Change) (c : Change) (k : ℕ) → length marks ≡ 65536 → k < 65536 → get_or marks k false ≡ has_channel k cs
    → (k ≡ c.channel) ⊎ (k ≢ c.channel) → get_or (set marks c.channel true) k false ≡ has_channel k (cs ++ c ∷ [])
marked_case marks cs c k long below here (inl is) =
    let one : (c.channel == k) ≡ true = grind (arith, nat_tests) in
    ap (λ (n : ℕ). get_or (set marks c.channel true) n false) is
    ∙ get_or-set_same marks c.channel true false (omega (arith, long, below, is))
    ∙ sym (list_any-append (λ (x : Change). x.channel == k) cs (c ∷ [])
    ∙ ap (λ (b : Bool). has_channel k cs || (b || false)) one ∙ or-true (has_channel k cs))
marked_case marks cs c k long below here (inr off) =
    let other : (c.channel == k) ≡ false = grind (arith, nat_tests) in
    get_or-set_other marks c.channel k true false off ∙ here
    ∙ sym (list_any-append (λ (x : Change). x.channel == k) cs (c ∷ [])
    ∙ ap (λ (b : Bool). has_channel k cs || (b || false)) other ∙ or-false (has_channel k cs))

marked_more : (marks : List Bool) (cs : List Change) (c : Change) → length marks ≡ 65536 → ArePresent marks cs → ArePresent (set marks c.channel true) (cs ++ c ∷ [])
marked_more marks cs c long h k below = marked_case marks cs c k long below (h k below) (cases_eq k c.channel)

-- the least tick of changes, and of one more
least_kept : (tick : ℕ) (cs : List Change) (c : Change) → tick < c.tick → IsLeast (Some tick) cs → IsLeast (Some tick) (cs ++ c ∷ [])
least_kept tick cs c less h = (
  All-push (λ (x : Change). tick ≤ x.tick) cs c h.0 (omega (arith, less)),
  (h.1.0, Contains-append_left cs (c ∷ []) h.1.0 h.1.1, h.1.2),
)

least_lower : (tick : ℕ) (cs : List Change) (c : Change) → c.tick ≤ tick → IsLeast (Some tick) cs → IsLeast (Some c.tick) (cs ++ c ∷ [])
least_lower tick cs c le h = (
  All-push (λ (x : Change). c.tick ≤ x.tick) cs c (All-weaker (λ (x : Change). tick ≤ x.tick) (λ (x : Change). c.tick ≤ x.tick) (λ x g. omega (arith, g, le)) cs h.0) (omega arith),
  (c, Contains-push cs c, refl),
)

least_first : (cs : List Change) (c : Change) → cs ≡ [] → IsLeast (Some c.tick) (cs ++ c ∷ [])
least_first cs c none = (
  All-push (λ (x : Change). c.tick ≤ x.tick) cs c (subst (All (λ (x : Change). c.tick ≤ x.tick)) (sym none) (All-nil (λ (x : Change). c.tick ≤ x.tick))) (omega arith),
  (c, Contains-push cs c, refl),
)

lower_case : (tick : ℕ) (cs : List Change) (c : Change) (b : Bool) → nat_lt tick c.tick ≡ b → IsLeast (Some tick) cs
    → IsLeast (Some (if b then tick else c.tick)) (cs ++ c ∷ [])
lower_case tick cs c true is h = least_kept tick cs c (grind (arith, nat_tests)) h
lower_case tick cs c false is h = least_lower tick cs c (grind (arith, nat_tests)) h

lower_least : (least : Option ℕ) (cs : List Change) (c : Change) → IsLeast least cs → IsLeast (Some (lower least c.tick)) (cs ++ c ∷ [])
lower_least None cs c none = least_first cs c none
lower_least (Some tick) cs c h = lower_case tick cs c (nat_lt tick c.tick) refl h

-- nothing was noted
pub none_noted : (marks : List Bool) → ((k : ℕ) → k < 65536 → get_or marks k false ≡ false) → IsSurvey marks None 0 0 []
none_noted marks off = record {
  present = λ k below. off k below;
  least = refl;
  newest = All-nil (λ (x : Change). x.tick ≤ 0);
  lag = tt;
}

-- one change more was noted
pub one_noted : (marks : List Bool) (old : Option ℕ) (newest lag wider newer : ℕ) (cs : List Change) (c : Change) → length marks ≡ 65536
    → lag ≤ wider → newest - c.tick ≤ wider → newest ≤ newer → c.tick ≤ newer
    → IsSurvey marks old newest lag cs → IsSurvey (set marks c.channel true) (Some (lower old c.tick)) newer wider (cs ++ c ∷ [])
one_noted marks old newest lag wider newer cs c long more behind up over s = record {
  present = marked_more marks cs c long s.present;
  least = lower_least old cs c s.least;
  newest = All-push (λ (x : Change). x.tick ≤ newer) cs c (All-weaker (λ (x : Change). x.tick ≤ newest) (λ (x : Change). x.tick ≤ newer) (λ x g. omega (arith, g, up)) cs s.newest) over;
  lag =
      lag_both wider cs (c ∷ []) (lag_wider lag wider cs more s.lag) (All-nil (λ (x : Change). c.tick ≤ x.tick + wider), tt)
      (All-weaker (λ (x : Change). x.tick ≤ newest) (λ (x : Change). All (λ (b : Change). x.tick ≤ b.tick + wider) (c ∷ []))
      (λ x g. All-cons (λ (b : Change). x.tick ≤ b.tick + wider) c [] (omega (arith, g, behind)) (All-nil (λ (b : Change). x.tick ≤ b.tick + wider))) cs s.newest);
}

-- the marks are those of the same changes in order
pub present_in_order : (marks : List Bool) (cs given : List Change) → IsPermutation cs given → ArePresent marks cs → ArePresent marks given
present_in_order marks cs given same h k below = h k below ∙ list_any-IsPermutation (λ (x : Change). x.channel == k) cs given same

no_first : (given : List Change) → length given ≡ 0 → 0 ≡ first_tick given
no_first [] none = refl
no_first (c ∷ cs) none = absurd (omega (arith, none))

one_first : (tick : ℕ) (given : List Change) (c : Change) → (k : ℕ) → k < length given → get_or given k c ≡ c → c.tick ≡ tick → All (λ (x : Change). tick ≤ x.tick) given
    → ((i j : ℕ) (d : Change) → i ≤ j → j < length given → (get_or given i d).tick ≤ (get_or given j d).tick) → tick ≡ first_tick given
one_first tick [] c k within at is above rising = absurd (omega (arith, within))
one_first tick (g ∷ gs) c k within at is above rising =
    let low : tick ≤ g.tick = above 0 g (omega arith) in
    let high : g.tick ≤ (get_or (g ∷ gs) k c).tick = rising 0 k c (omega arith) within in
    omega (arith, low, high, ap (λ (x : Change). x.tick) at, is)

-- the least tick is that of the first of the same changes in order
pub first_in_order : (least : Option ℕ) (cs given : List Change) → IsLeast least cs → AreInOrder cs given → least_tick least ≡ first_tick given
first_in_order None cs given none o = no_first given (length_permutation cs given o.same ∙ ap length none)
first_in_order (Some tick) cs given h o =
    let at = Contains-permutation cs given h.1.0 o.same h.1.1 in
    one_first tick given h.1.0 at.0 at.1 at.2 h.1.2 (All-permutation (λ (x : Change). tick ≤ x.tick) cs given o.same h.0) o.rising
