-- Parts of rows that have all of one number.
use Rattle.std.proofs.Common.{◌≡◌, ◌≢◌, ◌+◌, ◌-◌, ◌<◌, ◌≤◌, get_or, ◌==◌, ℕ, zero, suc, Bool, true, false, cond, List, [], ◌∷◌, length, take, drop, eqb, refl, sym, ap, ◌∙◌, arith}
use Rattle.std.specs.List.{AllWithin, filter}
use Rattle.std.specs.List.Sorted.{IsNonDecreasingBy}
use Rattle.std.proofs.lemmas.List.{take_all, length-drop, length-take, get_or-take, get_or-drop, get_or_default}
use Rattle.std.specs.Prelude.{All}
use Rattle.std.proofs.lemmas.Bool.Decides.{nat_tests}
use Rattle.bc_machine.specs.Beside.{BesideLists}
use Rattle.bc_machine.specs.declared.placed.Placed.{Placed}
use Rattle.bc_machine.specs.declared.action_rows.Row.{Row}
use Rattle.bc_machine.specs.Controller.{placed_at}
use Rattle.bc_machine.specs.Rows.{placed_of, all_placed, rows_at}

module _ {X : Type 0} (number_of : X → ℕ) where
  abbrev at : ℕ → List X → List X
  at n xs = filter (λ (x : X). number_of x == n) xs

  other : (x : X) (n : ℕ) (xs : List X) → number_of x ≢ n → at n (x ∷ xs) ≡ at n xs
  other x n xs h = grind (arith, nat_tests)

  -- those before are of numbers below
  skip : (xs : List X) (f n : ℕ) → AllWithin (λ x. number_of x < n) xs 0 f → at n (drop f xs) ≡ at n xs
  skip xs zero n h = refl
  skip [] (suc f) n h = refl
  skip (x ∷ xs) (suc f) n h =
      let less : number_of x < n = h 0 x (omega arith) (omega arith) in
      skip xs f n (λ k d low high. h (suc k) d (omega arith) (omega (arith, high))) ∙ sym (other x n xs (λ e. omega (arith, e, less)))

  none : (xs : List X) (n : ℕ) → AllWithin (λ x. n < number_of x) xs 0 (length xs) → at n xs ≡ []
  none [] n h = refl
  none (x ∷ xs) n h =
      let more : n < number_of x = h 0 x (omega arith) (omega arith) in
      other x n xs (λ e. omega (arith, e, more)) ∙ none xs n (λ k d low high. h (suc k) d (omega arith) (omega (arith, high)))

  -- those behind are of numbers above
  pub stop : (xs : List X) (t n : ℕ) → AllWithin (λ x. n < number_of x) xs t (length xs) → at n (take t xs) ≡ at n xs
  stop xs zero n h = sym (none xs n h)
  stop [] (suc t) n h = refl
  stop (x ∷ xs) (suc t) n h =
      ap (λ ys. cond (number_of x == n) (x ∷ ys) ys) (stop xs t n (λ k d low high. h (suc k) d (omega (arith, low)) (omega (arith, high))))

  -- the part behind those below and before those above
  pub around : (xs : List X) (n f t : ℕ) → AllWithin (λ x. number_of x < n) xs 0 f
      → AllWithin (λ x. n + 1 ≤ number_of x) (take (length xs - f) (drop f xs)) t (length (take (length xs - f) (drop f xs)))
      → at n (take t (take (length xs - f) (drop f xs))) ≡ at n xs
  around xs n f t before behind =
      let rest = take (length xs - f) (drop f xs) in
      let whole : rest ≡ drop f xs = take_all (length xs - f) (drop f xs) (omega (arith, length-drop f xs)) in
      stop rest t n (λ k d low high. omega (arith, behind k d low high))
      ∙ ap (at n) whole
      ∙ skip xs f n before

  -- it has no other
  pub alone : (xs : List X) (n f t : ℕ) → AllWithin (λ x. n ≤ number_of x) xs f (length xs)
      → AllWithin (λ x. number_of x < n + 1) (take (length xs - f) (drop f xs)) 0 t
      → All (λ x. number_of x ≡ n) (take t (take (length xs - f) (drop f xs)))
  alone xs n f t low high k d less =
      let rest = take (length xs - f) (drop f xs) in
      let whole : rest ≡ drop f xs = take_all (length xs - f) (drop f xs) (omega (arith, length-drop f xs)) in
      let short = length-take t rest in
      let long : length rest ≡ length xs - f = ap length whole ∙ length-drop f xs in
      let first : get_or (take t rest) k d ≡ get_or rest k d = get_or-take t rest k d (omega (arith, less, short)) in
      let at : get_or rest k d ≡ get_or xs (f + k) d = ap (λ ys. get_or ys k d) whole ∙ get_or-drop f xs k d in
      let least = low (f + k) d (omega arith) (omega (arith, less, short, long)) in
      let most = high k d (omega arith) (omega (arith, less, short)) in
      let same : number_of (get_or (take t rest) k d) ≡ number_of (get_or rest k d) = ap number_of first in
      let here : number_of (get_or rest k d) ≡ number_of (get_or xs (f + k) d) = ap number_of at in
      omega (arith, same, here, least, most)

  -- those in front of one that is below are below, and those from one on that is not are not
  pub all_below : (xs : List X) (n p : ℕ) (e : X) → IsNonDecreasingBy number_of xs → p ≤ length xs
      → number_of (get_or xs (p - 1) e) < n → AllWithin (λ x. number_of x < n) xs 0 p
  all_below xs n p e rising within less k d low high =
      let here : number_of (get_or xs k d) ≡ number_of (get_or xs k e) = ap number_of (get_or_default xs k d e (omega (arith, high, within))) in
      let most = rising k (p - 1) e (omega (arith, high)) (omega (arith, high, within)) in
      omega (arith, here, most, less)

  pub all_others : (xs : List X) (n p : ℕ) (e : X) → IsNonDecreasingBy number_of xs
      → n ≤ number_of (get_or xs p e) → AllWithin (λ x. n ≤ number_of x) xs p (length xs)
  all_others xs n p e rising more k d low high =
      let here : number_of (get_or xs k d) ≡ number_of (get_or xs k e) = ap number_of (get_or_default xs k d e high) in
      let least = rising p k e low high in
      omega (arith, here, least, more)

-- ---- what rows stand for

-- the actions of a number are those of its rows
pub placed_at_rows : (n : ℕ) (beside : BesideLists) (rows : List Row) → placed_at n (all_placed beside rows) ≡ all_placed beside (rows_at n rows)
placed_at_rows n beside [] = refl
placed_at_rows n beside (r ∷ rs) = by_case (eqb r.number n) (placed_at_rows n beside rs)
  where
    by_case : (b : Bool) → placed_at n (all_placed beside rs) ≡ all_placed beside (rows_at n rs)
        → cond b (placed_of beside r ∷ placed_at n (all_placed beside rs)) (placed_at n (all_placed beside rs)) ≡ all_placed beside (cond b (r ∷ rows_at n rs) (rows_at n rs))
    by_case true h = ap (λ (ps : List Placed). placed_of beside r ∷ ps) h
    by_case false h = h

pub same_placed : (n : ℕ) (beside : BesideLists) (rows others : List Row) → rows_at n rows ≡ rows_at n others → placed_at n (all_placed beside rows) ≡ placed_at n (all_placed beside others)
same_placed n beside rows others same = placed_at_rows n beside rows ∙ ap (all_placed beside) same ∙ sym (placed_at_rows n beside others)
