-- What is kept of the first numbers at which words are put up, as one action more is noted.
use Rattle.std.proofs.Common.{◌≡◌, ◌≢◌, ℕ, ◌+◌, ◌*◌, ◌<◌, ◌≤◌, ◌&&◌, ◌||◌, true, false, Bool, nat_eq, List, [], ◌∷◌, ◌++◌, refl, sym, ap, ap₂, ◌∙◌, arith, length, replicate, get_or, set}
use Rattle.std.specs.Prelude.{Option, Some, None, nat_le}
use Rattle.std.proofs.lemmas.List.{length-replicate, length-set, get_or-replicate, get_or-set_other}
use Rattle.std.proofs.lemmas.List.Folds.{list_any-append}
use Rattle.std.proofs.lemmas.Grind.{get_or-set_at}
use Rattle.std.proofs.lemmas.Bool.Decides.{nat_tests}
use Rattle.mil_host.specs.declared.actions.Action.{Action}
use Rattle.bc_machine.specs.declared.placed.Placed.{Placed}
use Rattle.bc_machine.specs.declared.placed.HostAction.{HostAction}
use Rattle.bc_machine.specs.declared.placed.HostAction.TheVariants.{Terminal, Controller}
use Rattle.bench_check.specs.Filling.{put_up_at, puts_up, fills_at, fills, is_filled, is_reached, AreFirsts}

or_no : (b : Bool) → (b || false) ≡ b
or_no true = refl
or_no false = refl

and_yes : (b : Bool) → (b && true) ≡ b
and_yes true = refl
and_yes false = refl

and_no : (b : Bool) → (b && false) ≡ false
and_no true = refl
and_no false = refl

-- nothing is kept where there is no action
pub none_yet : (firsts : List (Option ℕ)) → firsts ≡ replicate 1024 None → AreFirsts firsts []
none_yet firsts is = record {
  all = ap length is ∙ length-replicate {A = Option ℕ} 1024 None;
  told = λ n a s la ls. ap (λ (xs : List (Option ℕ)). is_reached (get_or xs (32 * a + s) None) n) is ∙ ap (λ (f : Option ℕ). is_reached f n) (get_or-replicate {A = Option ℕ} 1024 (32 * a + s) None None (omega arith));
}

more : (n a s : ℕ) (before : List Placed) (one : Placed) → is_filled n a s (before ++ one ∷ []) ≡ (is_filled n a s before || fills n a s one)
more n a s before one = list_any-append (fills n a s) before (one ∷ []) ∙ ap (λ b. is_filled n a s before || b) (or_no (fills n a s one))

-- an action that puts no words up at these addresses changes nothing
pub none_more : (firsts : List (Option ℕ)) (before : List Placed) (one : Placed)
    → ((n a s : ℕ) → a < 32 → s < 32 → fills n a s one ≡ false) → AreFirsts firsts before → AreFirsts firsts (before ++ one ∷ [])
none_more firsts before one off so_far = record {
  all = so_far.all;
  told = λ n a s la ls. so_far.told n a s la ls ∙ sym (more n a s before one ∙ ap (λ b. is_filled n a s before || b) (off n a s la ls) ∙ or_no (is_filled n a s before));
}

-- what is done at no terminal
pub at_none : (one : Placed) → ((address : ℕ) (action : Action) → one.action ≢ Terminal address action) → (n a s : ℕ) → a < 32 → s < 32 → fills n a s one ≡ false
at_none one other n a s la ls = ap (λ b. nat_le one.number n && b) (by_action one.action other) ∙ and_no (nat_le one.number n)
  where
    by_action : (x : HostAction) → ((address : ℕ) (action : Action) → x ≢ Terminal address action) → fills_at a s x ≡ false
    by_action (Terminal address action) none = absurd (none address action refl)
    by_action (Controller asked) none = refl

-- an action that puts no words up
pub no_words : (one : Placed) (address : ℕ) (action : Action) → one.action ≡ Terminal address action → put_up_at action ≡ None → (n a s : ℕ) → a < 32 → s < 32 → fills n a s one ≡ false
no_words one address action is none n a s la ls =
    ap (λ x. nat_le one.number n && fills_at a s x) is
    ∙ (rw none (ap (λ b. nat_le one.number n && b) (and_no (nat_eq address a)) ∙ and_no (nat_le one.number n)))

-- an action at no terminal's address puts none up at one
pub no_terminal : (one : Placed) (address : ℕ) (action : Action) → one.action ≡ Terminal address action → 32 ≤ address → (n a s : ℕ) → a < 32 → s < 32 → fills n a s one ≡ false
no_terminal one address action is high n a s la ls =
    let off : nat_eq address a ≡ false = grind (arith, nat_tests) in
    ap (λ x. nat_le one.number n && fills_at a s x) is
    ∙ ap (λ b. nat_le one.number n && (b && puts_up s action)) off ∙ and_no (nat_le one.number n)

apart : (x y a s : ℕ) → y < 32 → s < 32 → (nat_eq x a && nat_eq y s) ≡ false → 32 * a + s ≢ 32 * x + y
apart x y a s ly ls off = λ e.
    let first : x ≡ a = omega (arith, e) in
    let second : y ≡ s = omega (arith, e) in
    let yes : (nat_eq x a && nat_eq y s) ≡ true = grind (arith, nat_tests) in
    cc

-- of an action that puts words up the number is kept where it is the least so far
pub one_more : (firsts : List (Option ℕ)) (before : List Placed) (one : Placed) (address : ℕ) (action : Action) (put : ℕ) (first : ℕ)
    → one.action ≡ Terminal address action → put_up_at action ≡ Some put → address < 32 → put < 32
    → ((n : ℕ) → nat_le first n ≡ (is_reached (get_or firsts (32 * address + put) None) n || nat_le one.number n))
    → AreFirsts firsts before → AreFirsts (set firsts (32 * address + put) (Some first)) (before ++ one ∷ [])
one_more firsts before one address action put first done is low sub least so_far = record {
  all = length-set firsts place (Some first) ∙ so_far.all;
  told = λ n a s la ls. at n a s la ls (nat_eq address a && nat_eq put s) refl ∙ sym (more n a s before one);
}
  where
    place : ℕ
    place = 32 * address + put

    filled : (n a s : ℕ) → fills n a s one ≡ (nat_le one.number n && (nat_eq address a && nat_eq put s))
    filled n a s = ap (λ x. nat_le one.number n && fills_at a s x) done ∙ (rw is refl)

    at : (n a s : ℕ) → a < 32 → s < 32 → (b : Bool) → (nat_eq address a && nat_eq put s) ≡ b
        → is_reached (get_or (set firsts place (Some first)) (32 * a + s) None) n ≡ (is_filled n a s before || fills n a s one)
    at n a s la ls true on =
        let here : 32 * a + s ≡ place = grind (arith, nat_tests) in
        let old : is_reached (get_or firsts place None) n ≡ is_filled n a s before = ap (λ k. is_reached (get_or firsts k None) n) (sym here) ∙ so_far.told n a s la ls in
        let one_is : fills n a s one ≡ nat_le one.number n = filled n a s ∙ ap (λ b. nat_le one.number n && b) on ∙ and_yes (nat_le one.number n) in
        ap (λ f. is_reached f n) (get_or-set_at firsts place (32 * a + s) (Some first) None here (omega (arith, so_far.all))) ∙ least n ∙ ap₂ (λ p q. p || q) old (sym one_is)
    at n a s la ls false off =
        let elsewhere : 32 * a + s ≢ place = apart address put a s sub ls off in
        let one_is : fills n a s one ≡ false = filled n a s ∙ ap (λ b. nat_le one.number n && b) off ∙ and_no (nat_le one.number n) in
        ap (λ f. is_reached f n) (get_or-set_other firsts place (32 * a + s) (Some first) None elsewhere) ∙ so_far.told n a s la ls ∙ sym (ap (λ b. is_filled n a s before || b) one_is ∙ or_no (is_filled n a s before))
