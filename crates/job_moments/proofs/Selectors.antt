-- Selectors that compare equal are the same.
use Rattle.std.proofs.Common.{◌≡◌, ℕ, true, refl, ap}
use Rattle.std.specs.Prelude.{◌==◌, ◌&&◌, Bool, Option, Some, None}
use Rattle.std.specs.Option.{option_eq}
use Rattle.std.proofs.lemmas.Bool.{and_parts, eqb-true}
use Rattle.judge_rules.specs.declared.rules.Selector.{Selector}
use Rattle.judge_rules.specs.declared.rules.Selector.TheVariants.{Any, Receive, Transmit, Between, Mode, ReceiveAll}
use Rattle.judge_rules.specs.declared.rules.Selector.TheVariants.{BetweenAll, ModeAll}
use Rattle.judge_rules.specs.contracts.rules.SelectorPartialEq.TheImpl.{eq-value}

abbrev is_one : Option ℕ → Option ℕ → Bool
is_one x y = option_eq (λ m n. m == n) x y

same_choice : (x y : Option ℕ) → is_one x y ≡ true → x ≡ y
same_choice None None same = refl
same_choice None (Some y) same = absurd cc
same_choice (Some x) None same = absurd cc
same_choice (Some x) (Some y) same = ap (λ n. Some n) (eqb-true x y same)

-- two, three and four choices that are the same
two : {A : Type 0} (make : Option ℕ → Option ℕ → A) (a b x y : Option ℕ) → (is_one a x && is_one b y) ≡ true → make a b ≡ make x y
two make a b x y same =
    let each = and_parts (is_one a x) (is_one b y) same in
    rw (same_choice a x each.0, same_choice b y each.1) refl

three : {A : Type 0} (make : Option ℕ → Option ℕ → Option ℕ → A) (a b c x y z : Option ℕ)
    → (is_one a x && (is_one b y && is_one c z)) ≡ true → make a b c ≡ make x y z
three make a b c x y z same =
    let each = and_parts (is_one a x) (is_one b y && is_one c z) same in
    rw (same_choice a x each.0) (two (make x) b c y z each.1)

four : {A : Type 0} (make : Option ℕ → Option ℕ → Option ℕ → Option ℕ → A) (a b c d x y z w : Option ℕ)
    → (is_one a x && (is_one b y && (is_one c z && is_one d w))) ≡ true → make a b c d ≡ make x y z w
four make a b c d x y z w same =
    let each = and_parts (is_one a x) (is_one b y && (is_one c z && is_one d w)) same in
    rw (same_choice a x each.0) (three (make x) b c d y z w each.1)

pub same_selector : (a b : Selector) → eq-value.it a b ≡ true → a ≡ b
same_selector Any Any same = refl
same_selector Any (Receive b0 b1) same = absurd cc
same_selector Any (Transmit b0 b1) same = absurd cc
same_selector Any (Between b0 b1 b2 b3) same = absurd cc
same_selector Any (Mode b0 b1) same = absurd cc
same_selector Any (ReceiveAll b0) same = absurd cc
same_selector Any (BetweenAll b0 b1 b2) same = absurd cc
same_selector Any (ModeAll b0) same = absurd cc
same_selector (Receive a0 a1) Any same = absurd cc
same_selector (Receive a0 a1) (Receive b0 b1) same = two (λ m n. Receive m n) a0 a1 b0 b1 same
same_selector (Receive a0 a1) (Transmit b0 b1) same = absurd cc
same_selector (Receive a0 a1) (Between b0 b1 b2 b3) same = absurd cc
same_selector (Receive a0 a1) (Mode b0 b1) same = absurd cc
same_selector (Receive a0 a1) (ReceiveAll b0) same = absurd cc
same_selector (Receive a0 a1) (BetweenAll b0 b1 b2) same = absurd cc
same_selector (Receive a0 a1) (ModeAll b0) same = absurd cc
same_selector (Transmit a0 a1) Any same = absurd cc
same_selector (Transmit a0 a1) (Receive b0 b1) same = absurd cc
same_selector (Transmit a0 a1) (Transmit b0 b1) same = two (λ m n. Transmit m n) a0 a1 b0 b1 same
same_selector (Transmit a0 a1) (Between b0 b1 b2 b3) same = absurd cc
same_selector (Transmit a0 a1) (Mode b0 b1) same = absurd cc
same_selector (Transmit a0 a1) (ReceiveAll b0) same = absurd cc
same_selector (Transmit a0 a1) (BetweenAll b0 b1 b2) same = absurd cc
same_selector (Transmit a0 a1) (ModeAll b0) same = absurd cc
same_selector (Between a0 a1 a2 a3) Any same = absurd cc
same_selector (Between a0 a1 a2 a3) (Receive b0 b1) same = absurd cc
same_selector (Between a0 a1 a2 a3) (Transmit b0 b1) same = absurd cc
same_selector (Between a0 a1 a2 a3) (Between b0 b1 b2 b3) same =
    four (λ m n o p. Between m n o p) a0 a1 a2 a3 b0 b1 b2 b3 same
same_selector (Between a0 a1 a2 a3) (Mode b0 b1) same = absurd cc
same_selector (Between a0 a1 a2 a3) (ReceiveAll b0) same = absurd cc
same_selector (Between a0 a1 a2 a3) (BetweenAll b0 b1 b2) same = absurd cc
same_selector (Between a0 a1 a2 a3) (ModeAll b0) same = absurd cc
same_selector (Mode a0 a1) Any same = absurd cc
same_selector (Mode a0 a1) (Receive b0 b1) same = absurd cc
same_selector (Mode a0 a1) (Transmit b0 b1) same = absurd cc
same_selector (Mode a0 a1) (Between b0 b1 b2 b3) same = absurd cc
same_selector (Mode a0 a1) (Mode b0 b1) same = two (λ m n. Mode m n) a0 a1 b0 b1 same
same_selector (Mode a0 a1) (ReceiveAll b0) same = absurd cc
same_selector (Mode a0 a1) (BetweenAll b0 b1 b2) same = absurd cc
same_selector (Mode a0 a1) (ModeAll b0) same = absurd cc
same_selector (ReceiveAll a0) Any same = absurd cc
same_selector (ReceiveAll a0) (Receive b0 b1) same = absurd cc
same_selector (ReceiveAll a0) (Transmit b0 b1) same = absurd cc
same_selector (ReceiveAll a0) (Between b0 b1 b2 b3) same = absurd cc
same_selector (ReceiveAll a0) (Mode b0 b1) same = absurd cc
same_selector (ReceiveAll a0) (ReceiveAll b0) same = ap (λ m. ReceiveAll m) (same_choice a0 b0 same)
same_selector (ReceiveAll a0) (BetweenAll b0 b1 b2) same = absurd cc
same_selector (ReceiveAll a0) (ModeAll b0) same = absurd cc
same_selector (BetweenAll a0 a1 a2) Any same = absurd cc
same_selector (BetweenAll a0 a1 a2) (Receive b0 b1) same = absurd cc
same_selector (BetweenAll a0 a1 a2) (Transmit b0 b1) same = absurd cc
same_selector (BetweenAll a0 a1 a2) (Between b0 b1 b2 b3) same = absurd cc
same_selector (BetweenAll a0 a1 a2) (Mode b0 b1) same = absurd cc
same_selector (BetweenAll a0 a1 a2) (ReceiveAll b0) same = absurd cc
same_selector (BetweenAll a0 a1 a2) (BetweenAll b0 b1 b2) same = three (λ m n o. BetweenAll m n o) a0 a1 a2 b0 b1 b2 same
same_selector (BetweenAll a0 a1 a2) (ModeAll b0) same = absurd cc
same_selector (ModeAll a0) Any same = absurd cc
same_selector (ModeAll a0) (Receive b0 b1) same = absurd cc
same_selector (ModeAll a0) (Transmit b0 b1) same = absurd cc
same_selector (ModeAll a0) (Between b0 b1 b2 b3) same = absurd cc
same_selector (ModeAll a0) (Mode b0 b1) same = absurd cc
same_selector (ModeAll a0) (ReceiveAll b0) same = absurd cc
same_selector (ModeAll a0) (BetweenAll b0 b1 b2) same = absurd cc
same_selector (ModeAll a0) (ModeAll b0) same = ap (λ m. ModeAll m) (same_choice a0 b0 same)
