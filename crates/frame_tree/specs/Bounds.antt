-- How large a tree is, and which trees are sound (own choice).
use Rattle.std.specs.Prelude.{◌≡◌, ℕ, ◌+◌, ◌*◌, ◌≤◌, ◌<◌, max, true, false, [], ◌∷◌, length}
use Rattle.mil_word.specs.Timing.{least_gap}
use Rattle.frame_tree.specs.Tree.{Condition, asked, negated, both, either, Tree, send, retry, gap, repeat, choose}
use Rattle.frame_tree.specs.Tree.{until, timed, nothing, chained, call, define}
use Rattle.frame_tree.specs.Names.{Scope, meant_by, is_known}

-- How many messages a tree sends at most, where a call of each name in scope sends so many: every retry is used up, an
-- until runs all its turns, and an if takes the branch with more.
abbrev pub messages_in : Scope ℕ → Tree → ℕ
messages_in ds (send l m) = 1
messages_in ds (retry n l m) = 1 + n
messages_in ds (gap t) = 0
messages_in ds (repeat n b) = n * messages_in ds b
messages_in ds (choose c a b) = max (messages_in ds a) (messages_in ds b)
messages_in ds (until c n b) = n * messages_in ds b
messages_in ds (timed h b) = messages_in ds b
messages_in ds nothing = 0
messages_in ds (chained a b) = messages_in ds a + messages_in ds b
messages_in ds (call n) = meant_by 0 ds n
messages_in ds (define n b r) = messages_in ((n, messages_in ds b) ∷ ds) r

abbrev pub worst_messages : Tree → ℕ
worst_messages t = messages_in [] t

-- How many repeats, ifs, untils and frames with a period stand in one another, where in a call of each name in scope so
-- many do; the body of a definition counts, called or not.
abbrev pub depth_in : Scope ℕ → Tree → ℕ
depth_in ds (send l m) = 0
depth_in ds (retry n l m) = 0
depth_in ds (gap t) = 0
depth_in ds (repeat n b) = 1 + depth_in ds b
depth_in ds (choose c a b) = 1 + max (depth_in ds a) (depth_in ds b)
depth_in ds (until c n b) = 1 + depth_in ds b
depth_in ds (timed h b) = 1 + depth_in ds b
depth_in ds nothing = 0
depth_in ds (chained a b) = max (depth_in ds a) (depth_in ds b)
depth_in ds (call n) = meant_by 0 ds n
depth_in ds (define n b r) = max (depth_in ds b) (depth_in ((n, depth_in ds b) ∷ ds) r)

abbrev pub depth : Tree → ℕ
depth t = depth_in [] t

-- how many operators stand above a test of a condition at most
abbrev pub operators : Condition → ℕ
operators (asked t) = 0
operators (negated c) = 1 + operators c
operators (both a b) = 1 + max (operators a) (operators b)
operators (either a b) = 1 + max (operators a) (operators b)

-- a condition that a script may have
abbrev pub IsCondition : Condition → Type 0
IsCondition c = operators c ≤ 16

-- every number of a tree in its range, and every condition one that a script may have
abbrev pub IsInRange : Tree → Type 0
IsInRange (send l m) = Unit {0}
IsInRange (retry n l m) = (1 ≤ n) × (n ≤ 8)
IsInRange (gap t) = (least_gap ≤ t) × (t ≤ 65535)
IsInRange (repeat n b) = (1 ≤ n) × (n ≤ 10000) × IsInRange b
IsInRange (choose c a b) = IsCondition c × IsInRange a × IsInRange b
IsInRange (until c n b) = IsCondition c × (1 ≤ n) × (n ≤ 10000) × IsInRange b
IsInRange (timed h b) = (1 ≤ h) × (h ≤ 65535) × IsInRange b
IsInRange nothing = Unit {0}
IsInRange (chained a b) = IsInRange a × IsInRange b
IsInRange (call n) = Unit {0}
IsInRange (define n b r) = IsInRange b × IsInRange r

-- no definition in it, and each call names a definition in scope
abbrev pub CallsKnown : {X : Type 0} → Scope X → Tree → Type 0
CallsKnown ds (send l m) = Unit {0}
CallsKnown ds (retry n l m) = Unit {0}
CallsKnown ds (gap t) = Unit {0}
CallsKnown ds (repeat n b) = CallsKnown ds b
CallsKnown ds (choose c a b) = CallsKnown ds a × CallsKnown ds b
CallsKnown ds (until c n b) = CallsKnown ds b
CallsKnown ds (timed h b) = CallsKnown ds b
CallsKnown ds nothing = Unit {0}
CallsKnown ds (chained a b) = CallsKnown ds a × CallsKnown ds b
CallsKnown ds (call n) = is_known ds n ≡ true
CallsKnown ds (define n b r) = ⊥

-- definitions stand at the outside alone, at most 32 of them, with distinct names, and each call names an earlier one
abbrev pub IsDefined : Scope ℕ → Tree → Type 0
IsDefined ds (define n b r) = (length ds < 32) × (is_known ds n ≡ false) × CallsKnown ds b
    × IsDefined ((n, length ds) ∷ ds) r
IsDefined ds t = CallsKnown ds t

-- a tree that may be assembled
pub record IsSound (t : Tree) : Type 0 where
  pub shallow : depth t ≤ 16
  pub in_range : IsInRange t
  pub bounded : worst_messages t ≤ 1000000
  pub defined : IsDefined [] t
