-- Names of definitions, and what stands for each where some are in scope (own choice).
use Rattle.std.specs.Prelude.{ℕ, nat_eq, nat_le, Bool, true, false, ◌&&◌, ◌||◌, if◌then◌else◌, List, [], ◌∷◌, length}

-- a letter
abbrev pub is_letter : ℕ → Bool
is_letter b = (nat_le 65 b && nat_le b 90) || (nat_le 97 b && nat_le b 122)

-- letters, digits and _
abbrev pub are_word_bytes : List ℕ → Bool
are_word_bytes [] = true
are_word_bytes (b ∷ bs) = (is_letter b || (nat_le 48 b && nat_le b 57) || nat_eq b 95) && are_word_bytes bs

abbrev pub begins : List ℕ → Bool
begins [] = false
begins (b ∷ bs) = is_letter b

-- 1 to 16 letters, digits and _, the first a letter
abbrev pub is_name : List ℕ → Bool
is_name bs = begins bs && are_word_bytes bs && nat_le (length bs) 16

abbrev pub same_bytes : List ℕ → List ℕ → Bool
same_bytes [] [] = true
same_bytes [] (y ∷ ys) = false
same_bytes (x ∷ xs) [] = false
same_bytes (x ∷ xs) (y ∷ ys) = nat_eq x y && same_bytes xs ys

-- the definitions in scope, the latest first, each with what stands for it
abbrev pub Scope : Type 0 → Type 0
Scope X = List (List ℕ × X)

-- what stands for a name; this where it is not in scope
abbrev pub meant_by : {X : Type 0} → X → Scope X → List ℕ → X
meant_by x [] n = x
meant_by x (d ∷ ds) n = if same_bytes d.0 n then d.1 else meant_by x ds n

-- whether a name is in scope
abbrev pub is_known : {X : Type 0} → Scope X → List ℕ → Bool
is_known [] n = false
is_known (d ∷ ds) n = same_bytes d.0 n || is_known ds n
