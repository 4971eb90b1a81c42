-- The first signal of a name, signal by signal.
use Rattle.std.proofs.Common.{◌≡◌, ℕ, zero, suc, ◌≤◌, List, [], ◌∷◌, length, drop, refl, arith}
use Rattle.std.specs.Prelude.{Some, None, true, false, slice_get}
use Rattle.std.specs.Str.{bytes_eq}
use Rattle.text_lines.specs.Words.{Text}
use Rattle.signal_dictionary.specs.declared.signals.Signal.{Signal}
use Rattle.signal_judge.specs.Rules.{named}

some_same : {X : Type 0} (x y : X) → Some x ≡ Some y → x ≡ y
some_same x y is = cc

-- this one has another name, or it has the name
pub named_next : (all : List Signal) (name : Text) (i : ℕ) (s : Signal) → slice_get all i ≡ Some s → bytes_eq s.name.bytes.items name ≡ false → named (drop i all) name ≡ named (drop (suc i) all) name
named_next [] name i s at not = absurd cc
named_next (x ∷ xs) name zero s at not = rw (some_same x s at, not) refl
named_next (x ∷ xs) name (suc i) s at not = named_next xs name i s at not

pub named_here : (all : List Signal) (name : Text) (i : ℕ) (s : Signal) → slice_get all i ≡ Some s → bytes_eq s.name.bytes.items name ≡ true → named (drop i all) name ≡ Some s
named_here [] name i s at is = absurd cc
named_here (x ∷ xs) name zero s at is = rw (some_same x s at, is) refl
named_here (x ∷ xs) name (suc i) s at is = named_here xs name i s at is

-- no signal is left
pub named_end : (all : List Signal) (name : Text) (i : ℕ) → length all ≤ i → named (drop i all) name ≡ None
named_end [] name zero past = refl
named_end [] name (suc i) past = refl
named_end (x ∷ xs) name zero past = absurd (omega arith)
named_end (x ∷ xs) name (suc i) past = named_end xs name i (omega arith)
