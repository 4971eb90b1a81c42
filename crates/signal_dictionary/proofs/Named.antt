-- Numbers that were named, and what the rest of the words gives.
use Rattle.std.proofs.Common.{◌≡◌, Bool, true, false, List, [], ◌∷◌, ◌++◌, refl, ap, sym, append-nil, append_assoc, drop, ◌∙◌}
use Rattle.std.specs.Prelude.{Option, Some, None, Ok, Err, slice_get}
use Rattle.text_lines.specs.Words.{Text}
use Rattle.judge_rules.specs.declared.fault.RuleFault.{RuleFault}
use Rattle.judge_rules.specs.declared.fault.RuleFault.TheVariants.{Word, Number, Range, Memory}
use Rattle.judge_rules.specs.Faults.{Read, both, lower}
use Rattle.signal_dictionary.specs.declared.signals.Naming.{Naming}
use Rattle.signal_dictionary.specs.Namings.{and_fresh, at_least_one, behind_namings, fault_in, fresh, in_front, is_naming, naming_if, naming_of, namings_behind, outcome, worst}

-- what the rest gives, behind namings and perhaps a fault
abbrev pub behind : List Naming → Option RuleFault → Read (List Naming) → Read (List Naming)
behind found None (Ok more) = Ok (found ++ more)
behind found None (Err f) = Err f
behind found (Some f) (Ok more) = Err f
behind found (Some f) (Err g) = Err (lower f g)

-- the word that was taken last, and those that are left
abbrev pub from_next : Option Text → List Text → List Text
from_next None rest = []
from_next (Some word) rest = word ∷ rest

-- the first of some words and the others
pub taken-next : (words : List Text) → from_next (slice_get words 0) (drop 1 words) ≡ words
taken-next [] = refl
taken-next (word ∷ rest) = refl

pub first-of : (next : Option Text) (rest : List Text) → next ≡ slice_get (from_next next rest) 0
first-of None rest = refl
first-of (Some word) rest = refl

abbrev triple : RuleFault → RuleFault → RuleFault → Type 0
triple e f g = lower e (lower f g) ≡ lower (lower e f) g

first_word : (f g : RuleFault) → triple Word f g
first_word Word Word = refl
first_word Word Number = refl
first_word Word Range = refl
first_word Word Memory = refl
first_word Number Word = refl
first_word Number Number = refl
first_word Number Range = refl
first_word Number Memory = refl
first_word Range Word = refl
first_word Range Number = refl
first_word Range Range = refl
first_word Range Memory = refl
first_word Memory Word = refl
first_word Memory Number = refl
first_word Memory Range = refl
first_word Memory Memory = refl

first_number : (f g : RuleFault) → triple Number f g
first_number Word Word = refl
first_number Word Number = refl
first_number Word Range = refl
first_number Word Memory = refl
first_number Number Word = refl
first_number Number Number = refl
first_number Number Range = refl
first_number Number Memory = refl
first_number Range Word = refl
first_number Range Number = refl
first_number Range Range = refl
first_number Range Memory = refl
first_number Memory Word = refl
first_number Memory Number = refl
first_number Memory Range = refl
first_number Memory Memory = refl

first_range : (f g : RuleFault) → triple Range f g
first_range Word Word = refl
first_range Word Number = refl
first_range Word Range = refl
first_range Word Memory = refl
first_range Number Word = refl
first_range Number Number = refl
first_range Number Range = refl
first_range Number Memory = refl
first_range Range Word = refl
first_range Range Number = refl
first_range Range Range = refl
first_range Range Memory = refl
first_range Memory Word = refl
first_range Memory Number = refl
first_range Memory Range = refl
first_range Memory Memory = refl

first_memory : (f g : RuleFault) → triple Memory f g
first_memory Word Word = refl
first_memory Word Number = refl
first_memory Word Range = refl
first_memory Word Memory = refl
first_memory Number Word = refl
first_memory Number Number = refl
first_memory Number Range = refl
first_memory Number Memory = refl
first_memory Range Word = refl
first_memory Range Number = refl
first_memory Range Range = refl
first_memory Range Memory = refl
first_memory Memory Word = refl
first_memory Memory Number = refl
first_memory Memory Range = refl
first_memory Memory Memory = refl

-- the fault that counts of three
lower-assoc : (e f g : RuleFault) → triple e f g
lower-assoc Word f g = first_word f g
lower-assoc Number f g = first_number f g
lower-assoc Range f g = first_range f g
lower-assoc Memory f g = first_memory f g

-- one more naming, or one more fault
pub next-read : (found : List Naming) (fault : Option RuleFault) (read : Read Naming) (rest : Read (List Naming)) → behind found fault (in_front (both read rest)) ≡ behind (and_fresh found read) (worst fault (fault_in read)) rest
next-read found None (Ok naming) (Ok more) = ap (λ (all : List Naming). let whole : Read (List Naming) = Ok all in whole) (sym (append_assoc found (naming ∷ []) more))
next-read found None (Ok naming) (Err f) = refl
next-read found None (Err f) (Ok more) = refl
next-read found None (Err f) (Err g) = refl
next-read found (Some e) (Ok naming) (Ok more) = refl
next-read found (Some e) (Ok naming) (Err f) = refl
next-read found (Some e) (Err f) (Ok more) = refl
next-read found (Some e) (Err f) (Err g) = ap (λ (x : RuleFault). let whole : Read (List Naming) = Err x in whole) (lower-assoc e f g)

-- nothing was named yet
none-yet : (read : Read (List Naming)) → behind [] None read ≡ read
none-yet (Ok more) = refl
none-yet (Err f) = refl

pub starts : (found : List Naming) (words : List Text) → found ≡ [] → namings_behind [] words ≡ behind found None (namings_behind found words)
starts found words is = rw is (sym (none-yet (namings_behind [] words)))

-- nothing more is named
pub at-end : (found : List Naming) (fault : Option RuleFault) → at_least_one (behind found fault (Ok [])) ≡ outcome fault found
at-end found None = ap (λ (all : List Naming). at_least_one (Ok all)) (append-nil found)
at-end found (Some f) = refl

-- the next word has an equals sign
pub goes-on : (next : Option Text) (words : List Text) (word : Text) → naming_if next ≡ Some word → (from_next next words ≡ word ∷ words) × (is_naming word ≡ true)
goes-on None words word is = cc
goes-on (Some first) words word is = go (is_naming first) refl
  where
    go : (b : Bool) → is_naming first ≡ b → (first ∷ words ≡ word ∷ words) × (is_naming word ≡ true)
    go true has = let same : first ≡ word = (let taken : Some first ≡ Some word = rw has at is in cc) in (ap (λ (w : Text). w ∷ words) same, ap is_naming (sym same) ∙ has)
    go false lacks = let lost : None ≡ Some word = rw lacks at is in cc

-- it has none, or there is none
pub names-end : (found : List Naming) (next : Option Text) (words : List Text) → naming_if next ≡ None → namings_behind found (from_next next words) ≡ Ok []
names-end found None words is = refl
names-end found (Some first) words is = go (is_naming first) refl
  where
    go : (b : Bool) → is_naming first ≡ b → namings_behind found (first ∷ words) ≡ Ok []
    go true has = let kept : Some first ≡ None = rw has at is in cc
    go false lacks = rw lacks refl

pub words-end : (next : Option Text) (words : List Text) → naming_if next ≡ None → behind_namings (from_next next words) ≡ from_next next words
words-end None words is = refl
words-end (Some first) words is = go (is_naming first) refl
  where
    go : (b : Bool) → is_naming first ≡ b → behind_namings (first ∷ words) ≡ first ∷ words
    go true has = let kept : Some first ≡ None = rw has at is in cc
    go false lacks = rw lacks refl

-- one that has one names a number
pub names-next : (found : List Naming) (word : Text) (rest : List Text) → is_naming word ≡ true → namings_behind found (word ∷ rest) ≡ in_front (both (fresh found (naming_of word)) (namings_behind (and_fresh found (fresh found (naming_of word))) rest))
names-next found word rest is = rw is refl

pub words-next : (word : Text) (rest : List Text) → is_naming word ≡ true → behind_namings (word ∷ rest) ≡ behind_namings rest
words-next word rest is = rw is refl
