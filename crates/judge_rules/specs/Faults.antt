-- Which fault of a line counts (own choice): a word that doesn't stand there before what is no number, and that before
-- a range.
use Rattle.std.specs.Prelude.{Result, Ok, Err, List, [], ◌∷◌}
use Rattle.text_lines.specs.Words.{Text}
use Rattle.judge_rules.specs.declared.fault.RuleFault.{RuleFault}
use Rattle.judge_rules.specs.declared.fault.RuleFault.TheVariants.{Word, Number, Range, Memory}

-- what is read of a line, or its fault
abbrev pub Read : Type 0 → Type 0
Read X = Result X RuleFault

-- the fault that counts of two
abbrev pub lower : RuleFault → RuleFault → RuleFault
lower Word Word = Word
lower Word Number = Word
lower Word Range = Word
lower Word Memory = Word
lower Number Word = Word
lower Number Number = Number
lower Number Range = Number
lower Number Memory = Number
lower Range Word = Word
lower Range Number = Number
lower Range Range = Range
lower Range Memory = Range
lower Memory Word = Word
lower Memory Number = Number
lower Memory Range = Range
lower Memory Memory = Memory

-- two parts of a line, each read for itself
abbrev pub both : {A B : Type 0} → Read A → Read B → Read (A × B)
both (Ok a) (Ok b) = Ok (a, b)
both (Ok a) (Err f) = Err f
both (Err f) (Ok b) = Err f
both (Err f) (Err g) = Err (lower f g)

-- what is made of what was read
abbrev pub made : {A B : Type 0} → (A → B) → Read A → Read B
made make (Ok a) = Ok (make a)
made make (Err f) = Err f

-- no word is left over
abbrev pub ended : {X : Type 0} → Read X → List Text → Read X
ended value [] = value
ended value (word ∷ rest) = Err Word
