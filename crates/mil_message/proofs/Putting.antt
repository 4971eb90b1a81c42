-- Another data word in the place of one.
use Rattle.std.proofs.Common.{◌≡◌, ℕ, zero, suc, ◌<◌, List, [], ◌∷◌, length, refl, arith}
use Rattle.std.specs.Prelude.{slice_set}
use Rattle.std.proofs.lemmas.List.{length-set}
use Rattle.mil_message.specs.declared.forms.Form.{Form}
use Rattle.mil_message.specs.declared.forms.Form.TheVariants.{ToTerminal, FromTerminal, Between, Mode, ModeFrom, ModeTo}
use Rattle.mil_message.specs.declared.forms.Form.TheVariants.{ToAll, BetweenAll, ModeAll, ModeAllTo}
use Rattle.mil_message.specs.Forms.{data_words, with_data_words, first_or}
use Rattle.mil_message.specs.Rules.{IsLawful}

-- the only word of a mode command
pub first_set : (own word index : ℕ) → index < 1 → word ≡ first_or own (slice_set (own ∷ []) index word)
first_set own word zero less = refl
first_set own word (suc index) less = absurd (omega (arith, less))

-- as many words as there were
pub as_many : (words : List ℕ) (index word : ℕ) → length (slice_set words index word) ≡ length words
as_many words index word = length-set words index word
