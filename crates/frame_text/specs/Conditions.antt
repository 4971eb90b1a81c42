-- The text of a condition (own choice).
use Rattle.std.specs.Prelude.{ℕ, zero, suc, if◌then◌else◌, List, [], ◌∷◌, Option, Some, None, Result, Ok, Err, codes}
use Rattle.mil_status.specs.Status.{bit_named}
use Rattle.mil_status.specs.declared.bit.StatusBit.{StatusBit}
use Rattle.mil_message.specs.declared.outcome_test.OutcomeTest.TheVariants.{Failed, Silent, Bit}
use Rattle.frame_tree.specs.Tree.{Condition, asked, negated, both, either}
use Rattle.frame_text.specs.Tokens.{tokens}
use Rattle.frame_text.specs.Reading.{Tokens, Failure, fails, at_first, cause_alone, TokenReading, ◌>>=◌, same_bytes}
use Rattle.frame_text.specs.Reading.{misplaced, past, to_the_end}
use Rattle.frame_text.specs.declared.faults.Cause.{Cause}
use Rattle.frame_text.specs.declared.faults.Cause.TheVariants as cause
use Rattle.frame_text.specs.declared.keywords.ConditionWord.{ConditionWord}
use Rattle.frame_text.specs.declared.keywords.ConditionWord.TheVariants as word

unfoldable pub condition_word : List ℕ → ConditionWord
condition_word w =
    if same_bytes w (codes "fail") then word.Fail else
    if same_bytes w (codes "silent") then word.Silent else
    if same_bytes w (codes "bit") then word.Bit else
    if same_bytes w (codes "not") then word.Not else
    if same_bytes w (codes "all") then word.All else
    if same_bytes w (codes "any") then word.Any else
    word.NoCondition

-- the status bit of a name
abbrev pub bit_or_misplaced : List ℕ → Option StatusBit → Tokens → TokenReading StatusBit
bit_or_misplaced w (Some bit) ts = Ok (bit, ts)
bit_or_misplaced w None ts = fails (misplaced w) (w ∷ ts)

unfoldable pub name_at : Tokens → TokenReading StatusBit
name_at [] = fails cause.End []
name_at (w ∷ ts) = bit_or_misplaced w (bit_named w) ts

abbrev pub Reader : Type 0
Reader = Tokens → TokenReading Condition

-- two conditions in their brackets
unfoldable pub pair_at : Reader → Tokens → TokenReading (Condition × Condition)
pair_at below ts =
    past (codes "(") ts
    >>= (λ us. below us
    >>= (λ a. below a.1 >>= (λ b. past (codes ")") b.1 >>= (λ rest. Ok ((a.0, b.0), rest)))))

-- a condition by its first word; below reads those in it, or is the fault of one level too many
unfoldable pub condition_of : Result Reader Cause → ConditionWord → List ℕ → Tokens → TokenReading Condition
condition_of below word.Fail w ts = Ok (asked Failed, ts)
condition_of below word.Silent w ts = Ok (asked Silent, ts)
condition_of below word.Bit w ts = name_at ts >>= (λ name. Ok (asked (Bit name.0), name.1))
condition_of below word.Not w ts = at_first (w ∷ ts) below >>= (λ reader. reader ts >>= (λ a. Ok (negated a.0, a.1)))
condition_of below word.All w ts =
    at_first (w ∷ ts) below >>= (λ reader. pair_at reader ts >>= (λ x. Ok (both x.0.0 x.0.1, x.1)))
condition_of below word.Any w ts =
    at_first (w ∷ ts) below >>= (λ reader. pair_at reader ts >>= (λ x. Ok (either x.0.0 x.0.1, x.1)))
condition_of below word.NoCondition w ts = fails (misplaced w) (w ∷ ts)

unfoldable pub condition_from : Result Reader Cause → Reader
condition_from below [] = fails cause.End []
condition_from below (w ∷ ts) = condition_of below (condition_word w) w ts

-- what reads a condition within another, where at most so many operators may stand above a test, the outer one among
-- them
unfoldable pub below_at : ℕ → Result Reader Cause
below_at zero = Err cause.Depth
below_at (suc d) = Ok (condition_from (below_at d))

-- a condition with at most so many operators above a test
abbrev pub condition_at : ℕ → Reader
condition_at d ts = condition_from (below_at d) ts

-- the condition of a whole text, or its first fault
abbrev pub whole_condition : List ℕ → Result Condition Failure
whole_condition text = condition_at 16 (tokens text) >>= (λ read. to_the_end read)

abbrev pub condition_of_text : List ℕ → Result Condition Cause
condition_of_text text = cause_alone (whole_condition text)
