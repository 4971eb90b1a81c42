-- What is compared with the next message of a channel, when one more message is passed.
use Rattle.std.proofs.Common.{◌≡◌, ℕ, ◌∷◌, List, cond, refl}
use Rattle.std.specs.Prelude.{Bool, true, false, ◌&&◌, ◌==◌, Option, None, Some}
use Rattle.ch11_layout.specs.Stamps.{Recorded}
use Rattle.bench_select.specs.Viewed.{Viewed}
use Rattle.judge_rules.specs.declared.rules.Check.{Check}
use Rattle.judge_rules.specs.declared.rules.Check.TheVariants.{Sound, Failed, Clean, Status, Data, Response, Period, Count, CountOf, DataWord, DataStep, Whole}
use Rattle.judge_rules.specs.declared.rules.Rule.{Rule}
use Rattle.bench_judge.specs.Checks.{compared, meets}
use Rattle.bench_judge.specs.Selection.{Origins, selects}
use Rattle.bench_judge.specs.Verdicts.{latest, newer}

-- a message that has nothing to be compared is judged alike whatever is before it
pub meets-alone : (check : Check) (before : Option ℕ) (m : Recorded) → compared check m ≡ None → meets check None m ≡ meets check before m
meets-alone Sound before m none = refl
meets-alone Failed before m none = refl
meets-alone Clean before m none = refl
meets-alone (Status d) before m none = refl
meets-alone (Data wanted) before m none = refl
meets-alone (Response b) before m none = refl
meets-alone (Period b) before m none = absurd cc
meets-alone (Count b) before m none = refl
meets-alone (CountOf b kind) before m none = refl
meets-alone (DataWord r) before m none = refl
meets-alone (DataStep r) before m none = rw none refl
meets-alone Whole before m none = refl

-- a message that is not selected, or has nothing to be compared, changes nothing
pub latest-skip : (rule : Rule) (origins : Origins) (h : Viewed) (history : List Viewed) (channel : ℕ) → selects rule origins h.0 h.1 ≡ false → latest rule origins channel (h ∷ history) ≡ latest rule origins channel history
latest-skip rule origins h history channel is = go (h.0 == channel)
  where
    go : (b : Bool) → cond (b && selects rule origins h.0 h.1) (newer (compared rule.check h.1) (latest rule origins channel history)) (latest rule origins channel history) ≡ latest rule origins channel history
    go true = rw is refl
    go false = refl

pub latest-none : (rule : Rule) (origins : Origins) (h : Viewed) (history : List Viewed) (channel : ℕ) → compared rule.check h.1 ≡ None → latest rule origins channel (h ∷ history) ≡ latest rule origins channel history
latest-none rule origins h history channel is = go ((h.0 == channel) && selects rule origins h.0 h.1)
  where
    go : (b : Bool) → cond b (newer (compared rule.check h.1) (latest rule origins channel history)) (latest rule origins channel history) ≡ latest rule origins channel history
    go true = rw is refl
    go false = refl

-- one that is selected and has something is the latest of its channel
pub latest-more : (rule : Rule) (origins : Origins) (h : Viewed) (history : List Viewed) (channel value : ℕ) → selects rule origins h.0 h.1 ≡ true → compared rule.check h.1 ≡ Some value
    → latest rule origins channel (h ∷ history) ≡ cond (h.0 == channel) (Some value) (latest rule origins channel history)
latest-more rule origins h history channel value sel is = go (h.0 == channel)
  where
    go : (b : Bool) → cond (b && selects rule origins h.0 h.1) (newer (compared rule.check h.1) (latest rule origins channel history)) (latest rule origins channel history) ≡ cond b (Some value) (latest rule origins channel history)
    go true = rw (sel, is) refl
    go false = refl
