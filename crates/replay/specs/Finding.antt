-- The first message past a place, and the latest before one, whose outcome makes a condition true, job by job.
use Rattle.std.specs.Prelude.{◌≡◌, ℕ, suc, ◌<◌, ◌==◌, true, List, take, count_by, slice_get, min, max}
use Rattle.std.specs.Prelude.{Option, Some, None}
use Rattle.std.specs.Option.{MatchOption}
use Rattle.frame_tree.specs.Tree.{Condition}
use Rattle.ch11_recording.specs.Items.{last_number}
use Rattle.replay.specs.Accord.{kept_in}
use Rattle.replay.specs.Moves.{says}
use Rattle.replay.specs.Tracks.{Pair}

-- how many of the first messages are of a channel, where these are the channels of all
abbrev pub count_to : List ℕ → ℕ → ℕ → ℕ
count_to channels n channel = count_by (λ c. c == channel) (take n channels)

-- message n is of the job, and its outcome makes the test true
pub record IsMetBy (channels : List ℕ) (test : Condition) (p : Pair) (n : ℕ) : Type 0 where
  pub before : ℕ
  pub next : n ≡ suc before
  pub channel : slice_get channels before ≡ Some p.job.channel
  pub true_there : says test p.job p.part
      (last_number (take (count_to channels n p.job.channel) (kept_in p.job p.part))) ≡ true

-- message n is of one of the jobs, and its outcome makes the test true
pub record IsMetIn (channels : List ℕ) (test : Condition) (pairs : List Pair) (n : ℕ) : Type 0 where
  pub index : ℕ
  pub pair : Pair
  pub there : slice_get pairs index ≡ Some pair
  pub met : IsMetBy channels test pair n

-- the first number past a place that has the property, or none has it
pub record IsFirst (place : ℕ) (P : ℕ → Type 0) (n : ℕ) : Type 0 where
  pub past : place < n
  pub met : P n
  pub first : (m : ℕ) → place < m → m < n → ¬ P m

abbrev pub Finds : ℕ → (ℕ → Type 0) → Option ℕ → Type 0
Finds place P r = MatchOption r ((m : ℕ) → place < m → ¬ P m) (λ n. IsFirst place P n)

-- the earlier of two numbers, as far as they are there
abbrev pub earlier : Option ℕ → Option ℕ → Option ℕ
earlier None other = other
earlier (Some a) None = Some a
earlier (Some a) (Some b) = Some (min a b)

-- the latest number before a place that has the property, or none has it
pub record IsLatest (place : ℕ) (P : ℕ → Type 0) (n : ℕ) : Type 0 where
  pub before : n < place
  pub met : P n
  pub latest : (m : ℕ) → n < m → m < place → ¬ P m

abbrev pub FindsBack : ℕ → (ℕ → Type 0) → Option ℕ → Type 0
FindsBack place P r = MatchOption r ((m : ℕ) → m < place → ¬ P m) (λ n. IsLatest place P n)

-- the later of two numbers, as far as they are there
abbrev pub later : Option ℕ → Option ℕ → Option ℕ
later None other = other
later (Some a) None = Some a
later (Some a) (Some b) = Some (max a b)
