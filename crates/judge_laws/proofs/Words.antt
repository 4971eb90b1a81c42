-- Waves of words, and stations one by one.
use Rattle.std.proofs.Common.{◌≡◌, ℕ, zero, suc, ◌<◌, ◌^◌, List, [], ◌∷◌, map, length, get_or, refl, arith, Some, None}
use Rattle.std.specs.List.{AllByRecursion}
use Rattle.mil_word.specs.declared.Sync.TheVariants.{CommandSync, DataSync}
use Rattle.mil_word.specs.Words.{command_in, data_in, command_wave, data_wave}
use Rattle.mil_word.proofs.Reading.{word_of-wave}
use Rattle.mil_terminal.specs.Runs.{AreNoCommands}

-- the wave of a command is read as it
pub command-read : (c : ℕ) → c < 2 ^ 16 → command_in (command_wave c) ≡ Some c
command-read c small = rw (word_of-wave (record { sync = CommandSync; value = c }) small) refl

-- that of a data word is no command
pub data-no_command : (v : ℕ) → v < 2 ^ 16 → command_in (data_wave v) ≡ None
data-no_command v small = rw (word_of-wave (record { sync = DataSync; value = v }) small) refl

pub data-read : (v : ℕ) → v < 2 ^ 16 → data_in (data_wave v) ≡ Some v
data-read v small = rw (word_of-wave (record { sync = DataSync; value = v }) small) refl

abbrev pub AreSmall : List ℕ → Type 0
AreSmall words = AllByRecursion (λ word. word < 2 ^ 16) words

no_command_at : (values : List ℕ) → AreSmall values → (k d : ℕ) → k < length (map data_wave values) → command_in (get_or (map data_wave values) k d) ≡ None
no_command_at [] small k d lt = absurd (omega (arith, lt))
no_command_at (v ∷ vs) small zero d lt = data-no_command v small.0
no_command_at (v ∷ vs) small (suc k) d lt = no_command_at vs small.1 k d (omega (arith, lt))

-- nor are those of many
pub data-no_commands : (values : List ℕ) → AreSmall values → AreNoCommands 0 (map data_wave values)
data-no_commands values small = λ k d le lt. no_command_at values small k d lt

-- what holds of each holds of each after a step
pub all-through : {X Y : Type 0} (f : X → Y) (P : X → Type 0) (Q : Y → Type 0) → ((x : X) → P x → Q (f x)) → (xs : List X) → AllByRecursion P xs → AllByRecursion Q (map f xs)
all-through f P Q step [] all = tt
all-through f P Q step (x ∷ xs) all = (step x all.0, all-through f P Q step xs all.1)
