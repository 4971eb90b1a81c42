-- How far a run of bytes came in a sink.
use Rattle.std.specs.Prelude.{◌≡◌, ℕ, ◌+◌, ◌≤◌, ◌<◌, Bool, true, false, List, length, take}
use Rattle.std.specs.declared.option.Option.{Option}
use Rattle.std.specs.Io.KnownBytes.{Appends}
use Rattle.ch11_writer.specs.declared.writer.Sent.{Sent}

-- what a sink shows: the bytes that it took, how often it failed, and whether it was finished
pub record Shown : Type 0 where
  pub taken : Option (List ℕ)
  pub failures : ℕ
  pub finished : Bool

-- what the sink shows, by its members
abbrev pub shown_by : {S : Type 0} → (S → Option (List ℕ)) → (S → ℕ) → (S → Bool) → S → Shown
shown_by taken failures finished s = record { taken = taken s; failures = failures s; finished = finished s }

-- so many of the bytes were taken, and all of them exactly where no call failed
pub record AreBytesSent (sent : Sent) (bytes : List ℕ) (old new : Shown) : Type 0 where
  pub within : sent.count ≤ length bytes
  pub appended : Appends old.taken new.taken (take sent.count bytes)
  pub all : sent.whole ≡ true → (sent.count ≡ length bytes) × (new.failures ≡ old.failures)
  pub cut : sent.whole ≡ false → (sent.count < length bytes) × (new.failures ≡ old.failures + 1)
  pub same : new.finished ≡ old.finished
