-- What bytes that are put to a writer come to.
use Rattle.std.specs.Prelude.{◌≡◌, ℕ, ◌+◌, ◌-◌, ◌≤◌, ◌<◌, ◌↔◌, ◌||◌, true, false, List, length, take}
use Rattle.std.specs.Prelude.{if◌then◌else◌, is_ok, IsOk, IfErr, OnOk, OnErr, Result}
use Rattle.std.specs.Io.KnownBytes.{Appends}
use Rattle.ch11_writer.specs.declared.writer.WriteFault.{WriteFault}
use Rattle.ch11_writer.specs.Sent.{Shown}
use Rattle.ch11_writer.specs.Writing.{Writing}

-- Bytes were put, and so answered; `show` gives what a sink shows.
pub record IsPut {S : Type 0} (show : S → Shown) (bytes : List ℕ) (answer : Result (Unit {0}) WriteFault)
    (old new : Writing S) : Type 0 where
  -- it fails exactly where the sink fails now or has failed before, and tells how many bytes the sink took
  pub ok : IsOk answer ↔ (new.failed ≡ false)
  pub failures : (show new.sink).failures
      ≡ (if old.failed || is_ok answer then (show old.sink).failures else (show old.sink).failures + 1)
  pub fault : IfErr answer (λ e. e.taken ≡ new.taken)
  -- after a failure nothing changes: the sink is called no more
  pub silent : old.failed ≡ true → new ≡ old
  -- the sink took all of the bytes, or those before its failure
  pub taken : Appends (show old.sink).taken (show new.sink).taken (take (new.taken - old.taken) bytes)
  pub whole : OnOk answer (new.taken ≡ old.taken + length bytes)
  pub part : OnErr answer
      (old.failed ≡ false → (old.taken ≤ new.taken) × (new.taken < old.taken + length bytes))
  pub unfinished : (new.finished ≡ false) × ((show new.sink).finished ≡ (show old.sink).finished)
