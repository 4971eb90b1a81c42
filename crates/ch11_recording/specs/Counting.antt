-- A writer of packets that counts those which its sink took whole.
use Rattle.std.specs.Prelude.{◌≡◌, ℕ, ◌+◌, ◌-◌, ◌≤◌, ◌||◌, not, true, false, if◌then◌else◌, List}
use Rattle.ch11_writer.specs.Writing.{Writing}
use Rattle.ch11_recording.specs.WrittenFile.{whole_packets}

-- the writer, and how many packets it has counted
pub record Counting (S : Type 0) : Type 0 where
  pub writing : Writing S
  pub packets : ℕ

-- These packets are put: those that the sink takes whole now are counted. After a failure nothing changes.
pub record Counts {S : Type 0} (packets : List (List ℕ)) (old new : Counting S) : Type 0 where
  pub grows : old.writing.taken ≤ new.writing.taken
  pub counted : new.packets ≡ old.packets + whole_packets (new.writing.taken - old.writing.taken) packets
  pub silent : old.writing.failed ≡ true → new ≡ old

-- Writing goes on: no more than so many bytes were taken now, and the sink failed once where the writer fails for the
-- first time. `fails` counts how often a sink has failed.
pub record WritesOn {S : Type 0} (fails : S → ℕ) (most : ℕ) (old new : Writing S) : Type 0 where
  pub unfinished : new.finished ≡ false
  pub few : new.taken ≤ old.taken + most
  pub failures : fails new.sink ≡ (if old.failed || not new.failed then fails old.sink else fails old.sink + 1)
