-- A job that runs beside the messages of a recording.
use Rattle.std.specs.Prelude.{◌≡◌, ℕ, ◌+◌, List, Option, None, Some, min, length, slice_get, option_map}
use Rattle.std.specs.Prelude.{if◌then◌else◌}
use Rattle.ch11_f1.specs.declared.Record.{Record}
use Rattle.ch11_layout.specs.Stamps.{Recorded}
use Rattle.bench_compare.specs.Channels.{origins_by}
use Rattle.bench_compare.specs.declared.differences.Origins.{Origins}
use Rattle.bench_reproduce.specs.Readings.{read_again}
use Rattle.bench_reproduce.specs.Sameness.{is_same}
use Rattle.bench_reproduce.specs.declared.judging.Standing.{Standing}

-- the stamp of a record, 0 where there is none
abbrev pub stamp_or : Option Record → ℕ
stamp_or None = 0
stamp_or (Some r) = r.stamp

-- from where stamps are told at these two
abbrev pub told_from : Standing → Recorded → Option Record → Origins
told_from before a r = origins_by before.origins a.stamp (stamp_or r)

-- a message was compared with a record, or with none
pub record IsCompared (before : Standing) (a : Recorded) (r : Option Record) (now : Standing) : Type 0 where
  pub origins : now.origins ≡ Some (told_from before a r)
  pub same : now.same ≡ before.same
      + (if is_same (told_from before a r) (Some a) (option_map read_again r) then 1 else 0)

-- a message was compared with the next of these records, of which so many were made
pub record ComparesNext (rs : List Record) (made after : ℕ) (before : Standing) (a : Recorded) (now : Standing)
    : Type 0
  where
    pub next : after ≡ min (made + 1) (length rs)
    pub compared : IsCompared before a (slice_get rs made) now
