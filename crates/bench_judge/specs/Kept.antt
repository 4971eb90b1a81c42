-- A number of each channel that has one.
use Rattle.std.specs.Prelude.{ℕ, ◌==◌, nat_eq, Bool, ◌&&◌, if◌then◌else◌, Option, is_some}
use Rattle.std.specs.HashMap.{get}
use Rattle.bench_judge.specs.declared.kept.Kept.{Kept}

-- that of a channel is at hand
abbrev pub is_at : Kept → ℕ → Bool
is_at k channel = (k.channel == channel) && is_some k.value

abbrev pub kept : Kept → ℕ → Option ℕ
kept k channel = if is_at k channel then k.value else get nat_eq k.others channel
