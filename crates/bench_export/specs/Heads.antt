-- What a value change dump has of each channel in front of its changes (IEEE 1364, 18.2).
use Rattle.std.specs.Prelude.{ℕ, List}
use Rattle.bench_export.specs.declared.heads.Part.{Part}
use Rattle.bench_export.specs.declared.heads.Part.TheVariants.{Scope, Idle}
use Rattle.bench_export.specs.Waves.{scope_text, idle_text}

-- the declarations of its signals, or that its lines are idle
abbrev pub part_text : Part → ℕ → List ℕ
part_text Scope channel = scope_text channel
part_text Idle channel = idle_text channel
