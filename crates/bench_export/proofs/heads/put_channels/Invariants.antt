use Rattle.std.proofs.Common.{◌≡◌, ◌++◌}
use Rattle.bench_export.specs.Heads.{part_text}
use Rattle.bench_export.specs.Waves.{marked, channels_text}
use Rattle.bench_export.proofs.heads.put_channels.Given as goal

abbrev pub invariant-channels : goal.invariant-channels
invariant-channels l = l.text.items ≡ l.fn.text.items ++ channels_text (part_text l.part) (marked l.marks) l.channel
