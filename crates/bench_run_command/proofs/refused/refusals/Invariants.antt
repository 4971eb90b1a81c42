use Rattle.std.proofs.Common.{◌≡◌, ◌++◌, take, string_bytes, codes, decimal}
use Rattle.std.specs.List.{flat_map}
use Rattle.bench_run_command.specs.Refused.{refused_of}
use Rattle.bench_run_command.proofs.refused.refusals.Given as goal

-- the text of the channels so far
abbrev pub invariant-loop-channel : goal.invariant-loop-channel
invariant-loop-channel l = string_bytes l.text ≡ (decimal l.refused ++ codes " messages were refused at a full queue") ++ flat_map refused_of (take l.channel-index l.channel-items)
