-- What a refusal leaves in the sink.
use Rattle.std.specs.Prelude.{◌≡◌, ℕ, ◌<◌, ◌≤◌, List, length, take}
use Rattle.std.specs.declared.option.Option.{Option}
use Rattle.std.specs.Io.KnownBytes.{Appends}
use Rattle.ch11_recording.specs.Recording.{IsLimit}
use Rattle.bench_core.specs.declared.channel_fault.ChannelFault.{ChannelFault}
use Rattle.bench_core.specs.declared.channel_fault.ChannelFault.TheVariants.{Limit, Memory, Sink}

-- G1 for a packet limit out of its range, and want of memory within it, which put nothing into the sink; a fault of the
-- sink, which took the first bytes of the file, so many of them
abbrev pub LeavesChannelInSink : {S : Type 0} → (S → Option (List ℕ)) → (S → ℕ) → ℕ → List ℕ → S → ChannelFault S
    → Type 0
LeavesChannelInSink taken failures limit file before (Limit sink) = ¬ IsLimit limit × (sink ≡ before)
LeavesChannelInSink taken failures limit file before (Memory sink) = IsLimit limit × (sink ≡ before)
LeavesChannelInSink taken failures limit file before (Sink sink count) =
    IsLimit limit × (failures before < failures sink) × (count ≤ length file)
    × Appends (taken before) (taken sink) (take count file)
