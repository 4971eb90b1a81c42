use Rattle.std.proofs.Common.{◌≡◌, map, take}
use Rattle.ch11_builder.specs.Held.{fresh}
use Rattle.ch11_recording.specs.WrittenFile.{channel_in}
use Rattle.ch11_recording.proofs.recorder.open_channels.Given as goal

abbrev pub invariant-loop-channel : goal.invariant-loop-channel
invariant-loop-channel l = l.opened.items ≡ map (λ c. fresh (channel_in (record { version = l.version; limit = l.limit }) c)) (take l.channel-index l.channels)
