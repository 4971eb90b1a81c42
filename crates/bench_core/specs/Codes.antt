-- What the fault of one channel's recording prints (own choice).
use Rattle.std.specs.Prelude.{ℕ, List, ◌++◌, codes, decimal}
use Rattle.bench_core.specs.declared.channel_fault.ChannelFault.{ChannelFault}
use Rattle.bench_core.specs.declared.channel_fault.ChannelFault.TheVariants.{Limit, Memory, Sink}

abbrev pub channel_code : {S : Type 0} → ChannelFault S → List ℕ
channel_code (Limit sink) = codes "G1"
channel_code (Memory sink) = codes "U3"
channel_code (Sink sink taken) = codes "U4 taken " ++ decimal taken
