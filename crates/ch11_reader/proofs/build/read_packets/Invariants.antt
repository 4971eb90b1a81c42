use Rattle.std.proofs.Common.{◌≡◌, length, vec_len}
use Rattle.ch11_reader.proofs.Loop.{Building}
use Rattle.ch11_reader.proofs.build.read_packets.Given as goal

abbrev pub invariant-loop-rest : goal.invariant-loop-rest
invariant-loop-rest l = Building l.file l.rest l.packets.items l.before l.latest.items × (vec_len l.latest ≡ 65536)

abbrev pub decreases-loop-rest : goal.decreases-loop-rest
decreases-loop-rest l = length l.rest
