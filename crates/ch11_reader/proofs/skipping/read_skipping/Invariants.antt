use Rattle.std.proofs.Common.{◌≡◌, length, vec_len}
use Rattle.ch11_reader.proofs.Stretches.{Reading}
use Rattle.ch11_reader.proofs.skipping.read_skipping.Given as goal

abbrev pub invariant-stretches : goal.invariant-stretches
invariant-stretches l = Reading l.file l.rest l.packets.items l.before l.latest.items l.skips.items × (vec_len l.latest ≡ 65536) × (l.judge ≡ l.file)

abbrev pub decreases-stretches : goal.decreases-stretches
decreases-stretches l = length l.rest
