use Rattle.std.proofs.lemmas.Nat.{xor_lt}
use Rattle.mil_word.proofs.waves.Wave.masked.Goals as goal

pub of-requires : goal.of-requires
of-requires c = xor_lt 40 _ _ c.half_bits.ensures.small c.half_bits-2.ensures.small
