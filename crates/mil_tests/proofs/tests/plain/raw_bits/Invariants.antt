use Rattle.std.proofs.Common.{◌≡◌, ◌+◌, ◌*◌, ◌^◌}
use Rattle.mil_word.specs.Wave.{number, raw_of}
use Rattle.mil_word.proofs.WaveLemmas.{information}
use Rattle.mil_tests.proofs.tests.plain.raw_bits.Given as goal

-- what is read so far and the bits to come are the value
abbrev pub invariant-loop-pair : goal.invariant-loop-pair
invariant-loop-pair l = raw_of l.wave ≡ l.raw * 2 ^ l.pair + number (information l.pair l.wave)
