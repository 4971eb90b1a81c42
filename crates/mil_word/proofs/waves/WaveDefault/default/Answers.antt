use Rattle.std.proofs.Common.{refl}
use Rattle.mil_word.specs.Wave.{digits, word_of}
use Rattle.mil_word.proofs.waves.WaveDefault.default.Goals as goal

pub invariant_of-result : goal.invariant_of-result
unfolding digits word_of
invariant_of-result c = refl
