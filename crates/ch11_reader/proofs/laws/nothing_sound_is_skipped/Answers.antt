use Rattle.ch11_reader.proofs.Stretches.{nothing_sound_is_skipped}
use Rattle.ch11_reader.proofs.laws.nothing_sound_is_skipped.Goals as goal

pub returns : goal.returns
returns c = nothing_sound_is_skipped
