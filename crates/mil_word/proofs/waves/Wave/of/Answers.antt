use Rattle.std.proofs.Common.{◌∙◌, sym}
use Rattle.mil_word.proofs.Reading.{wave_of-word}
use Rattle.mil_word.proofs.waves.Wave.of.Goals as goal

pub returns-in-Some : goal.returns-in-Some
returns-in-Some c = c.of_word.ensures ∙ sym (wave_of-word c.args.half_bits c.in-Some.word c.requires (sym c.in-Some.ensures))
