use Rattle.mil_word.proofs.Reading.{word_of_is}
use Rattle.mil_word.proofs.code.decode.Goals as goal

pub returns-clause-sound : goal.returns-clause-sound
returns-clause-sound c = λ word fits. word_of_is c.args.wave c.word.result word c.word.ensures.small c.word.ensures.value fits
