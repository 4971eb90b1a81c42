use Rattle.mil_word.proofs.Keeping.{small_kept}
use Rattle.mil_word.proofs.waves.Wave.word.Goals as goal

pub returns-else-self-lt-WORDS-clause-small : goal.returns-else-self-lt-WORDS-clause-small
returns-else-self-lt-WORDS-clause-small c = rw c.self.view_is at (small_kept c.self.inside.kept)
