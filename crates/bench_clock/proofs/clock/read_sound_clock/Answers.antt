use Rattle.std.proofs.Common.{◌∙◌}
use Rattle.bench_clock.proofs.Streamed.{both_same}
use Rattle.bench_clock.proofs.clock.read_sound_clock.Goals as goal

pub returns-clause-clock : goal.returns-clause-clock
returns-clause-clock g c file is = c.read_of.ensures.clock ∙ c.in_ok-read_sound_marks.ensures.found file is

pub returns-clause-unread : goal.returns-clause-unread
returns-clause-unread g c file is = c.read_of.ensures.unread ∙ both_same _ _ _ _ (c.in_ok-read_sound_marks.ensures.any file is) (c.in_ok-read_sound_marks.ensures.found file is)
