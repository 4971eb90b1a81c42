use Rattle.bench_export.specs.Waves.{shown_text}
use Rattle.bench_export.proofs.Putting.{five_put}
use Rattle.bench_export.proofs.signals.put_shown.Goals as goal

pub returns-clause-put : goal.returns-clause-put
unfolding shown_text
returns-clause-put c =
    five_put _ _ _ _ _ _ _ _ _ _ _ c.put_error-end.ensures.put
    (rw (c.message_shown.ensures, c.message_shown-2.ensures) at c.put_changed-end.ensures.put)
    (rw (c.terminal_shown.ensures, c.terminal_shown-2.ensures) at c.put_changed-end-2.ensures.put)
    (rw (c.kind_shown.ensures, c.kind_shown-2.ensures) at c.put_changed-end-3.ensures.put)
    (rw c.word_shown.ensures at c.put_signal.ensures.put)
