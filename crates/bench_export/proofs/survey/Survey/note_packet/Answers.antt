use Rattle.bench_export.proofs.survey.Survey.note_packet.Goals as goal

pub returns-clause-noted : goal.returns-clause-noted
returns-clause-noted c cs s = rw (c.deref.ensures.value, c.in_ok-push_messages.ensures, c.clear.ensures.items) at (c.note_all.ensures.noted cs s)
