use Rattle.bench_signals.proofs.rows.Room.write_rows.Goals as goal

pub returns-in-Values-clause-written : goal.returns-in-Values-clause-written
returns-in-Values-clause-written g c = λ history kept from. rw c.in-Values.is (c.write_values.ensures.written history kept from)

pub returns-in-Messages-clause-written : goal.returns-in-Messages-clause-written
returns-in-Messages-clause-written g c = λ history kept from. rw c.in-Messages.is (c.write_message.ensures.written history kept from)

pub returns-in-Frames-clause-written : goal.returns-in-Frames-clause-written
returns-in-Frames-clause-written g c = λ history kept from. rw c.in-Frames.is (c.write_frame.ensures.written history kept from)
