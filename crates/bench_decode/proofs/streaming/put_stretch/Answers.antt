use Rattle.std.proofs.Common.{◌∙◌}
use Rattle.bench_decode.proofs.PrintedLines.{on_ok_one}
use Rattle.bench_decode.proofs.streaming.put_stretch.Goals as goal

pub returns-in_ok-put_messages-in-Sound-clause-put : goal.returns-in_ok-put_messages-in-Sound-clause-put
returns-in_ok-put_messages-in-Sound-clause-put g c = λ history are. rw c.in-Sound.is (λ from. rw c.messages.ensures at c.in_ok-put_messages-in-Sound.ensures history are from)

pub returns-in-Skipped-clause-put : goal.returns-in-Skipped-clause-put
returns-in-Skipped-clause-put g c = λ history are.
    rw c.in-Skipped.is (on_ok_one c.put_skip.result c.put_skip.ensures.put (λ put. (put, record { counts = are.counts; count = are.count; shown = put.shown ∙ are.shown })))
