use Rattle.bench_decode.proofs.DumpLines.{message-put}
use Rattle.bench_decode.proofs.printing.put_as_dump.Goals as goal

pub returns : goal.returns
returns g c =
    message-put _ _ _ c.args.line.now c.hand_on.new.self c.put_labelled.new.self c.put_labelled-2.new.self c.put_labelled-3.new.self c.put.new.self c.put_word.new.self c.put-2.new.self c.put_word-2.new.self c.put-3.new.self c.put_words.new.self c.end_line.new.self
    c.args.place.now.number c.args.place.now.channel c.args.view.now c.in_ok-hand_on.ensures.put c.put_labelled.ensures.put (rw c.from.ensures at c.put_labelled-2.ensures.put) (rw c.number.ensures at c.put_labelled-3.ensures.put)
    c.put.ensures.put (rw c.block.ensures at c.put_word.ensures.put) c.put-2.ensures.put (rw c.gaps.ensures at c.put_word-2.ensures.put) c.put-3.ensures.put
    (rw c.bytes.ensures at c.in_ok-put_words.ensures.put) c.end_line.ensures
