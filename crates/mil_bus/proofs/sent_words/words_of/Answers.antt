use Rattle.std.proofs.Common.{◌≡◌, ◌+◌, ◌<◌, ◌≤◌, ◌++◌, take, drop, length, ap, ◌∙◌, arith, length-append}
use Rattle.mil_bus.specs.Wholes.{whole_words, all_words}
use Rattle.mil_bus.proofs.KeptRuns.{count-step, more-words, own-length, whole_words-length}
use Rattle.mil_bus.proofs.sent_words.words_of.Goals as goal

pub loop-i-preserved : goal.loop-i-preserved
loop-i-preserved c =
    let rs = c.args.runs.now in
    let vs = c.args.values.now in
    let l = c.loop-i in
    let r = c.index-runs-i.result in
    let lt : l.i < length rs = c.loop-i-test.true in
    let step = count-step rs l.i r lt c.index-runs-i.is in
    let own = take r.count (drop l.from vs) in
    let within : l.from + r.count ≤ length vs = omega (arith, step, l.invariant.left) in
    let put : c.put_words.new.words.items ≡ l.words.items ++ whole_words r own = c.put_words.ensures ∙ ap (λ n. l.words.items ++ whole_words r (take n (drop l.from vs))) (omega (arith, c.from.ensures)) in
    let next : l.from + c.from.result ≡ l.from + r.count = omega (arith, c.from.ensures) in
    record {
      words = ap (λ n. c.put_words.new.words.items ++ all_words (drop (l.i + 1) rs) (drop n vs)) next ∙ more-words l.words.items c.put_words.new.words.items rs vs l.i l.from r (all_words rs vs) lt c.index-runs-i.is put l.invariant.words;
      left = omega (arith, step, l.invariant.left, c.from.ensures);
      count = omega (arith, ap length put, length-append l.words.items (whole_words r own), whole_words-length r own, own-length vs l.from r.count within, l.invariant.count, c.from.ensures);
    }
