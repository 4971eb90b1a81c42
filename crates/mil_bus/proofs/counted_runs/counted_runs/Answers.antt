use Rattle.std.proofs.Common.{◌≡◌, ◌+◌, ◌-◌, ◌<◌, ◌≤◌, take, drop, length, sym, ap, ◌∙◌, arith}
use Rattle.std.proofs.lemmas.List.{take_all, drop_all}
use Rattle.mil_bus.specs.Counts.{counts_of}
use Rattle.mil_bus.specs.Wholes.{all_words, words_in}
use Rattle.mil_bus.proofs.KeptRuns.{count-step, own-length, all_words-length}
use Rattle.mil_bus.proofs.CountedRuns.{run-stands, rest-step}
use Rattle.mil_bus.proofs.counted_runs.counted_runs.Goals as goal

pub note_run-requires-clause-few : goal.note_run-requires-clause-few
note_run-requires-clause-few c = omega (arith, all_words-length c.args.runs.now c.args.values.now c.requires.counted, c.requires.few)

pub note_run-requires-clause-within : goal.note_run-requires-clause-within
note_run-requires-clause-within c =
    let rs = c.args.runs.now in
    let vs = c.args.values.now in
    let l = c.loop-i in
    let r = c.index-runs-i.result in
    let step = count-step rs l.i r c.loop-i-test.true c.index-runs-i.is in
    let within : l.from + r.count ≤ length vs = omega (arith, step, l.invariant.left) in
    let own : take (l.from + c.from.result - l.from) (drop l.from vs) ≡ take r.count (drop l.from vs) = ap (λ n. take n (drop l.from vs)) (omega (arith, c.from.ensures)) in
    omega (arith, within, ap length own, own-length vs l.from r.count within, all_words-length rs vs c.requires.counted)

pub note_run-requires-clause-there : goal.note_run-requires-clause-there
note_run-requires-clause-there c =
    let l = c.loop-i in
    let vs = c.args.values.now in
    let own_is = ap (λ n. take n (drop l.from vs)) (omega (arith, c.from.ensures)) in
    run-stands c.args.runs.now vs (all_words c.args.runs.now vs) l.i l.from c.index-runs-i.result _ c.loop-i-test.true c.index-runs-i.is l.invariant.rest own_is

pub loop-i-preserved : goal.loop-i-preserved
loop-i-preserved c =
    let rs = c.args.runs.now in
    let vs = c.args.values.now in
    let xs = all_words rs vs in
    let l = c.loop-i in
    let r = c.index-runs-i.result in
    let lt : l.i < length rs = c.loop-i-test.true in
    let step = count-step rs l.i r lt c.index-runs-i.is in
    let within : l.from + r.count ≤ length vs = omega (arith, step, l.invariant.left) in
    let next : l.from + c.from.result ≡ l.from + r.count = omega (arith, c.from.ensures) in
    let own : take (l.from + c.from.result - l.from) (drop l.from vs) ≡ take r.count (drop l.from vs) = ap (λ n. take n (drop l.from vs)) (omega (arith, c.from.ensures)) in
    let long : l.from + length (take (l.from + c.from.result - l.from) (drop l.from vs)) ≡ l.from + c.from.result = omega (arith, ap length own, own-length vs l.from r.count within, c.from.ensures) in
    record {
      seen = c.note_run.ensures ∙ ap (λ n. counts_of c.args.commands c.args.due (take n xs)) long;
      rest = ap (λ n. drop n xs) next ∙ rest-step rs vs xs l.i l.from r lt c.index-runs-i.is within l.invariant.rest ∙ ap (λ n. all_words (drop (l.i + 1) rs) (drop n vs)) (sym next);
      left = omega (arith, step, l.invariant.left, c.from.ensures);
    }

pub returns : goal.returns
returns c =
    let rs = c.args.runs.now in
    let vs = c.args.values.now in
    let xs = all_words rs vs in
    let done : words_in (drop c.loop-i.i rs) ≡ 0 = ap words_in (drop_all c.loop-i.i rs (omega (arith, c.loop-i.auto.i-end))) in
    c.loop-i.invariant.seen ∙ ap (counts_of c.args.commands c.args.due) (take_all c.loop-i.from xs (omega (arith, c.loop-i.invariant.left, done, all_words-length rs vs c.requires.counted)))
