use Rattle.std.proofs.Common.{◌<◌, ◌^◌, ◌∙◌, arith}
use Rattle.signal_judge.proofs.Finding.{finding-few, finding-more, finding-skip}
use Rattle.bench_judge.proofs.Writing.{told}
use Rattle.signal_judge.proofs.first.note_first.Goals as goal

pub returns-in_ok-put_first : goal.returns-in_ok-put_first
returns-in_ok-put_first c = λ history finding counted.
    let small : c.args.number < 2 ^ 64 = omega arith in
    let missed = rw c.in-Some.is at (c.in_ok-miss.ensures.told history finding.tallied) in
    finding-more c.args.rule.now c.args.origins.now c.args.most (c.args.channel, c.args.view.now) history c.args.found.now.items c.put_first.new.found.items c.args.tally.now c.note_miss.new.tally _ finding
    missed.0 (c.in_ok-miss.ensures.noted history finding.tallied (omega (arith, counted, small)))
    (missed.1 ∙ told c.args.number c.args.channel c.args.view.now history counted) (c.in_ok-put_first.ensures (finding-few c.args.rule.now c.args.origins.now c.args.most history c.args.found.now.items c.args.tally.now finding))

pub returns-in_default : goal.returns-in_default
returns-in_default c = λ history finding counted.
    let small : c.args.number < 2 ^ 64 = omega arith in
    finding-skip c.args.rule.now c.args.origins.now c.args.most (c.args.channel, c.args.view.now) history c.args.found.now.items c.args.tally.now c.note_miss.new.tally finding
    (rw c.in_default.is at (c.in_ok-miss.ensures.told history finding.tallied)) (c.in_ok-miss.ensures.noted history finding.tallied (omega (arith, counted, small)))
