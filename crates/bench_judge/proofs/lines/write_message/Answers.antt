use Rattle.std.proofs.Common.{◌≡◌, ℕ, ◌<◌, ◌^◌, ◌∙◌, ap, arith}
use Rattle.bench_select.specs.Viewed.{Viewed}
use Rattle.bench_judge.specs.Tallies.{miss_at}
use Rattle.bench_judge.proofs.Writing.{writing-more, writing-skip}
use Rattle.bench_judge.proofs.lines.write_message.Goals as goal

pub returns-in_ok-write_miss : goal.returns-in_ok-write_miss
returns-in_ok-write_miss g c = λ history got written counted.
    let small : c.args.number < 2 ^ 64 = omega arith in
    let rule = c.args.rule.now in
    let origins = c.args.origins.now in
    let h : Viewed = (c.args.channel, c.args.view.now) in
    let missed = rw c.in-Some.is at (c.in_ok-miss.ensures.told history written.tallied) in
    writing-more (g.T.Tallied.is_tally rule origins) (g.T.Tallied.misses_next rule origins) (g.T.Tallied.line_of rule) got (g.W.Write.contents c.args.out.now) (g.W.Write.contents c.write_miss.new.out) h history c.args.tally.now c.note_miss.new.tally _ written
    missed.0 (c.in_ok-miss.ensures.noted history written.tallied (omega (arith, counted, small)))
    (missed.1 ∙ ap (λ (n : ℕ). miss_at n h) counted) (rw c.line.ensures at c.in_ok-write_miss.ensures)

pub returns-in_default : goal.returns-in_default
returns-in_default g c = λ history got written counted.
    let small : c.args.number < 2 ^ 64 = omega arith in
    let rule = c.args.rule.now in
    let origins = c.args.origins.now in
    writing-skip (g.T.Tallied.is_tally rule origins) (g.T.Tallied.misses_next rule origins) (g.T.Tallied.line_of rule) got (g.W.Write.contents c.args.out.now) (c.args.channel, c.args.view.now) history c.args.tally.now c.note_miss.new.tally written
    (rw c.in_default.is at (c.in_ok-miss.ensures.told history written.tallied)) (c.in_ok-miss.ensures.noted history written.tallied (omega (arith, counted, small)))
