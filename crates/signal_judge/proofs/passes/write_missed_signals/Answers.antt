use Rattle.std.proofs.Common.{ap}
use Rattle.std.specs.List.{flat_map}
use Rattle.bench_judge.specs.Lines.{miss_line}
use Rattle.bench_judge.specs.Streaming.{passed_of}
use Rattle.bench_judge.specs.Tallies.{missed_by}
use Rattle.bench_judge.proofs.Rereading.{same_lines}
use Rattle.signal_judge.specs.Tallies.{miss_lines, misses_next}
use Rattle.signal_judge.proofs.Writing.{missed-rule}
use Rattle.signal_judge.proofs.passes.write_missed_signals.Goals as goal

pub returns : goal.returns
returns g c file is =
    let r = c.args.rule.now in
    let origins = c.args.origins.now in
    same_lines (λ p. flat_map (miss_line r.rule.line) (missed_by (misses_next r p.origins) p.messages)) (λ p. miss_lines r p.origins p.messages) origins c.write_each_miss.result file _ _
    (ap (flat_map (miss_line r.rule.line)) (missed-rule r origins (passed_of origins file).messages)) (c.write_each_miss.ensures file is)
