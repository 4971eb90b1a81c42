use Rattle.std.proofs.Common.{◌∙◌, sym}
use Rattle.std.specs.List.{flat_map}
use Rattle.bench_judge.specs.Lines.{missed_lines, packet_line}
use Rattle.bench_judge.specs.Packets.{packets_missed}
use Rattle.bench_judge.specs.Streaming.{passed_of}
use Rattle.bench_judge.specs.Tallies.{miss_lines}
use Rattle.bench_judge.proofs.Rereading.{lines_other, lines_whole, same_lines}
use Rattle.bench_judge.proofs.passes.write_missed_of.Goals as goal

pub returns-then-is_whole : goal.returns-then-is_whole
returns-then-is_whole g c file is =
    let skips = c.args.ruled.skips.now in
    let rule = c.args.ruled.rule.now in
    let origins = c.args.ruled.origins.now in
    same_lines (λ p. flat_map (packet_line skips rule.line) (packets_missed rule p.packets)) (missed_lines skips rule) origins c.write_packets.result file _ _
    (lines_whole skips rule (passed_of origins file) (sym c.is_whole.ensures ∙ c.if-is_whole.true)) (c.write_packets.ensures file is)

pub returns : goal.returns
returns g c file is =
    let skips = c.args.ruled.skips.now in
    let rule = c.args.ruled.rule.now in
    let origins = c.args.ruled.origins.now in
    same_lines (λ p. miss_lines rule p.origins p.messages) (missed_lines skips rule) origins c.write_misses.result file _ _
    (lines_other skips rule (passed_of origins file) (sym c.is_whole.ensures ∙ c.if-is_whole.false)) (c.write_misses.ensures file is)
