use Rattle.std.proofs.Common.{◌∙◌, ap, length, subst}
use Rattle.std.specs.Io.KnownBytes.{Appends}
use Rattle.bench_dump.proofs.Packets.{kept}
use Rattle.bench_dump.proofs.Steps.{appends_both}
use Rattle.bench_judge.specs.Lines.{last_line, rules_lines}
use Rattle.bench_judge.specs.Streaming.{passed_of}
use Rattle.bench_judge.specs.Verdicts.{not_held}
use Rattle.bench_judge.proofs.Writing.{whole-text}
use Rattle.bench_judge.proofs.passes.write_verdicts.Goals as goal

pub write_rules-requires : goal.write_rules-requires
write_rules-requires g c = ap length c.as_slice.ensures.value ∙ c.in_ok-verdicts-in-Ok.ensures.many

pub returns-clause-written : goal.returns-clause-written
returns-clause-written g c file is =
    let judged = c.in_ok-verdicts-in-Ok.ensures.judged file (c.in-Ok.ensures file is) in
    let p = passed_of c.args.origins.now file in
    let verdicts = c.in_ok-verdicts-in-Ok.verdicts.items in
    let rules = c.in_ok-write_rules.ensures file is judged.0 (rw c.as_slice.ensures.value judged.1) in
    let last = rw c.as_slice-2.ensures.value at c.in_ok-write_last.ensures in
    let both = appends_both (g.W.Write.contents c.args.out.now) (g.W.Write.contents c.write_rules.new.out) (g.W.Write.contents c.write_last.new.out) (rules_lines c.args.skips.now c.args.rules.now p) (last_line (length verdicts) (not_held verdicts)) rules.1 last in (
      judged.0,
      kept _ _ _ _ (subst (Appends (g.W.Write.contents c.args.out.now) (g.W.Write.contents c.write_last.new.out)) (whole-text c.args.skips.now c.args.rules.now p verdicts judged.1) both) c.in_ok-flush.ensures.bytes,
    )
