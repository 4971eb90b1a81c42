use Rattle.std.proofs.Common.{◌∙◌, ℕ, List, sym, subst}
use Rattle.std.specs.Prelude.{OnOk}
use Rattle.std.specs.Io.KnownBytes.{Appends}
use Rattle.bench_dump.proofs.Steps.{appends_nothing}
use Rattle.bench_judge.specs.Lines.{packet_line}
use Rattle.bench_judge.proofs.Missing.{line-none, line-one}
use Rattle.bench_judge.proofs.passes.write_if_missed.Goals as goal

pub returns-then-missed : goal.returns-then-missed
returns-then-missed g c =
    let rule = c.args.rule.now in
    let missed = sym c.misses_packet-missed.ensures ∙ c.if-missed.true in
    subst (λ (l : List ℕ). OnOk c.write_packet.result (Appends (g.W.Write.contents c.args.out.now) (g.W.Write.contents c.write_packet.new.out) l)) (sym (line-one rule (packet_line c.args.skips.now rule.line) c.args.packet.now missed)) c.write_packet.ensures

pub returns : goal.returns
returns g c =
    let rule = c.args.rule.now in
    let kept = sym c.misses_packet-missed.ensures ∙ c.if-missed.false in
    subst (Appends (g.W.Write.contents c.args.out.now) (g.W.Write.contents c.args.out.now)) (sym (line-none rule (packet_line c.args.skips.now rule.line) c.args.packet.now kept)) (appends_nothing (g.W.Write.contents c.args.out.now))
