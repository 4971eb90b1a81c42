use Rattle.std.proofs.Common.{◌≡◌, ◌+◌, ◌∙◌, length, vec_len, refl, arith, rules}
use Rattle.bench_export.proofs.Latest.{reached}
use Rattle.bench_export.specs.Showing.{idle}
use Rattle.bench_export.proofs.lines.Lines.reach.Goals as goal

pub returns-clause-same : goal.returns-clause-same
returns-clause-same c k =
    let r = c.in_ok-resize.ensures in
    let old = c.args.self.now.shown in
    let new = c.resize.new.self in
    let was : length old.items ≡ vec_len old = search rules in
    let now : length new.items ≡ vec_len new = search rules in
    reached old.items new.items (c.args.place + 1) (omega (arith, c.if-place-len.false)) (now ∙ r.len) (λ j below before. r.by_index.0 j idle below (omega (arith, before, was)))
    (λ j past below. r.by_index.1 j idle refl (omega (arith, past, was)) below) k
