use Rattle.std.proofs.Common.{◌≡◌, ℕ, ◌+◌, ◌<◌, ◌^◌, ◌∙◌, cond, refl, sym, ap, arith, true}
use Rattle.std.specs.Prelude.{Bool, not}
use Rattle.std.proofs.lemmas.Grind.{common_steps}
use Rattle.bench_select.specs.Viewed.{Viewed}
use Rattle.bench_judge.proofs.Tallying.{tally-next}
use Rattle.bench_judge.proofs.tallies.Tally.note.Goals as goal

pub returns-clause-told : goal.returns-clause-told
returns-clause-told c history is =
    let chosen : c.selects.result ≡ true = grind (arith, common_steps) in
    let sel = sym c.selects.ensures ∙ chosen in
    let met = c.meets-met.ensures.met ∙ c.in_ok-before.ensures.before c.args.rule.now c.args.origins.now history refl is.latest in
    rw (sel, met) refl

pub returns-clause-noted : goal.returns-clause-noted
returns-clause-noted c history is small =
    let rule = c.args.rule.now in
    let origins = c.args.origins.now in
    let old = c.args.self.now in
    let h : Viewed = (c.args.channel, c.args.view.now) in
    let chosen : c.selects.result ≡ true = grind (arith, common_steps) in
    let sel = sym c.selects.ensures ∙ chosen in
    let met = c.meets-met.ensures.met ∙ c.in_ok-before.ensures.before rule origins history refl is.latest in
    tally-next rule origins h history old _ sel is small
    (λ (s : old.selected + 1 < 2 ^ 64). c.one_if-self.ensures (omega (arith, s, c.in_ok-before.ensures.selected)) ∙ ap (λ (n : ℕ). n + 1) c.in_ok-before.ensures.selected)
    (λ (s : old.counted + 1 < 2 ^ 64). c.one_if-self-2.ensures (omega (arith, s, c.in_ok-before.ensures.counted))
    ∙ ap (λ (n : ℕ). n + cond c.is_counted.result 1 0) c.in_ok-before.ensures.counted
    ∙ ap (λ (b : Bool). old.counted + cond b 1 0) c.is_counted.ensures.value)
    (λ (s : old.missed + 1 < 2 ^ 64). c.one_if-self-3.ensures (omega (arith, s, c.in_ok-before.ensures.missed))
    ∙ ap (λ (n : ℕ). n + cond (not c.meets-met.result) 1 0) c.in_ok-before.ensures.missed
    ∙ ap (λ (b : Bool). old.missed + cond (not b) 1 0) met)
    (c.in_ok-before.ensures.latest rule origins history refl sel is.latest)
