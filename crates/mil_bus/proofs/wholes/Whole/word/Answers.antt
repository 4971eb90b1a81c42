use Rattle.std.proofs.Common.{ℕ, ◌<◌, ◌≤◌, ◌≡◌, nat_lt, true, false, sym, ap, ◌∙◌, arith}
use Rattle.std.proofs.lemmas.Bool.Decides.{nat_tests}
use Rattle.mil_bus.specs.declared.talks.Sent.{Sent}
use Rattle.mil_bus.proofs.KeptRuns.{word-at, get-same}
use Rattle.mil_bus.proofs.wholes.Whole.word.Goals as goal

below-of : (a b c : ℕ) → b ≡ c → nat_lt a b ≡ true → a < c
below-of a b c e h = grind (arith, nat_tests)

above-of : (a b c : ℕ) → b ≡ c → nat_lt a b ≡ false → c ≤ a
above-of a b c e h = grind (arith, nat_tests)

pub returns : goal.returns
returns c = λ d.
    word-at c.args.self.now c.args.values.now c.args.place d _ c.wave_of.result (nat_lt c.args.place c.from.result) c.requires (get-same c.args.values.now c.args.place _ _ c.requires)
    (below-of c.args.place c.from.result c.args.self.now.commands c.from.ensures) (above-of c.args.place c.from.result c.args.self.now.commands c.from.ensures) c.wave_of.ensures
    ∙ ap (λ gap. let x : Sent = record { wave = c.wave_of.result; gap = gap; run = c.args.self.now.number; source = c.args.self.now.source } in x) (sym c.gap_at.ensures)
