-- A tally when one more message is passed.
use Rattle.std.proofs.Common.{◌≡◌, ℕ, ◌+◌, ◌^◌, ◌<◌, List, ◌∷◌, length, cond, refl, ap, sym, ◌∙◌, arith}
use Rattle.std.specs.Prelude.{true, false, not}
use Rattle.judge_rules.specs.declared.rules.Rule.{Rule}
use Rattle.bench_judge.specs.declared.tallies.Tally.{Tally}
use Rattle.bench_judge.specs.Selection.{Origins, selects}
use Rattle.bench_judge.specs.Checks.{is_counted, meets}
use Rattle.bench_select.specs.Viewed.{Viewed}
use Rattle.bench_judge.specs.Verdicts.{latest}
use Rattle.bench_judge.specs.Tallies.{IsTally, IsLatest, misses_next}
use Rattle.bench_judge.proofs.Latest.{latest-skip}
use Rattle.bench_judge.proofs.Moments.{counted-next, counted-skip, few-counted, few-missed, few-selected, missed-next, missed-skip, selected-more, selected-skip}

-- one that is not selected
pub tally-skip : (rule : Rule) (origins : Origins) (h : Viewed) (history : List Viewed) (tally : Tally) → selects rule origins h.0 h.1 ≡ false → IsTally rule origins history tally → IsTally rule origins (h ∷ history) tally
tally-skip rule origins h history tally is t = record {
  selected = t.selected ∙ sym (ap length (selected-skip rule origins h history is));
  counted = t.counted ∙ sym (ap length (counted-skip rule origins h history is));
  missed = t.missed ∙ sym (ap length (missed-skip rule origins h history is));
  latest = λ channel. t.latest channel ∙ sym (latest-skip rule origins h history channel is);
}

-- one more is selected, and perhaps counted and missed, of fewer than can be counted
pub tally-next : (rule : Rule) (origins : Origins) (h : Viewed) (history : List Viewed) (tally next : Tally) → selects rule origins h.0 h.1 ≡ true → IsTally rule origins history tally → length history + 1 < 2 ^ 64
    → (tally.selected + 1 < 2 ^ 64 → next.selected ≡ tally.selected + 1)
    → (tally.counted + 1 < 2 ^ 64 → next.counted ≡ tally.counted + cond (is_counted rule.check h.1) 1 0)
    → (tally.missed + 1 < 2 ^ 64 → next.missed ≡ tally.missed + cond (not (meets rule.check (latest rule origins h.0 history) h.1)) 1 0)
    → IsLatest rule origins (h ∷ history) next → IsTally rule origins (h ∷ history) next
tally-next rule origins h history tally next is t small one counts misses now = record {
  selected = omega (arith, one (omega (arith, t.selected, few-selected rule origins history, small)), t.selected, selected-more rule origins h history is);
  counted = counts (omega (arith, t.counted, few-counted rule origins history, small)) ∙ ap (λ (n : ℕ). n + cond (is_counted rule.check h.1) 1 0) t.counted ∙ sym (counted-next rule origins h history is);
  missed = misses (omega (arith, t.missed, few-missed rule origins history, small)) ∙ ap (λ (n : ℕ). n + cond (not (meets rule.check (latest rule origins h.0 history) h.1)) 1 0) t.missed ∙ sym (missed-next rule origins h history is);
  latest = now;
}

-- whether the next message misses the rule
pub next-skip : (rule : Rule) (origins : Origins) (h : Viewed) (history : List Viewed) → selects rule origins h.0 h.1 ≡ false → false ≡ misses_next rule origins history h
next-skip rule origins h history is = rw is refl

pub next-met : (rule : Rule) (origins : Origins) (h : Viewed) (history : List Viewed) → selects rule origins h.0 h.1 ≡ true → meets rule.check (latest rule origins h.0 history) h.1 ≡ true → false ≡ misses_next rule origins history h
next-met rule origins h history is met = rw (is, met) refl

pub next-missed : (rule : Rule) (origins : Origins) (h : Viewed) (history : List Viewed) → selects rule origins h.0 h.1 ≡ true → meets rule.check (latest rule origins h.0 history) h.1 ≡ false → true ≡ misses_next rule origins history h
next-missed rule origins h history is met = rw (is, met) refl
