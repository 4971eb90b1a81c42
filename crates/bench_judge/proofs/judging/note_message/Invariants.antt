use Rattle.std.proofs.Common.{◌≡◌, ◌+◌, ◌<◌, ◌^◌, ◌∷◌, List, length}
use Rattle.bench_judge.specs.Clean.{IsKnown}
use Rattle.bench_select.specs.Viewed.{Viewed}
use Rattle.bench_judge.specs.Tallies.{AreTallies}
use Rattle.bench_judge.proofs.Passing.{IsNoting}
use Rattle.bench_judge.proofs.judging.note_message.Given as goal

-- the tallies of the rules so far count the message
abbrev pub invariant-rules : goal.invariant-rules
invariant-rules g l = record {
  known : IsKnown l.known l.view;
  many : length l.tallies ≡ length l.rules;
  noting : (history : List Viewed) → AreTallies g.T.Tallied.is_tally l.rules l.origins history l.fn.tallies → length history + 1 < 2 ^ 64
      → IsNoting (λ rule. g.T.Tallied.is_tally rule l.origins history) (λ rule. g.T.Tallied.is_tally rule l.origins ((l.channel, l.view) ∷ history)) l.rules l.tallies l.place;
}
