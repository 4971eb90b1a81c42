-- What a frame does, by recursion on the tree, in any world (own choice).
use Rattle.std.specs.Prelude.{ℕ, zero, suc, ◌+◌, ◌*◌, Bool, not, ◌&&◌, ◌||◌, if◌then◌else◌}
use Rattle.mil_word.specs.declared.Line.{Line}
use Rattle.mil_message.specs.declared.messages.Message.{Message}
use Rattle.mil_message.specs.declared.outcome_test.OutcomeTest.TheVariants.{Failed}
use Rattle.mil_message.specs.World.{World, Point, other_line, sent, asks, now_at, paced_to}
use Rattle.frame_tree.specs.Tree.{Condition, asked, negated, both, either, Tree, send, retry, gap, repeat, choose}
use Rattle.frame_tree.specs.Tree.{until, timed, nothing, chained, call, define}
use Rattle.frame_tree.specs.Expansion.{expansion}

-- n times in a row
abbrev pub times : {X : Type 0} → ℕ → (X → X) → X → X
times zero f x = x
times (suc n) f x = times n f (f x)

module _ {State Outcome : Type 0} (w : World State Outcome) where
  -- what a condition says of the last outcome
  abbrev pub condition_meaning : Condition → Point State Outcome → Bool
  condition_meaning (asked t) p = asks w t p
  condition_meaning (negated c) p = not (condition_meaning c p)
  condition_meaning (both a b) p = condition_meaning a p && condition_meaning b p
  condition_meaning (either a b) p = condition_meaning a p || condition_meaning b p

  -- at most n further attempts, each on the line other than before, while the last outcome is failed
  abbrev pub attempts : ℕ → Line → Message → Point State Outcome → Point State Outcome
  attempts zero line message p = p
  attempts (suc n) line message p =
      if asks w Failed p then attempts n (other_line line) message (sent w (other_line line) message p) else p

  -- at most n turns of a body, while a condition that is looked at before each turn does not hold
  abbrev pub turns_until : ℕ → Condition → (Point State Outcome → Point State Outcome) → Point State Outcome
      → Point State Outcome
  turns_until zero c body p = p
  turns_until (suc n) c body p = if condition_meaning c p then p else turns_until n c body (body p)

  -- a body with a period of h hundreds of µs: what is behind it starts that much later than the body began, or later
  -- still
  abbrev pub held : ℕ → (Point State Outcome → Point State Outcome) → Point State Outcome → Point State Outcome
  held h body p = paced_to w (now_at w p + 1000 * h) (body p)

  -- where a run is after a frame without calls; a call that is left has nothing to stand for it
  abbrev pub plain_meaning : Tree → Point State Outcome → Point State Outcome
  plain_meaning (send line message) p = sent w line message p
  plain_meaning (retry n line message) p = attempts n line message (sent w line message p)
  plain_meaning (gap t) p = record p { gap = t }
  plain_meaning (repeat n body) p = times n (plain_meaning body) p
  plain_meaning (choose c a b) p = if condition_meaning c p then plain_meaning a p else plain_meaning b p
  plain_meaning (until c n body) p = turns_until n c (plain_meaning body) p
  plain_meaning (timed h body) p = held h (plain_meaning body) p
  plain_meaning nothing p = p
  plain_meaning (chained a b) p = plain_meaning b (plain_meaning a p)
  plain_meaning (call n) p = p
  plain_meaning (define n b r) p = plain_meaning r p

  -- where a run is after a frame: what its expansion means
  abbrev pub meaning : Tree → Point State Outcome → Point State Outcome
  meaning t p = plain_meaning (expansion t) p
