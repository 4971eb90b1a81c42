-- What a condition says of the last outcome.
use Rattle.std.specs.Prelude.{Bool, not, ◌&&◌, ◌||◌, Option}
use Rattle.mil_bus.specs.declared.outcomes.Outcome.{Outcome}
use Rattle.frame_tree.specs.Tree.{Condition, asked, negated, both, either}
use Rattle.bc_machine.specs.Outcomes as outcomes

-- false before any message, but for the operators
abbrev pub answer_of : Condition → Option Outcome → Bool
answer_of (asked t) last = outcomes.test_of t last
answer_of (negated c) last = not (answer_of c last)
answer_of (both a b) last = answer_of a last && answer_of b last
answer_of (either a b) last = answer_of a last || answer_of b last
