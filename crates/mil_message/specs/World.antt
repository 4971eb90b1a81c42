-- What frames run on, whatever it is: something that takes messages, whose last outcome can be tested, and that has a
-- clock. Times are ticks of 0.1 µs.
use Rattle.std.specs.Prelude.{ℕ, ◌+◌, Bool, false, Option, None, Some}
use Rattle.mil_word.specs.declared.Line.{Line}
use Rattle.mil_word.specs.declared.Line.TheVariants.{A, B}
use Rattle.mil_message.specs.declared.messages.Message.{Message}
use Rattle.mil_message.specs.declared.outcome_test.OutcomeTest.{OutcomeTest}

-- State: what has happened so far, as the terminals' histories and the talks; Outcome: what a message came to
pub record World (State Outcome : Type 0) : Type 0 where
  -- the message of this number, on a line, with a gap in ticks, from a state: the state after it, and what it came to
  pub exchange : ℕ → Line → Message → ℕ → State → State × Outcome
  -- what a test of an outcome answers
  pub holds : OutcomeTest → Outcome → Bool
  -- now: when all that was sent has ended, or the tick that was waited for, where that is later
  pub now : State → ℕ
  -- the same state, but that nothing is sent before this tick
  pub paced : ℕ → State → State

-- where a run is: the state, how many messages were sent, the gap that is set, and the last outcome
pub record Point (State Outcome : Type 0) : Type 0 where
  pub state : State
  pub number : ℕ
  pub gap : ℕ
  pub last : Option Outcome

abbrev pub other_line : Line → Line
other_line A = B
other_line B = A

module _ {State Outcome : Type 0} (w : World State Outcome) where
  -- one message: it has the next number
  abbrev pub sent : Line → Message → Point State Outcome → Point State Outcome
  sent line message p =
      let r = w.exchange (p.number + 1) line message p.gap p.state in
      record { state = r.0; number = p.number + 1; gap = p.gap; last = Some r.1 }

  -- now, at a point
  abbrev pub now_at : Point State Outcome → ℕ
  now_at p = w.now p.state

  -- a point from which nothing is sent before this tick
  abbrev pub paced_to : ℕ → Point State Outcome → Point State Outcome
  paced_to tick p = record p { state = w.paced tick p.state }

  abbrev holds_of : OutcomeTest → Option Outcome → Bool
  holds_of test None = false
  holds_of test (Some outcome) = w.holds test outcome

  -- a test of the last outcome, false before any message
  abbrev pub asks : OutcomeTest → Point State Outcome → Bool
  asks test p = holds_of test p.last
