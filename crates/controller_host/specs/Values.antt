-- What contracts see of what the host of a controller asks for, and the ranges of its values (own choice).
use Rattle.std.specs.Prelude.{ℕ, ◌≤◌, List, length}
use Rattle.mil_word.specs.declared.Line.{Line}
use Rattle.mil_message.specs.declared.forms.Form.{Form}
use Rattle.controller_host.specs.declared.destinations.Destination.{Destination}
use Rattle.controller_host.specs.Destinations.{IsDestination, most_words_to}

-- data words for a destination, from its first place on
pub record NewWordsValue : Type 0 where
  pub destination : Destination
  pub words : List ℕ

-- a word at a place of a destination that grows from message to message
pub record RampValue : Type 0 where
  pub destination : Destination
  pub place : ℕ
  pub start : ℕ
  pub add : ℕ

-- a message that stands in no frame, and the tick before which it does not start
pub record InsertionValue : Type 0 where
  pub tick : ℕ
  pub line : Line
  pub message : Form

-- 2^47, as for the start of a job
abbrev pub latest_tick : ℕ
latest_tick = 140737488355328

pub record AreNewWords (w : NewWordsValue) : Type 0 where
  pub destination : IsDestination w.destination
  pub some : 1 ≤ length w.words
  pub few : length w.words ≤ most_words_to w.destination
