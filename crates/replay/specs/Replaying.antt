-- What the debugger's fields keep.
use Rattle.std.specs.Prelude.{◌≡◌, ℕ, ◌≤◌, ◌%◌, length}
use Rattle.replay.specs.declared.timeline.Timeline.{Timeline}
use Rattle.replay.specs.Accord.{Agrees}
use Rattle.replay.specs.Places.{heard_channels}
use Rattle.replay.specs.Moves.{ReplayState}
use Rattle.replay.specs.Standings.{IsTimeline}

pub record IsReplay (s : ReplayState) (t : Timeline) (replayed : ℕ) : Type 0 where
  pub agrees : Agrees s.jobs s.parts s.found
  pub channels_are : t.channels.items ≡ heard_channels s.found
  pub place : s.place ≤ length t.channels.items
  pub stands : IsTimeline t s.place
  pub few : replayed ≤ s.place % 64
