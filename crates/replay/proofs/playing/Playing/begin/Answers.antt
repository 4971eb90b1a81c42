use Rattle.std.proofs.Common.{ℕ, List, [], ◌∷◌, ◌++◌, ap, ◌∙◌}
use Rattle.replay.specs.declared.checkpoints.Due.{Due}
use Rattle.replay.specs.declared.tracks.Mark.{Mark}
use Rattle.replay.proofs.playing.Playing.begin.Goals as goal

abbrev due_of : ℕ → Due
due_of channel = record { channel = channel; stop = 0; heard = 0 }

pub returns : goal.returns
returns c = record {
  heard = c.in_ok-standing.ensures.heard;
  there = c.in_ok-standing.ensures.there;
  due = c.first-due.ensures ∙ ap due_of c.channel-channel.ensures.value;
  mark = c.mark.result;
  number = c.mark.ensures.number;
  last = c.mark.ensures.last;
  marks = c.in_ok-push.ensures.items ∙ ap (λ (xs : List Mark). xs ++ c.mark.result ∷ []) c.in_ok-marks.ensures.items;
}
