use Rattle.std.proofs.Common.{take}
use Rattle.std.specs.Fmt.{HasWritten, IsPlainFormatter}
use Rattle.std.specs.List.{flat_map}
use Rattle.frame_text.specs.PrintedMessages.{spaced_data}
use Rattle.frame_text.proofs.printed_messages.MoreWordsTextDisplay.fmt.Given as goal

-- the words so far are written
abbrev pub invariant-loop-word : goal.invariant-loop-word
invariant-loop-word g l =
    IsPlainFormatter l.initial.f → HasWritten g.W.Write.write_str_gives l.initial.f (flat_map spaced_data (take l.word-index l.word-items)) l.f
