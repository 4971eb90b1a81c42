use Rattle.std.proofs.Common.{◌≡◌, drop}
use Rattle.mil_bus.specs.Times.{is_last_or}
use Rattle.mil_bus.proofs.sent_words.is_controllers_word.Given as goal

abbrev pub invariant-loop-word : goal.invariant-loop-word
invariant-loop-word l = is_last_or l.last (drop l.word-index l.sent) ≡ is_last_or l.fn.last l.sent
