use Rattle.std.proofs.Common.{◌≡◌, ◌++◌, take, drop}
use Rattle.mil_message.specs.Forms.{data_words, with_data_words}
use Rattle.bc_machine.proofs.asking.put_words.Given as goal

-- so many of the words are put in
abbrev pub invariant-loop-i : goal.invariant-loop-i
invariant-loop-i l = l.sent ≡ with_data_words (take l.i l.words ++ drop l.i (data_words l.initial.sent)) l.initial.sent
