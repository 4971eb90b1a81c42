use Rattle.std.proofs.Common.{◌≡◌, map, take, ◌++◌}
use Rattle.mil_message.specs.Forms.{commands, command_of, data_of}
use Rattle.mil_message.proofs.messages.Message.controller_words.Given as goal

abbrev pub invariant-loop-value : goal.invariant-loop-value
invariant-loop-value l = l.words.items ≡ map command_of (commands l.self) ++ map data_of (take l.value-index l.value-items)
