use Rattle.std.proofs.Common.{◌≡◌, ◌-◌}
use Rattle.frame_code.specs.Reading.{behind, many, message_at}
use Rattle.frame_code.proofs.reading.past_messages.Given as goal

abbrev pub invariant-loop : goal.invariant-loop
invariant-loop l = behind (many message_at l.initial.count l.initial.bytes) ≡ behind (many message_at (l.count - l.counter) l.rest)
