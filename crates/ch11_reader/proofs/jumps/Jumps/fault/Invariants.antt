use Rattle.std.proofs.Common.{◌≡◌, ◌≤◌}
use Rattle.ch11_f1.specs.BodyReading.{messages_at}
use Rattle.ch11_reader.specs.Walking.{between, body_verdict}
use Rattle.ch11_reader.proofs.jumps.Jumps.fault.Given as goal

abbrev pub invariant-messages : goal.invariant-messages
invariant-messages l = record {
  order : l.place ≤ l.end;
  so_far : body_verdict (messages_at l.left (between l.place l.end l.self)) ≡ body_verdict (messages_at l.count (between l.start l.end l.self));
}

abbrev pub decreases-messages : goal.decreases-messages
decreases-messages l = l.left
