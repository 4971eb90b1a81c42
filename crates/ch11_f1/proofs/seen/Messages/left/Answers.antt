use Rattle.std.proofs.Common.{length, sym, ap, ◌∙◌}
use Rattle.ch11_f1.specs.BodyReading.{messages_at, ok_or_none}
use Rattle.ch11_f1.proofs.Loop.{read_count}
use Rattle.ch11_f1.proofs.seen.Messages.left.Goals as goal

pub returns : goal.returns
returns c = sym (read_count c.self.inside.left c.self.inside.rest.now (ok_or_none (messages_at c.self.inside.left c.self.inside.rest.now)) c.self.invariant) ∙ ap length c.self.view_is
