use Rattle.std.proofs.Common.{refl}
use Rattle.mil_terminal.specs.Phases.{decides}
use Rattle.mil_terminal.proofs.Steps.{quiet_decided, quiet_pending}
use Rattle.mil_terminal.proofs.pending.Pending.take_quiet.Goals as goal

pub returns-clause-decided : goal.returns-clause-decided
returns-clause-decided c = λ own items is. rw c.follow_quiet.ensures.result (quiet_decided own c.args.self.now items (decides c.args.self.now.phase) refl is)

pub returns-clause-pending : goal.returns-clause-pending
returns-clause-pending c = λ own items is. rw (c.follow_quiet.ensures.result, c.follow_quiet.ensures.after) (quiet_pending own c.args.self.now items (decides c.args.self.now.phase) refl is)
