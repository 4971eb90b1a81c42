use Rattle.std.proofs.Common.{arith}
use Rattle.bc_machine.proofs.schedule.Schedule.len.Goals as goal

pub returns-clause-few : goal.returns-clause-few
returns-clause-few c = omega (arith, c.len.ensures, c.self.inside.rows.ok.1, c.self.inside.rows.small)
