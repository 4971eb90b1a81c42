use Rattle.std.proofs.Common.{arith}
use Rattle.ch11_reader.specs.Walking.{between}
use Rattle.ch11_reader.proofs.Walks.{fault_of_all}
use Rattle.ch11_reader.proofs.jumps.Jumps.fault.Goals as goal

pub returns-in-Err : goal.returns-in-Err
returns-in-Err c =
    fault_of_all c.args.count c.messages.left (between c.args.start c.args.end c.args.self.now) (between c.messages.place c.args.end c.args.self.now) c.in-Err.fault c.messages.invariant.so_far (omega (arith, c.messages-test.true)) (rw c.self.view_is at c.in-Err.ensures.fault)
