use Rattle.std.proofs.Common.{arith, ◌∙◌}
use Rattle.bc_machine.proofs.Next.{few}
use Rattle.bench_reproduce.proofs.judging.run_on.Goals as goal

pub records-init : goal.records-init
records-init c = λ job placed of. of

pub records-smaller : goal.records-smaller
records-smaller c = omega (arith, few c.next_record.new.machine c.in-Some.ensures.under_way, c.in-Some.ensures.number)

pub records-preserved : goal.records-preserved
records-preserved c = λ job placed of. c.next_record.ensures.of_job job placed (c.records.invariant job placed of)

pub returns : goal.returns
returns c job placed sound of =
    c.in_default.ensures.same
    ∙ c.in_default.ensures.all job placed sound (c.records.invariant job placed of)
