use Rattle.std.proofs.Common.{◌+◌, ap, sym, subst, ◌∙◌}
use Rattle.mil_bus.specs.Exchange.{BusState, clock_of}
use Rattle.bc_machine.specs.Running.{HasEnded}
use Rattle.bc_machine.specs.UnderWay.{IsQuiet, IsHalted}
use Rattle.job_file.proofs.Nexts.{message_of, next_is, next_of, smaller, all_given, follows, latest_told}
use Rattle.job_file.proofs.stepping.next_record.Goals as goal

pub steps-smaller : goal.steps-smaller
steps-smaller c =
    let quiet : IsQuiet c.steps.machine c.step.new.self = c.in-Ran.ensures.tells in
    smaller c.steps.machine c.step.new.self c.step.ensures.value quiet.taken c.step.ensures.under_way

pub steps-preserved : goal.steps-preserved
steps-preserved c =
    let quiet : IsQuiet c.steps.machine c.step.new.self = c.in-Ran.ensures.tells in
    let i = c.steps.invariant in
    record {
      talks = ap (λ (b : BusState). b.talks) quiet.state ∙ i.talks;
      ended = ap (λ (b : BusState). clock_of b.start b.talks) quiet.state ∙ i.ended;
      latest = quiet.latest ∙ i.latest;
      number = quiet.number ∙ i.number;
      of = λ job placed of.
          next_of c.job_runs.ensures.goes_on job placed c.steps.machine c.step.new.self c.step.ensures.value (i.of job placed of) c.step.ensures.under_way;
    }

pub returns-in-Sent-clause-record : goal.returns-in-Sent-clause-record
returns-in-Sent-clause-record c job placed sound of =
    let message = message_of c.steps.machine c.step.new.self c.step.result c.in-Sent.record c.step.ensures.tells c.in-Sent.is in
    let here = c.steps.invariant.of job placed of in
    let next = next_of c.job_runs.ensures.goes_on job placed c.steps.machine c.step.new.self c.step.ensures.value here c.step.ensures.under_way in
    next_is c.job_runs.ensures.so_far c.job_runs.ensures.counts job placed c.steps.machine c.step.new.self c.in-Sent.record _ sound here next message c.steps.invariant.number

pub returns-in-Sent-clause-follows : goal.returns-in-Sent-clause-follows
returns-in-Sent-clause-follows c =
    let message = message_of c.steps.machine c.step.new.self c.step.result c.in-Sent.record c.step.ensures.tells c.in-Sent.is in
    follows c.steps.machine c.step.new.self c.in-Sent.record _ message c.steps.invariant.ended

pub returns-in-Sent-clause-told : goal.returns-in-Sent-clause-told
returns-in-Sent-clause-told c was =
    let message = message_of c.steps.machine c.step.new.self c.step.result c.in-Sent.record c.step.ensures.tells c.in-Sent.is in
    latest_told c.steps.machine c.step.new.self c.in-Sent.record message

pub returns-in-Sent-clause-number : goal.returns-in-Sent-clause-number
returns-in-Sent-clause-number c =
    let message = message_of c.steps.machine c.step.new.self c.step.result c.in-Sent.record c.step.ensures.tells c.in-Sent.is in
    message.number ∙ ap (λ n. n + 1) c.steps.invariant.number

pub returns-in-Sent-clause-small : goal.returns-in-Sent-clause-small
returns-in-Sent-clause-small c =
    let message = message_of c.steps.machine c.step.new.self c.step.result c.in-Sent.record c.step.ensures.tells c.in-Sent.is in
    message.small

pub returns-in-Sent-clause-ends : goal.returns-in-Sent-clause-ends
returns-in-Sent-clause-ends c =
    let message = message_of c.steps.machine c.step.new.self c.step.result c.in-Sent.record c.step.ensures.tells c.in-Sent.is in
    message.ends

pub returns-in-Halted-clause-all : goal.returns-in-Halted-clause-all
returns-in-Halted-clause-all c job placed sound of =
    let halted : IsHalted c.steps.machine c.step.new.self = c.in-Halted.ensures.tells in
    let i = c.steps.invariant in
    all_given c.job_runs.ensures.whole c.job_runs.ensures.counts job placed c.steps.machine c.args.machine.now.point.number sound (i.of job placed of) halted.ended i.number

pub returns-in-Halted-clause-ended : goal.returns-in-Halted-clause-ended
returns-in-Halted-clause-ended c =
    let halted : IsHalted c.steps.machine c.step.new.self = c.in-Halted.ensures.tells in
    subst HasEnded (sym halted.same) halted.ended
