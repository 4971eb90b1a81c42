use Rattle.ch11_f1.specs.Views.{message_of}
use Rattle.ch11_layout.specs.Stamps.{recorded}
use Rattle.bench_reproduce.proofs.Beside.{compares_under, counts_one, next_is}
use Rattle.bench_reproduce.proofs.judging.compare_next.Goals as goal

pub returns-clause-of_job : goal.returns-clause-of_job
returns-clause-of_job c = c.next_record-record.ensures.of_job

pub returns-clause-next : goal.returns-clause-next
returns-clause-next c =
    let told = c.next_record-record.ensures in
    compares_under c.compare_at.result c.args.machine.now c.next_record-record.new.machine c.next_record-record.result c.args.standing.now c.compare_at.new.standing (recorded c.args.message.now.kind (message_of c.args.message.now.seen)) c.compare_at.ensures
    (λ job placed sound of. next_is job placed c.args.machine.now c.next_record-record.new.machine c.next_record-record.result told.record told.number told.all told.same sound of)

pub returns-clause-more : goal.returns-clause-more
returns-clause-more c =
    counts_one c.compare_at.result c.next_record-record.result c.args.standing.now c.compare_at.new.standing (recorded c.args.message.now.kind (message_of c.args.message.now.seen)) c.compare_at.ensures
