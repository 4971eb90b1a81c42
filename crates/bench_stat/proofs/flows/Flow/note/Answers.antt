use Rattle.bench_stat.proofs.Following.{flow_more}
use Rattle.bench_stat.proofs.flows.Flow.note.Goals as goal

pub returns-clause-flow : goal.returns-clause-flow
returns-clause-flow c = λ history same. rw (c.note_message.ensures, same) (flow_more c.args.view.now history)
