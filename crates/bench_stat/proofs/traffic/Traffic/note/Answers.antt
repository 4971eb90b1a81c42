use Rattle.bench_stat.proofs.Following.{traffic_more}
use Rattle.bench_stat.proofs.traffic.Traffic.note.Goals as goal

pub returns : goal.returns
returns c = λ history same. rw (c.count.ensures, same) (traffic_more c.args.view.now history)
