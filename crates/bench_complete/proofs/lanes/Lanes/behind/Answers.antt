use Rattle.bench_complete.proofs.Standing.{follows_at, follows_timed}
use Rattle.bench_complete.proofs.lanes.Lanes.behind.Goals as goal

pub returns-in-Recorded : goal.returns-in-Recorded
returns-in-Recorded c = λ file.
    let stands = c.requires.stands file in
    follows_at file c.args.self.now.packets.now c.args.self.now.times c.args.links.now.first.items c.args.links.now.next.items c.requires.linked c.args.head.now c.in-Recorded.place stands.0 c.recorded.result
    c.index.result.now c.in-Recorded.is stands.1 c.index.ensures c.recorded.ensures

pub returns-in-Time : goal.returns-in-Time
returns-in-Time c = λ file.
    let stands = c.requires.stands file in
    follows_timed file c.args.self.now.packets.now c.args.self.now.times c.args.head.now c.in-Time.second stands.0 c.timed.result c.in-Time.is stands.1 c.timed.ensures
