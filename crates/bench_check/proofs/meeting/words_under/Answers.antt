use Rattle.std.proofs.Common.{rules}
use Rattle.bench_check.proofs.Played.{words_are}
use Rattle.bench_check.proofs.meeting.words_under.Goals as goal

pub returns : goal.returns
returns c =
    let coming = c.args.coming.now in
    words_are coming.bus c.in_ok-bus.bus coming.talk c.exchange-played.result coming.gap c.args.faults.now c.args.run c.count_of.result
    c.requires.start (search rules) c.exchange-played.ensures.talk (search rules)
