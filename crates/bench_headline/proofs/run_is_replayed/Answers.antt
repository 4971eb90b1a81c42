use Rattle.bench_headline.proofs.Agreeing.{agrees}
use Rattle.bench_headline.proofs.run_is_replayed.Goals as goal

pub returns : goal.returns
returns c jobs s report bytes found lawful run readable =
    let p = c.packet_is_read_again.ensures in
    agrees p.size p.header p.messages c.recordings_join.ensures.join c.recording_goes_on.ensures c.placed_actions_suffice.ensures 0 jobs jobs s report bytes found lawful run readable
