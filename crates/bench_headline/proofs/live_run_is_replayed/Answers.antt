use Rattle.bench_headline.proofs.Living.{agrees_live, agrees_with_own}
use Rattle.bench_headline.proofs.live_run_is_replayed.Goals as goal

pub returns : goal.returns
returns c most jobs s before after report lives bytes found lawful live run readable =
    let p = c.packet_is_read_again.ensures in (
      agrees_live p.size p.header p.messages c.recordings_join.ensures.join c.recording_goes_on.ensures c.placed_actions_suffice.ensures most jobs s before after report lives bytes found lawful live run readable,
      agrees_with_own p.size p.header p.messages c.recordings_join.ensures.join c.recording_goes_on.ensures c.placed_actions_suffice.ensures most jobs s before after report lives bytes found lawful live run readable,
    )
