use Rattle.ch11_recording.proofs.Latest.{latest_is_last}
use Rattle.ch11_recording.proofs.laws.latest_is_last.Goals as goal

pub returns : goal.returns
returns c = latest_is_last c.run_gives_the_packets.ensures.latest
