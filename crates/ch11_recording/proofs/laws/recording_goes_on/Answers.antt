use Rattle.ch11_recording.proofs.Growth.{file_more}
use Rattle.ch11_recording.proofs.laws.recording_goes_on.Goals as goal

pub returns : goal.returns
returns c = file_more
