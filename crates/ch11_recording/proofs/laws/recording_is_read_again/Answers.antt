use Rattle.ch11_recording.proofs.Kept.{records_are_kept, ended_is_closed}
use Rattle.ch11_recording.proofs.Reading.{recording_is_read}
use Rattle.ch11_recording.proofs.laws.recording_is_read_again.Goals as goal

pub returns-clause-read : goal.returns-clause-read
returns-clause-read c f prologue items good is all =
    let p = c.packet_is_read_again.ensures in
    let j = c.recordings_join.ensures in
    recording_is_read p.size p.header p.messages j.join j.silent f good prologue items is all

pub returns-clause-kept : goal.returns-clause-kept
returns-clause-kept c = records_are_kept

pub returns-clause-ended : goal.returns-clause-ended
returns-clause-ended c = ended_is_closed
