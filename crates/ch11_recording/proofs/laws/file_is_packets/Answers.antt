use Rattle.ch11_recording.specs.WrittenFile.{closed_packets}
use Rattle.ch11_recording.proofs.Whole.{file_is_packets, packets_have_bytes, all_whole, packets_go_on}
use Rattle.ch11_recording.proofs.laws.file_is_packets.Goals as goal

pub returns-clause-file : goal.returns-clause-file
returns-clause-file c = file_is_packets

pub returns-clause-bytes : goal.returns-clause-bytes
returns-clause-bytes c = packets_have_bytes c.packet_is_read_again.ensures.size

pub returns-clause-whole : goal.returns-clause-whole
returns-clause-whole c f items = all_whole (closed_packets f items)

pub returns-clause-goes_on : goal.returns-clause-goes_on
returns-clause-goes_on c = packets_go_on
