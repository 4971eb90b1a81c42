use Rattle.ch11_builder.proofs.Readings.{packet_has_its_length, header_is_read, messages_are_read}
use Rattle.ch11_builder.proofs.laws.packet_is_read_again.Goals as goal

pub returns-clause-size : goal.returns-clause-size
returns-clause-size c = packet_has_its_length

pub returns-clause-header : goal.returns-clause-header
returns-clause-header c = header_is_read c.written_is_read.ensures

pub returns-clause-messages : goal.returns-clause-messages
returns-clause-messages c = messages_are_read c.body_is_read_again.ensures
