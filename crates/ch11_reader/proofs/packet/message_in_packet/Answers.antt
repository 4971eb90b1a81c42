use Rattle.std.proofs.lemmas.Iterator.Consumers.{YieldsList-from_first, nth_from_yields_List}
use Rattle.ch11_f1.specs.Views.{message_of}
use Rattle.ch11_reader.proofs.packet.message_in_packet.Goals as goal

pub returns : goal.returns
returns c =
    nth_from_yields_List c.nth.result _ c.args.k c.nth.ensures.ran (YieldsList-from_first message_of (λ s. s) _ c.messages_in_packet-messages.ensures)
