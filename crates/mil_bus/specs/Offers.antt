-- What a sender gives, as plain data.
use Rattle.std.specs.Prelude.{Bool, true, false, Option, Some, None}
use Rattle.mil_message.specs.declared.values.Values.{Values}
use Rattle.mil_bus.specs.declared.offers.Offered.{Offered}
use Rattle.mil_bus.specs.declared.talk_runs.Run.{Run}
use Rattle.mil_bus.specs.Exchange.{Offer}
use Rattle.mil_bus.specs.Wholes.{value_waves}

-- what is offered with a run of these values
abbrev pub offer_in : Run → Values → Offer
offer_in run values =
    record { source = run.source; gap = run.gap; waves = value_waves values.commands values.words.items }

abbrev pub offered : Offered → Offer
offered o = record { source = o.source; gap = o.gap; waves = value_waves o.values.commands o.values.words.items }

-- what is given where something is
abbrev pub given : Bool → Offered → Option Offer
given true o = Some (offered o)
given false o = None
