-- The text of an action: its words with single spaces between them, numbers without leading zeros, data words as four
-- upper-case hexadecimal digits (own choice).
use Rattle.std.specs.Prelude.{ℕ, Bool, true, false, ◌/◌, ◌%◌, List, [], ◌∷◌, ◌++◌, map, codes, decimal}
use Rattle.std.specs.List.{flat_map}
use Rattle.numerals.specs.Numerals.{byte_text}
use Rattle.mil_word.specs.Printing.{line_text}
use Rattle.mil_host.specs.Values.{Marked, ModeMarked, Ramped}
use Rattle.text_lines.specs.Words.{Text}
use Rattle.mil_host.specs.declared.reading.BadAction.{BadAction}
use Rattle.mil_host.specs.declared.reading.BadAction.TheVariants.{Word, Number, Range}
use Rattle.mil_host.specs.declared.actions.Action.{Action}
use Rattle.mil_host.specs.declared.actions.Action.TheVariants.{Transmit, Busy, Service, Subsystem, Fault, Control}
use Rattle.mil_host.specs.declared.actions.Action.TheVariants.{Vector, SelfTest, Illegal, Legal, Response, Deaf, Mute}
use Rattle.mil_host.specs.declared.actions.Action.TheVariants.{IllegalMode, LegalMode, Broadcast, Power, BitWord}
use Rattle.mil_host.specs.declared.actions.Action.TheVariants.{ServiceOnce, Gap, Ramp}

-- a data word
abbrev pub data_text : ℕ → Text
data_text value = byte_text (value / 256) ++ byte_text (value % 256)

abbrev pub switch_text : Bool → Text
switch_text true = codes "on"
switch_text false = codes "off"

abbrev pub direction_text : Bool → Text
direction_text true = codes "transmit"
direction_text false = codes "receive"

abbrev pub mark_words : Marked → List Text
mark_words m = direction_text m.transmit ∷ decimal m.sub ∷ decimal m.count ∷ []

abbrev pub mode_mark_words : ModeMarked → List Text
mode_mark_words m = codes "mode" ∷ direction_text m.transmit ∷ decimal m.code ∷ []

abbrev pub ramp_words : Ramped → List Text
ramp_words r = decimal r.sub ∷ decimal r.index ∷ data_text r.start ∷ data_text r.add ∷ []

-- the words of an action's text
abbrev pub action_words : Action → List Text
action_words (Transmit put) = codes "transmit" ∷ decimal put.sub ∷ map data_text put.words
action_words (Busy on) = codes "busy" ∷ switch_text on ∷ []
action_words (Service on) = codes "service" ∷ switch_text on ∷ []
action_words (Subsystem on) = codes "subsystem" ∷ switch_text on ∷ []
action_words (Fault on) = codes "fault" ∷ switch_text on ∷ []
action_words (Control on) = codes "control" ∷ switch_text on ∷ []
action_words (Vector value) = codes "vector" ∷ data_text value ∷ []
action_words (SelfTest value) = codes "selftest" ∷ data_text value ∷ []
action_words (Illegal mark) = codes "illegal" ∷ mark_words mark
action_words (Legal mark) = codes "legal" ∷ mark_words mark
action_words (Response ticks) = codes "response" ∷ decimal ticks ∷ []
action_words (Deaf line on) = codes "deaf" ∷ line_text line ∷ switch_text on ∷ []
action_words (Mute line on) = codes "mute" ∷ line_text line ∷ switch_text on ∷ []
action_words (IllegalMode mark) = codes "illegal" ∷ mode_mark_words mark
action_words (LegalMode mark) = codes "legal" ∷ mode_mark_words mark
action_words (Broadcast on) = codes "broadcast" ∷ switch_text on ∷ []
action_words (Power on) = codes "power" ∷ switch_text on ∷ []
action_words (BitWord value) = codes "bit" ∷ data_text value ∷ []
action_words ServiceOnce = codes "service" ∷ codes "once" ∷ []
action_words (Gap ticks) = codes "gap" ∷ decimal ticks ∷ []
action_words (Ramp r) = codes "ramp" ∷ ramp_words r

-- a space, and then a word
abbrev pub spaced_word : Text → Text
spaced_word word = 32 ∷ word

-- a space, and then a data word
abbrev pub spaced_data : ℕ → Text
spaced_data value = spaced_word (data_text value)

-- words with single spaces between them
abbrev pub spaced : List Text → Text
spaced [] = []
spaced (word ∷ rest) = word ++ flat_map spaced_word rest

-- the text of an action
unfoldable pub action_text : Action → Text
action_text action = spaced (action_words action)

-- the code of a fault
abbrev pub fault_code : BadAction → Text
fault_code Word = codes "H1"
fault_code Number = codes "H2"
fault_code Range = codes "H3"
