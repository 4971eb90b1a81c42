-- What comes on a line for a message without a planned fault (MIL-STD-1553B 4.3.3.6).
use Rattle.std.specs.Prelude.{◌≡◌, ℕ, ◌<◌, ◌≤◌, ◌^◌, ◌||◌, true, false, List, [], ◌∷◌, ◌++◌, length, map, Some, None}
use Rattle.std.specs.List.{list_any, AllByRecursion}
use Rattle.mil_word.specs.declared.Line.{Line}
use Rattle.mil_word.specs.Fields.{address_of, has_bit, has_instrumentation, highest_address}
use Rattle.mil_word.specs.Words.{command_wave, data_wave}
use Rattle.mil_word.specs.Timing.{least_response, latest_response}
use Rattle.mil_message.specs.declared.forms.Due.{Due}
use Rattle.mil_message.specs.declared.forms.Form.{Form}
use Rattle.mil_message.specs.Forms.{commands, first_command, second_command, data_words, replies_due, controller_waves}
use Rattle.mil_message.specs.Rules.{IsLawful}
use Rattle.mil_terminal.specs.Host.{is_busy, is_deaf, is_mute, is_off, response_gap}
use Rattle.mil_terminal.specs.Registers.{is_transmitter_on}
use Rattle.mil_terminal.specs.Station.{Station}
use Rattle.mil_terminal.specs.Verdicts.{is_unknown, is_illegal}
use Rattle.mil_bus.specs.declared.talks.Source.TheVariants.{Controller, Terminal}
use Rattle.mil_bus.specs.declared.talks.Sent.{Sent}
use Rattle.mil_bus.specs.Actions.{station_of}
use Rattle.mil_bus.specs.Addresses.{is_fit}
use Rattle.mil_bus.specs.Exchange.{BusState, contiguous_run, last_on, gap_since, talk_start, talk_of}
use Rattle.mil_bus.specs.Index.{IsClosed}

-- the stations of a bus are terminals: none has the address of all (4.3.3.5.1.2)
abbrev pub AreTerminals : List Station → Type 0
AreTerminals stations = AllByRecursion (λ s. s.own ≤ highest_address) stations

-- a message of one of the ten forms, all its numbers in their ranges, its data words of 16 bits
pub record IsMessage (form : Form) : Type 0 where
  pub lawful : IsLawful form
  pub words : AllByRecursion (λ word. word < 2 ^ 16) (data_words form)

-- the words of the controller, as run 0, behind what came on the line before
abbrev pub controllers_run : BusState → Line → Form → ℕ → List Sent
controllers_run b line form gap =
    contiguous_run 0 Controller (gap_since (last_on line b.talks) (talk_start b gap)) (controller_waves form)

-- a message to all terminals that no reply is due to
abbrev pub NobodyAnswersAll : Type 0
NobodyAnswersAll =
    (b : BusState) (line : Line) (form : Form) (gap : ℕ)
    → AreTerminals b.stations → IsMessage form → replies_due form ≡ []
    → (talk_of b line form gap []).sent.items ≡ controllers_run b line form gap

-- each command is legal: no mode code that terminals do not have, and none to all of them that the standard allows to
-- one alone (4.4.3.4)
abbrev pub IsLegal : Form → Type 0
IsLegal form = list_any is_unknown (commands form) ≡ false

-- a terminal that can reply to a command on a line: it is on and not busy, its host has not marked the command as
-- illegal, it hears the line and sends there, and its response time is 4 to 12 µs (4.3.3.5.3.8, 4.4.3.4, 4.3.3.8)
pub record CanReply (line : Line) (command : ℕ) (s : Station) : Type 0 where
  pub on : is_off s.history ≡ false
  pub free : is_busy s.history ≡ false
  pub legal : is_illegal command s.history ≡ false
  pub hears : is_deaf line s.history ≡ false
  pub speaks : is_mute line s.history ≡ false
  pub sends : is_transmitter_on s.own line s.history ≡ true
  pub no_sooner : least_response ≤ response_gap s.history
  pub no_later : response_gap s.history ≤ latest_response

-- terminals of a bus: each address is at most 30 and stands once, and none still waits for what an earlier message
-- announced
pub record AreReady (stations : List Station) : Type 0 where
  pub apart : is_fit (map (λ (s : Station). s.own) stations) ≡ true
  pub at_rest : AllByRecursion IsClosed stations

-- a reply as it is due: in time, a status word of the address that is due with no bit that is reserved or marks an
-- instruction, and as many data words as are due
pub record IsDueReply (due : Due) (gap status : ℕ) (values : List ℕ) : Type 0 where
  pub no_sooner : least_response ≤ gap
  pub no_later : gap ≤ latest_response
  pub small : status < 2 ^ 16
  pub address : address_of status ≡ due.address
  pub reserved : (has_instrumentation status || has_bit 7 status || has_bit 6 status || has_bit 5 status) ≡ false
  pub words : AllByRecursion (λ word. word < 2 ^ 16) values
  pub many : length values ≡ due.words

-- a status word and data words, as a run of this number
abbrev pub replys_run : ℕ → Due → ℕ → ℕ → List ℕ → List Sent
replys_run run due gap status values =
    contiguous_run run (Terminal due.address) gap (command_wave status ∷ map data_wave values)

-- the controller's words come on the line, then a reply as it is due, and nothing else
pub record IsAnswered (b : BusState) (line : Line) (form : Form) (gap : ℕ) (due : Due) : Type 0 where
  pub time : ℕ
  pub status : ℕ
  pub values : List ℕ
  pub as_due : IsDueReply due time status values
  pub sent : (talk_of b line form gap []).sent.items
      ≡ controllers_run b line form gap ++ replys_run 1 due time status values

-- a message with one command, to one terminal: where that terminal can reply, it does, and nobody else
abbrev pub OneReplies : Type 0
OneReplies =
    (b : BusState) (line : Line) (form : Form) (gap : ℕ) (due : Due) (s : Station)
    → AreReady b.stations → IsMessage form → IsLegal form
    → replies_due form ≡ due ∷ [] → second_command form ≡ None
    → station_of due.address b.stations ≡ Some s → CanReply line (first_command form) s
    → IsAnswered b line form gap due

-- the controller's words come on the line, then two replies as they are due, the second a status word alone, and
-- nothing else
pub record AreAnswered (b : BusState) (line : Line) (form : Form) (gap : ℕ) (first second : Due) : Type 0 where
  pub first_time : ℕ
  pub first_status : ℕ
  pub first_values : List ℕ
  pub first_due : IsDueReply first first_time first_status first_values
  pub second_time : ℕ
  pub second_status : ℕ
  pub second_due : IsDueReply second second_time second_status []
  pub sent : (talk_of b line form gap []).sent.items
      ≡ (controllers_run b line form gap ++ replys_run 1 first first_time first_status first_values)
      ++ replys_run 2 second second_time second_status []
