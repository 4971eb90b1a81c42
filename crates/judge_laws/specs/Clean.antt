-- A message that the bench records without a planned fault is clean (MIL-STD-1553B 4.3.3.6).
use Rattle.std.specs.Prelude.{◌≡◌, ℕ, true, [], ◌∷◌, Some, None}
use Rattle.mil_word.specs.declared.Line.{Line}
use Rattle.mil_message.specs.declared.forms.Due.{Due}
use Rattle.mil_message.specs.declared.forms.Form.{Form}
use Rattle.mil_message.specs.Forms.{first_command, second_command, replies_due}
use Rattle.mil_terminal.specs.Station.{Station}
use Rattle.mil_bus.specs.Actions.{station_of}
use Rattle.mil_bus.specs.Exchange.{BusState, talk_of}
use Rattle.mil_monitor.specs.Observed.{observed}
use Rattle.ch11_f1.specs.Again.{as_message}
use Rattle.ch11_layout.specs.Stamps.{Recorded, counted}
use Rattle.judge_laws.specs.Messages.{AreTerminals, AreReady, IsMessage, IsLegal, CanReply}
use Rattle.bench_judge.specs.Clean.{clean}

-- what is recorded of a message on a line of a bus, where a gap is asked for and no fault is planned
abbrev pub recorded : BusState → Line → Form → ℕ → Recorded
recorded b line form gap = counted (as_message (observed (talk_of b line form gap [])))

-- a message to all terminals that no reply is due to, over any terminals, whatever they have met
abbrev pub CleanToAll : Type 0
CleanToAll =
    (b : BusState) (line : Line) (form : Form) (gap : ℕ)
    → AreTerminals b.stations → IsMessage form → IsLegal form
    → replies_due form ≡ []
    → clean (recorded b line form gap) ≡ true

-- a message with one command, to one terminal that can reply
abbrev pub CleanToOne : Type 0
CleanToOne =
    (b : BusState) (line : Line) (form : Form) (gap : ℕ) (due : Due) (s : Station)
    → AreReady b.stations → IsMessage form → IsLegal form
    → replies_due form ≡ due ∷ [] → second_command form ≡ None
    → station_of due.address b.stations ≡ Some s → CanReply line (first_command form) s
    → clean (recorded b line form gap) ≡ true

-- a transfer from one terminal to another, which both can reply: the sender to the second command, the receiver to the
-- first
abbrev pub CleanBetween : Type 0
CleanBetween =
    (b : BusState) (line : Line) (form : Form) (gap : ℕ) (first second : Due) (command : ℕ) (s r : Station)
    → AreReady b.stations → IsMessage form → IsLegal form
    → replies_due form ≡ first ∷ second ∷ [] → second_command form ≡ Some command
    → station_of first.address b.stations ≡ Some s → station_of second.address b.stations ≡ Some r
    → CanReply line command s → CanReply line (first_command form) r
    → clean (recorded b line form gap) ≡ true

-- a transfer from one terminal, which can reply, to all others
abbrev pub CleanBetweenAll : Type 0
CleanBetweenAll =
    (b : BusState) (line : Line) (form : Form) (gap : ℕ) (due : Due) (command : ℕ) (s : Station)
    → AreReady b.stations → IsMessage form → IsLegal form
    → replies_due form ≡ due ∷ [] → second_command form ≡ Some command
    → station_of due.address b.stations ≡ Some s → CanReply line command s
    → clean (recorded b line form gap) ≡ true
