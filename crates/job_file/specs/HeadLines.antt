-- What the lines above the script say together, and which lines may stand behind others (own choice).
use Rattle.std.specs.Prelude.{ℕ, ◌+◌, ◌==◌, nat_le, nat_lt, Bool, true, false, not, ◌&&◌, List, [], ◌∷◌, ◌++◌, length}
use Rattle.std.specs.Prelude.{map, Option, Some, None, Result, Ok, Err}
use Rattle.std.specs.List.{list_any, list_all, filter_map, flat_map, sum_by}
use Rattle.std.specs.Option.{option_to_list}
use Rattle.std.specs.Result.{is_ok}
use Rattle.mil_host.specs.Reading.{in_words}
use Rattle.mil_host.specs.declared.actions.Action.{Action}
use Rattle.mil_host.specs.declared.reading.BadAction.{BadAction}
use Rattle.mil_line.specs.declared.faults.Fault.{Fault}
use Rattle.mil_line.specs.Plans.{Planned, faults_of}
use Rattle.mil_line.specs.Ranges.{is_number, is_in_range}
use Rattle.job_file.specs.Lines.{Said, blank, script, channel, start, terminal, action, control, fault, faults}
use Rattle.job_file.specs.Lines.{series, timed_action, timed_control, timed_fault}
use Rattle.job_file.specs.Whens.{turns_of}
use Rattle.job_file.specs.TimedLines.{Timed}
use Rattle.job_file.specs.declared.timed.TimedAction.{TimedAction}
use Rattle.job_moments.specs.Planning.{PlannedFault}
use Rattle.job_moments.specs.declared.moments.Moment.{Moment}
use Rattle.job_moments.specs.declared.occasions.Turns.{Turns}
use Rattle.job_moments.specs.declared.occasions.Occasion.TheVariants.{Numbers}
use Rattle.job_file.specs.Spans.{span_count, numbers_of, placed_by}
use Rattle.bc_machine.specs.declared.placed.Placed.{Placed}
use Rattle.bc_machine.specs.declared.placed.HostAction.TheVariants.{Terminal, Controller}
use Rattle.controller_host.specs.declared.controls.Control.{Control}
use Rattle.controller_text.specs.Reading.{control_in}

-- the channels that are named, the start ticks, the addresses of the terminals, the hosts' actions and the planned
-- faults that are placed by number, each in the order of the lines; how many of the actions are those of series; and
-- what is said by time and by command
pub record Head : Type 0 where
  pub channels : List ℕ
  pub starts : List ℕ
  pub addresses : List ℕ
  pub actions : List Placed
  pub plan : List Planned
  pub from_series : ℕ
  pub timed : Timed

abbrev pub channel_of : Said → Option ℕ
channel_of (channel n) = Some n
channel_of _ = None

abbrev pub start_of : Said → Option ℕ
start_of (start n) = Some n
start_of _ = None

abbrev pub address_of : Said → Option ℕ
address_of (terminal n) = Some n
address_of _ = None

abbrev pub placing : ℕ → ℕ → Result Action BadAction → Option Placed
placing number address (Ok a) = Some (record { number = number; action = Terminal address a })
placing number address (Err bad) = None

-- what the host of the controller asks for at the message of a number
abbrev pub asking : ℕ → Result Control BadAction → Option Placed
asking number (Ok asked) = Some (record { number = number; action = Controller asked })
asking number (Err bad) = None

abbrev pub placed_of : Said → List Placed
placed_of (action number address text) = option_to_list (placing number address (in_words text))
placed_of (control number text) = option_to_list (asking number (control_in text))
placed_of (series s) = placed_by s
placed_of _ = []

abbrev pub planned_of : Said → List Planned
planned_of (fault number f) = (number, f) ∷ []
planned_of (faults span f) = map (λ number. (number, f)) (numbers_of span)
planned_of _ = []

-- the action of a terminal's host, or of the controller's, at a moment
abbrev pub placing_then : Moment → ℕ → Result Action BadAction → Option TimedAction
placing_then moment address (Ok a) = Some (record { moment = moment; action = Terminal address a })
placing_then moment address (Err bad) = None

abbrev pub asking_then : Moment → Result Control BadAction → Option TimedAction
asking_then moment (Ok asked) = Some (record { moment = moment; action = Controller asked })
asking_then moment (Err bad) = None

abbrev pub whens_of : Said → List TimedAction
whens_of (timed_action moment address text) = option_to_list (placing_then moment address (in_words text))
whens_of (timed_control moment text) = option_to_list (asking_then moment (control_in text))
whens_of _ = []

-- one message alone
abbrev pub turn_at : ℕ → Turns
turn_at number = record { first = number; last = number; step = 1 }

-- the fault of a line, and when it is due: by number too
abbrev pub occasions_of : Said → List PlannedFault
occasions_of (fault number f) = record { occasion = Numbers (turn_at number); fault = f } ∷ []
occasions_of (faults span f) = record { occasion = Numbers (turns_of span); fault = f } ∷ []
occasions_of (timed_fault occasion f) = record { occasion = occasion; fault = f } ∷ []
occasions_of _ = []

abbrev pub is_fault_in_time : Said → Bool
is_fault_in_time (timed_fault occasion f) = true
is_fault_in_time _ = false

-- what lines say by time and by command
abbrev pub timed_of : List Said → Timed
timed_of lines = record {
  whens = flat_map whens_of lines;
  faults = flat_map occasions_of lines;
  is_timed = list_any is_fault_in_time lines;
}

abbrev pub in_series : Said → ℕ
in_series (series s) = span_count s.span
in_series _ = 0

abbrev pub head_of : List Said → Head
head_of lines = record {
  channels = filter_map channel_of lines;
  starts = filter_map start_of lines;
  addresses = filter_map address_of lines;
  actions = flat_map placed_of lines;
  plan = flat_map planned_of lines;
  from_series = sum_by in_series lines;
  timed = timed_of lines;
}

abbrev pub is_none_yet : List ℕ → Bool
is_none_yet [] = true
is_none_yet (n ∷ ns) = false

abbrev pub has : ℕ → List ℕ → Bool
has address addresses = list_any (λ a. a == address) addresses

-- a message has at most four faults, each in its range
abbrev pub may_plan : ℕ → Fault → List Planned → Bool
may_plan number f plan = nat_lt (length (faults_of number plan)) 4 && (is_number number && is_in_range f)

-- no more than 1,000,000 actions come from the series of a job
abbrev pub has_room : ℕ → Head → Bool
has_room count above = nat_le (above.from_series + count) 1000000

-- A line may stand behind others that say this: the channel and the start tick are named once, each terminal once, an
-- action is lawful and its terminal stands above it, a fault may be planned at each of its messages, and a series has
-- room.
abbrev pub may_stand : Said → Head → Bool
may_stand blank above = true
may_stand script above = false
may_stand (channel n) above = is_none_yet above.channels
may_stand (start n) above = is_none_yet above.starts
may_stand (terminal n) above = not (has n above.addresses)
may_stand (action number address text) above = has address above.addresses && is_ok (in_words text)
may_stand (control number text) above = is_ok (control_in text)
may_stand (fault number f) above = may_plan number f above.plan
may_stand (faults span f) above = list_all (λ number. may_plan number f above.plan) (numbers_of span)
may_stand (series s) above = has_room (span_count s.span) above && has s.address above.addresses
may_stand (timed_action moment address text) above = has address above.addresses && is_ok (in_words text)
may_stand (timed_control moment text) above = is_ok (control_in text)
may_stand (timed_fault occasion f) above = is_in_range f

-- each line may stand behind those before it
abbrev pub are_lawful : List Said → List Said → Bool
are_lawful above [] = true
are_lawful above (line ∷ lines) = may_stand line (head_of above) && are_lawful (above ++ line ∷ []) lines
