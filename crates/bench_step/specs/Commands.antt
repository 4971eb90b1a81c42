-- What a line of a session asks (own choice). Spaces alone part its words, so that a CR is part of one.
use Rattle.std.specs.Prelude.{ℕ, nat_le, if◌then◌else◌, List, [], ◌∷◌, Option, Some, None, Result, Ok, Err}
use Rattle.std.specs.Prelude.{codes}
use Rattle.std.specs.Str.{bytes_eq}
use Rattle.mil_word.specs.Fields.{highest_address, highest_subaddress}
use Rattle.text_lines.specs.Words.{behind_word}
use Rattle.text_lines.specs.Words.{first_word}
use Rattle.numerals.specs.Numerals.{spelled}
use Rattle.text_lines.specs.Words.{Text, words}
use Rattle.frame_tree.specs.Tree.{Condition, condition_in}
use Rattle.frame_text.specs.Conditions.{condition_of_text}
use Rattle.frame_text.specs.declared.faults.Cause.{Cause}
use Rattle.judge_rules.specs.Faults.{Read}
use Rattle.judge_rules.specs.Selectors.{selector_of}
use Rattle.judge_rules.specs.declared.rules.Selector.{Selector}
use Rattle.bench_select.specs.Bounds.{bound_of}
use Rattle.bench_select.specs.declared.bounds.Bound.{Bound}
use Rattle.bench_select.specs.declared.bounds.Bound.TheVariants.{Number, Time}
use Rattle.bench_state.specs.declared.details.Detail.{Detail}
use Rattle.bench_state.specs.declared.details.Detail.TheVariants.{Registers, Host, Data}
use Rattle.bench_places.specs.declared.sought.Sought.{Sought}
use Rattle.bench_places.specs.declared.sought.Sought.TheVariants.{Channel}
use Rattle.bench_step.specs.declared.manners.Manner.{Manner}
use Rattle.bench_step.specs.declared.manners.Manner.TheVariants.{Given, Typed}
use Rattle.bench_step.specs.declared.commands.Command.{Command}
use Rattle.bench_step.specs.declared.commands.Command.TheVariants as command
use Rattle.bench_step.specs.declared.commands.Way.{Way}
use Rattle.bench_step.specs.declared.commands.Way.TheVariants.{On, Back}

pub data Asked : Type 0 where
  -- so many messages of the recording on, and so many back
  forward : ℕ → Asked
  back : ℕ → Asked
  -- to a place: so many messages of the recording are past
  go : ℕ → Asked
  -- to the place before the first message with a later stamp than so many ticks of 0.1 µs
  go_time : ℕ → Asked
  -- to the message of a number, counted from 1, among all that meet what is asked of them
  seek : Sought → ℕ → Asked
  -- on to the next message whose outcome makes the condition true, and back to the latest one before the place
  find : Condition → Asked
  find_back : Condition → Asked
  -- on to the next message that a selector is about, and back to the latest one before the place
  select : Selector → Asked
  select_back : Selector → Asked
  -- what the terminals hold, in this detail
  state : Detail → Asked
  -- the message at the place, and the message of a number, as people read it
  show : Asked
  show_at : ℕ → Asked
  -- the commands
  help : Asked
  -- the end of the session
  quit : Asked
  -- `find`, and behind it neither a condition nor a selector
  no_condition : Asked
  -- nothing that a line may ask
  unknown : Asked

-- a command that no word follows
abbrev pub alone : Asked → List Text → Asked
alone command [] = command
alone command (w ∷ ws) = unknown

-- a number of one to ten decimal digits
abbrev pub number_in : Text → Option ℕ
number_in word = spelled 10 1 10 word

-- a number up to another
abbrev pub at_most : ℕ → Option ℕ → Option ℕ
at_most most None = None
at_most most (Some n) = if nat_le n most then Some n else None

abbrev pub number_up_to : ℕ → Text → Option ℕ
number_up_to most word = at_most most (number_in word)

-- the number that the only word is
abbrev pub only_number : List Text → Option ℕ
only_number [] = None
only_number (word ∷ []) = number_in word
only_number (word ∷ more ∷ rest) = None

-- the only two words
abbrev pub two_words : List Text → Option (Text × Text)
two_words [] = None
two_words (word ∷ []) = None
two_words (word ∷ other ∷ []) = Some (word, other)
two_words (word ∷ other ∷ more ∷ rest) = None

-- what a number asks, where there is one
abbrev pub with_number : (ℕ → Asked) → Option ℕ → Asked
with_number asks None = unknown
with_number asks (Some n) = asks n

-- how many messages: one, or, where lines are typed, the only number behind the word
abbrev pub steps : Manner → List Text → Option ℕ
steps manner [] = Some 1
steps Given (word ∷ rest) = None
steps Typed (word ∷ rest) = only_number (word ∷ rest)

-- the message of a number of a channel
abbrev pub nth_of : Option ℕ → Option ℕ → Asked
nth_of None n = unknown
nth_of (Some channel) None = unknown
nth_of (Some channel) (Some n) = seek (Channel channel) n

abbrev pub of_channel : Option (Text × Text) → Asked
of_channel None = unknown
of_channel (Some x) = nth_of (number_up_to 65535 x.0) (number_in x.1)

-- the time that the only word is, in ticks of 0.1 µs
abbrev pub time_of : Option Bound → Option ℕ
time_of None = None
time_of (Some (Number n)) = None
time_of (Some (Time ticks)) = Some ticks

abbrev pub only_time : List Text → Option ℕ
only_time [] = None
only_time (word ∷ []) = time_of (bound_of word)
only_time (word ∷ more ∷ rest) = None

-- a place, or else a time
abbrev pub going_to : Option ℕ → Option ℕ → Asked
going_to None time = with_number go_time time
going_to (Some place) time = go place

-- behind `go`: a place, a time, or a channel and the number of one of its messages
abbrev pub going : List Text → Asked
going [] = unknown
going (word ∷ rest) =
    if bytes_eq word (codes "channel") then of_channel (two_words rest)
    else going_to (only_number (word ∷ rest)) (only_time (word ∷ rest))

-- a selector in the words of a rule
abbrev pub selecting : (Selector → Asked) → Read Selector → Asked
selecting asks (Ok selector) = asks selector
selecting asks (Err fault) = no_condition

-- a condition, or else a selector
abbrev pub finding : (Condition → Asked) → (Selector → Asked) → Result Condition Cause → Read Selector → Asked
finding asks selects (Ok test) selector = asks test
finding asks selects (Err cause) selector = selecting selects selector

-- what a condition and a selector ask of the messages behind the place, or of those before it
abbrev pub condition_asked : Way → Condition → Asked
condition_asked On test = find test
condition_asked Back test = find_back test

abbrev pub selects : Way → Selector → Asked
selects On selector = select selector
selects Back selector = select_back selector

-- all that stands behind `find`, and behind `find back`
abbrev pub finding_to : Way → Text → Asked
finding_to way text = finding (condition_asked way) (selects way) (condition_of_text text) (selector_of text)

abbrev pub finding_in : Text → Asked
finding_in rest =
    if bytes_eq (first_word rest) (codes "back") then finding_to Back (behind_word rest) else finding_to On rest

-- what `state` shows: where lines are typed, what hosts set too
abbrev pub plain : Manner → Detail
plain Given = Registers
plain Typed = Host

-- nothing, or `--all`, behind `state`
abbrev pub showing : Manner → List Text → Asked
showing manner [] = state (plain manner)
showing manner (word ∷ rest) = if bytes_eq word (codes "--all") then alone (state Host) rest else unknown

-- a terminal and one of its subaddresses for data (MIL-STD-1553B 4.3.3.5.1.2, 4.3.3.5.1.4)
abbrev pub data_asked : Option ℕ → Option ℕ → Asked
data_asked None subaddress = unknown
data_asked (Some address) None = unknown
data_asked (Some address) (Some subaddress) = if nat_le 1 subaddress then state (Data address subaddress) else unknown

abbrev pub holding : Option (Text × Text) → Asked
holding None = unknown
holding (Some x) = data_asked (number_up_to highest_address x.0) (number_up_to highest_subaddress x.1)

-- behind `show`: nothing, or the number of a message
abbrev pub telling : List Text → Asked
telling [] = show
telling (word ∷ rest) = with_number show_at (only_number (word ∷ rest))

-- a line by its first word
abbrev pub asked_by : Manner → Text → Text → Asked
asked_by manner word rest =
    if bytes_eq word (codes "forward") then with_number forward (steps manner (words rest))
    else if bytes_eq word (codes "back") then with_number back (steps manner (words rest))
    else if bytes_eq word (codes "go") then going (words rest)
    else if bytes_eq word (codes "find") then finding_in rest
    else if bytes_eq word (codes "state") then showing manner (words rest)
    else if bytes_eq word (codes "data") then holding (two_words (words rest))
    else if bytes_eq word (codes "show") then telling (words rest)
    else if bytes_eq word (codes "help") then alone help (words rest)
    else if bytes_eq word (codes "quit") then alone quit (words rest)
    else unknown

unfoldable pub asked : Manner → Text → Asked
asked manner line = asked_by manner (first_word line) (behind_word line)

-- memory is taken for what stands behind `find` alone, also where that is a selector, or neither
abbrev pub TakesMemory : Asked → Type 0
TakesMemory (find test) = Unit {0}
TakesMemory (find_back test) = Unit {0}
TakesMemory (select selector) = Unit {0}
TakesMemory (select_back selector) = Unit {0}
TakesMemory no_condition = Unit {0}
TakesMemory _ = ⊥

-- what a command asks, whatever memory its condition lies in
abbrev pub asked_of : Command → Asked
asked_of (command.Forward n) = forward n
asked_of (command.Back n) = back n
asked_of (command.Go place) = go place
asked_of (command.GoTime ticks) = go_time ticks
asked_of (command.Seek sought n) = seek sought n
asked_of (command.Find condition) = find (condition_in condition)
asked_of (command.FindBack condition) = find_back (condition_in condition)
asked_of (command.Select selector) = select selector
asked_of (command.SelectBack selector) = select_back selector
asked_of (command.State detail) = state detail
asked_of command.Show = show
asked_of (command.ShowAt n) = show_at n
asked_of command.Help = help
asked_of command.Quit = quit
asked_of command.NoCondition = no_condition
asked_of command.Unknown = unknown
