-- The text of a value change dump (IEEE 1364-2001 section 18) of a recording (own choice of its signals).
use Rattle.std.specs.Prelude.{◌≡◌, ℕ, zero, suc, ◌+◌, ◌/◌, ◌%◌, ◌==◌, nat_lt, Bool, true, false, if◌then◌else◌}
use Rattle.std.specs.Prelude.{List, [], ◌∷◌, ◌++◌, slice_index_or, Option, Some, None, codes, decimal}
use Rattle.std.specs.List.{list_any}
use Rattle.std.specs.Io.KnownBytes.{Appends}
use Rattle.ch11_reader.specs.Recording.{Found}
use Rattle.bench_select.specs.Channels.{AreMarks}
use Rattle.bench_select.specs.declared.selection.Selection.{Selection}
use Rattle.bench_export.specs.declared.changes.Change.{Change}
use Rattle.bench_export.specs.declared.lines.Shown.{Shown}
use Rattle.bench_export.specs.Changes.{AreInOrder, changes_in}
use Rattle.bench_export.specs.Showing.{shown_of, shown_behind, told_in}

-- a number as binary digits, at most so many, without leading zeros
unfoldable pub binary : ℕ → ℕ → List ℕ
binary zero value = []
binary (suc most) value = (if nat_lt value 2 then [] else binary most (value / 2)) ++ (48 + value % 2) ∷ []

-- the letter of a line
abbrev pub letter_text : Bool → List ℕ
letter_text on_b = if on_b then codes "B" else codes "A"

-- the code of a signal: its letter, its line and its channel
abbrev pub signal_code : List ℕ → Bool → ℕ → List ℕ
signal_code letter on_b channel = letter ++ (letter_text on_b ++ decimal channel)

-- the code of a signal at the end of a line of text
unfoldable pub code_line : List ℕ → Bool → ℕ → List ℕ
code_line letter on_b channel = signal_code letter on_b channel ++ codes "\n"

-- a value, z on an idle line
abbrev pub value_text : Option ℕ → List ℕ
value_text None = codes "z"
value_text (Some value) = binary 64 value

-- a signal takes a value
unfoldable pub signal_text : List ℕ → Option ℕ → Bool → ℕ → List ℕ
signal_text letter value on_b channel = codes "b"
    ++ (value_text value ++ (codes " " ++ code_line letter on_b channel))

-- a value of a signal, where it is told
abbrev pub told_text : List ℕ → Option (Option ℕ) → Bool → ℕ → List ℕ
told_text letter None on_b channel = []
told_text letter (Some value) on_b channel = signal_text letter value on_b channel

-- whether a message with an error is on a line, where that is told
abbrev pub error_text : Option Bool → Bool → ℕ → List ℕ
error_text None on_b channel = []
error_text (Some error) on_b channel =
    (if error then codes "1" else codes "0") ++ code_line (codes "e") on_b channel

-- what is told of the five signals of a line that showed something where it shows something else
unfoldable pub shown_text : Shown → Shown → Bool → ℕ → List ℕ
shown_text before now on_b channel =
    told_text (codes "w") (told_in before now).word on_b channel
    ++ (told_text (codes "k") (told_in before now).kind on_b channel
    ++ (told_text (codes "t") (told_in before now).terminal on_b channel
    ++ (told_text (codes "m") (told_in before now).message on_b channel
    ++ error_text (told_in before now).error on_b channel)))

-- a time, where it is not that of the change before
unfoldable pub time_text : ℕ → ℕ → List ℕ
time_text last tick = if last == tick then [] else codes "#" ++ (decimal tick ++ codes "\n")

-- a change behind a time that was told, of a line that showed something
abbrev pub change_text : ℕ → Shown → Change → List ℕ
change_text last before c = time_text last c.tick ++ shown_text before (shown_of c) c.on_b c.channel

-- changes behind a time that was told and behind earlier changes
abbrev pub changes_text : ℕ → List Change → List Change → List ℕ
changes_text last earlier [] = []
changes_text last earlier (c ∷ cs) =
    change_text last (shown_behind c.on_b c.channel earlier) c ++ changes_text c.tick (earlier ++ c ∷ []) cs

abbrev pub has_channel : ℕ → List Change → Bool
has_channel channel changes = list_any (λ (c : Change). c.channel == channel) changes

-- a mark for each channel, whether it has a change
abbrev pub marked : List Bool → ℕ → Bool
marked marks channel = slice_index_or marks channel false

abbrev pub ArePresent : List Bool → List Change → Type 0
ArePresent marks changes = AreMarks (λ channel. has_channel channel changes) marks

-- the name of a signal, as ch1_A_word
unfoldable pub signal_name : List ℕ → Bool → ℕ → List ℕ
signal_name name on_b channel =
    codes "ch" ++ (decimal channel ++ (codes "_" ++ (letter_text on_b ++ (codes "_" ++ name))))

-- a signal is declared: its type, how many bits it has, and its name
unfoldable pub declared_text : List ℕ → List ℕ → List ℕ → Bool → ℕ → List ℕ
declared_text size letter name on_b channel = codes "$var "
    ++ (size ++ (codes " " ++ (signal_code letter on_b channel
    ++ (codes " " ++ (signal_name name on_b channel ++ codes " $end\n")))))

unfoldable pub opening_text : Bool → List ℕ
opening_text on_b = codes "$scope module " ++ (letter_text on_b ++ codes " $end\n")

-- the signals of a line are declared
unfoldable pub line_scope_text : Bool → ℕ → List ℕ
line_scope_text on_b channel =
    opening_text on_b
    ++ (declared_text (codes "reg 16") (codes "w") (codes "word") on_b channel
    ++ (declared_text (codes "reg 2") (codes "k") (codes "kind") on_b channel
    ++ (declared_text (codes "reg 5") (codes "t") (codes "terminal") on_b channel
    ++ (declared_text (codes "integer 64") (codes "m") (codes "message") on_b channel
    ++ (declared_text (codes "reg 1") (codes "e") (codes "error") on_b channel ++ codes "$upscope $end\n")))))

unfoldable pub channel_text : ℕ → List ℕ
channel_text channel = codes "$scope module channel_" ++ (decimal channel ++ codes " $end\n")

-- a channel's signals are declared
unfoldable pub scope_text : ℕ → List ℕ
scope_text channel = channel_text channel
    ++ (line_scope_text false channel ++ (line_scope_text true channel ++ codes "$upscope $end\n"))

-- a signal of an idle line
abbrev pub idle_signal : List ℕ → List ℕ → Bool → ℕ → List ℕ
idle_signal value letter on_b channel = value ++ code_line letter on_b channel

-- a line is idle, and without an error
unfoldable pub idle_line : Bool → ℕ → List ℕ
idle_line on_b channel =
    idle_signal (codes "bz ") (codes "w") on_b channel
    ++ (idle_signal (codes "bz ") (codes "k") on_b channel
    ++ (idle_signal (codes "bz ") (codes "t") on_b channel
    ++ (idle_signal (codes "bz ") (codes "m") on_b channel ++ idle_signal (codes "0") (codes "e") on_b channel)))

-- a channel's lines are idle, and without an error
abbrev pub idle_text : ℕ → List ℕ
idle_text channel = idle_line false channel ++ idle_line true channel

-- the texts of those channels below one for which a test holds
unfoldable pub channels_text : (ℕ → List ℕ) → (ℕ → Bool) → ℕ → List ℕ
channels_text text has zero = []
channels_text text has (suc channel) = channels_text text has channel ++ (if has channel then text channel else [])

-- the texts of the channels that have changes
abbrev pub present_text : (ℕ → List ℕ) → List Change → List ℕ
present_text text changes = channels_text text (λ channel. has_channel channel changes) 65536

abbrev pub first_tick : List Change → ℕ
first_tick [] = 0
first_tick (c ∷ cs) = c.tick

unfoldable pub notes : List ℕ
notes =
    codes "$comment kind: 1 command word, 2 data word, 3 status word; z: the line is idle; "
    ++ (codes "error: 1 from the start to the end of a message with an error $end\n"
    ++ codes "$timescale 100 ns $end\n")

-- the end of the declarations, and the first tick
unfoldable pub start_text : ℕ → List ℕ
start_text tick = codes "$enddefinitions $end\n#" ++ (decimal tick ++ codes "\n$dumpvars\n")

-- what stands in front of the changes: the signals, and at the first tick all lines are idle
unfoldable pub head_text : List Change → List ℕ
head_text changes =
    notes
    ++ (present_text scope_text changes
    ++ (start_text (first_tick changes) ++ (present_text idle_text changes ++ codes "$end\n")))

-- the dump of changes that are in order
abbrev pub waves_text : List Change → List ℕ
waves_text changes = head_text changes ++ changes_text (first_tick changes) [] changes

-- the dump of a recording's selected messages
pub record IsDump (selection : Selection) (ps : List Found) (text : List ℕ) : Type 0 where
  pub changes : List Change
  pub order : AreInOrder (changes_in selection ps) changes
  pub is : text ≡ waves_text changes

-- a writer got the dump of a recording's selected messages
abbrev pub GetsDump : Option (List ℕ) → Option (List ℕ) → Selection → List Found → Type 0
GetsDump got gets selection ps = (text : List ℕ) × IsDump selection ps text × Appends got gets text
