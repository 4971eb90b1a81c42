-- The first fault of a job's text (own choice): its lines in their order, and in a line first its words, then its
-- numbers, then its place behind the lines above it; then the script.
use Rattle.std.specs.Prelude.{◌≡◌, ℕ, ◌+◌, ◌-◌, ◌^◌, nat_lt, min, Bool, true, false, ◌&&◌, if◌then◌else◌, List, [], ◌∷◌}
use Rattle.std.specs.Prelude.{◌++◌, length}
use Rattle.std.specs.Prelude.{map, Option, Some, None, Result, Ok, Err}
use Rattle.std.specs.Option.{is_some}
use Rattle.text_lines.specs.Words.{Text, words, has_bytes, is_comment}
use Rattle.mil_host.specs.Reading.{in_words}
use Rattle.controller_text.specs.Reading.{control_in}
use Rattle.mil_host.specs.declared.reading.BadAction.{BadAction}
use Rattle.mil_line.specs.Plans.{Planned, faults_of}
use Rattle.mil_line.specs.Ranges.{is_number, is_in_range}
use Rattle.mil_line.specs.declared.faults.Fault.{Fault as PlannedFault}
use Rattle.mil_line.specs.declared.error.LineError.TheVariants.{TooMany, OutOfRange}
use Rattle.frame_tree.specs.Tree.{Tree}
use Rattle.frame_text.specs.Frames.{whole_script, tree_of_text}
use Rattle.frame_text.specs.Places.{placed}
use Rattle.frame_text.specs.declared.faults.Cause.{Cause}
use Rattle.frame_text.specs.declared.faults.Place.{Place}
use Rattle.frame_code.specs.Table.{Code}
use Rattle.frame_asm.specs.Shapes.{code_of_tree}
use Rattle.job_file.specs.Lines.{Said, blank, script, channel, start, terminal, action, control, fault, faults}
use Rattle.job_file.specs.Lines.{series, timed_action, timed_control, timed_fault}
use Rattle.job_file.specs.Whens.{when_words, which_words}
use Rattle.job_file.specs.Lines.{keyword_of, fault_word_of, sync_of, first, ended, one, two, three, four, front}
use Rattle.job_file.specs.Lines.{said}
use Rattle.job_file.specs.Spans.{span_count, numbers_of}
use Rattle.job_file.specs.HeadLines.{Head, head_of, has, has_room, is_none_yet, are_lawful}
use Rattle.job_file.specs.Spelled.{joined_lines, is_script, all_said}
use Rattle.text_lines.specs.Lines.{lines_of}
use Rattle.job_file.specs.Reading.{IsTooLong, IsTooMuch, AreTooMany, HasProgram}
use Rattle.job_file.specs.declared.keywords.Keyword.{Keyword}
use Rattle.job_file.specs.declared.keywords.Keyword.TheVariants as keyword
use Rattle.job_file.specs.declared.keywords.FaultWord.{FaultWord}
use Rattle.job_file.specs.declared.keywords.FaultWord.TheVariants as word
use Rattle.job_file.specs.declared.error.LineFault.{LineFault}
use Rattle.job_file.specs.declared.error.LineFault.TheVariants.{Word, Number, Order, Terminal, Action as BadActionOf}
use Rattle.job_file.specs.declared.error.LineFault.TheVariants.{Fault as BadFaultOf}
use Rattle.job_file.specs.declared.error.Refusal.{Refusal}
use Rattle.job_file.specs.declared.error.Refusal.TheVariants as refusal
use Rattle.job_file.specs.declared.error.JobError.{JobError}
use Rattle.job_file.specs.declared.error.JobError.TheVariants as error

-- something is there, and this holds of it
abbrev pub there : {X : Type 0} → Option X → (X → Bool) → Bool
there None holds = false
there (Some x) holds = holds x

-- the words behind a kind of fault: as many as it has, and for an added word the letter of a sync
abbrev pub are_fault_words : FaultWord → List Text → Bool
are_fault_words word.Mask ws = is_some (three ws)
are_fault_words word.Drop ws = is_some (two ws)
are_fault_words word.Add ws = there (four ws) (λ w. is_some (sync_of w.2))
are_fault_words word.Late ws = is_some (two ws)
are_fault_words word.Mute ws = is_some (one ws)
are_fault_words word.Early ws = is_some (two ws)
are_fault_words word.Pause ws = is_some (three ws)
are_fault_words word.Babble ws = is_some (three ws)

-- the words behind the first of a line, whatever numbers they spell: those of a selector, `nth`, `from` and `to` too;
-- an action is judged behind all numbers
abbrev pub are_words_behind : Keyword → List Text → Bool
are_words_behind keyword.Channel ws = is_some (one ws)
are_words_behind keyword.Start ws = is_some (one ws)
are_words_behind keyword.Terminal ws = is_some (one ws)
are_words_behind keyword.At ws = there (when_words ws) (λ n. there (first n.1) (λ a. is_some (first a.1)))
are_words_behind keyword.Fault ws = there (when_words ws)
    (λ n. there (first n.1) (λ k. there (fault_word_of k.0) (λ kind. are_fault_words kind k.1)))
are_words_behind keyword.Faults ws = there (which_words ws)
    (λ n. there (first n.1) (λ k. there (fault_word_of k.0) (λ kind. are_fault_words kind k.1)))
are_words_behind keyword.Series ws = there (front ws) (λ n. is_some (four n.1))
are_words_behind keyword.Script ws = is_some (ended ws script)

-- a line's words are those of one of the kinds of line
abbrev pub are_line_words : List Text → Bool
are_line_words [] = true
are_line_words (w ∷ ws) = if is_comment w then true else there (keyword_of w) (λ k. are_words_behind k ws)

abbrev pub bad_action : {X : Type 0} → Result X BadAction → Option LineFault
bad_action (Ok a) = None
bad_action (Err bad) = Some (BadActionOf bad)

-- what is wrong with an action of a terminal's host behind the lines above
abbrev pub action_fault : ℕ → List Text → Head → Option LineFault
action_fault address text above = if has address above.addresses then bad_action (in_words text) else Some Terminal

-- what is wrong with a fault of a message behind these: a fifth one, or one out of its ranges
abbrev pub plan_fault : List Planned → PlannedFault → ℕ → Option LineFault
plan_fault plan f number =
    if nat_lt (length (faults_of number plan)) 4
    then (if is_number number && is_in_range f then None else Some (BadFaultOf OutOfRange))
    else Some (BadFaultOf TooMany)

-- the first that is something
abbrev pub first_fault : List (Option LineFault) → Option LineFault
first_fault [] = None
first_fault (None ∷ rest) = first_fault rest
first_fault (Some why ∷ rest) = Some why

-- What is wrong with the place of a line behind those above: J2 more actions of series than a job may have; J3, J4; or,
-- where its place is well, J5 the action, J6 the fault. The messages of one line differ, so that none is refused for
-- another of them.
abbrev pub place_fault : Said → Head → Option LineFault
place_fault blank above = None
place_fault script above = if is_none_yet above.channels then Some Order else None
place_fault (channel n) above = if is_none_yet above.channels then None else Some Order
place_fault (start n) above = if is_none_yet above.starts then None else Some Order
place_fault (terminal n) above = if has n above.addresses then Some Terminal else None
place_fault (action number address text) above = action_fault address text above
place_fault (control number text) above = bad_action (control_in text)
place_fault (fault number f) above = plan_fault above.plan f number
place_fault (faults span f) above = first_fault (map (plan_fault above.plan f) (numbers_of span))
place_fault (timed_action moment address text) above = action_fault address text above
place_fault (timed_control moment text) above = bad_action (control_in text)
place_fault (timed_fault occasion f) above = if is_in_range f then None else Some (BadFaultOf OutOfRange)
place_fault (series s) above =
    if has_room (span_count s.span) above
    then (if has s.address above.addresses then None else Some Terminal)
    else Some Number

abbrev pub number_or_place : Option Said → Head → Option LineFault
number_or_place None above = Some Number
number_or_place (Some line) above = place_fault line above

-- what is wrong with a line behind those above: J1 its words, J2 a number of it, or its place
abbrev pub line_fault : Text → Head → Option LineFault
line_fault line above = if are_line_words (words line) then number_or_place (said line) above else Some Word

-- what is wrong where these lines are left; a text that ends with LF has no line behind it, and no script (J3)
abbrev pub fault_at : Head → List Text → Option LineFault
fault_at above [] = Some Order
fault_at above (line ∷ []) = if has_bytes line then line_fault line above else Some Order
fault_at above (line ∷ next ∷ rest) = line_fault line above

-- the lines of a text up to one of them, each of which may stand where it stands, and those from there on
pub record Reached (text : Text) : Type 0 where
  pub before : List Text
  pub above : List Said
  pub rest : List Text
  pub all : lines_of text ≡ before ++ rest
  pub says : all_said before ≡ Some above
  pub lawful : are_lawful [] above ≡ true

-- lines that take memory when they are kept
abbrev pub takes_room : Option Said → Bool
takes_room None = false
takes_room (Some blank) = false
takes_room (Some script) = true
takes_room (Some (channel n)) = false
takes_room (Some (start n)) = false
takes_room (Some (terminal n)) = true
takes_room (Some (action number address text)) = true
takes_room (Some (control number text)) = true
takes_room (Some (fault number f)) = true
takes_room (Some (faults span f)) = true
takes_room (Some (series s)) = true
takes_room (Some (timed_action moment address text)) = true
takes_room (Some (timed_control moment text)) = true
takes_room (Some (timed_fault occasion f)) = true

abbrev pub takes_room_at : List Text → Bool
takes_room_at [] = false
takes_room_at (line ∷ rest) = takes_room (said line)

-- the line of the number, counted from 1, is the first at fault, and this is its fault
pub record IsLineFault (text : Text) (line : ℕ) (why : LineFault) : Type 0 where
  pub at : Reached text
  pub counted : length at.before + 1 ≡ line
  pub fault : fault_at (head_of at.above) at.rest ≡ Some why

-- a line that is well, as all before it are, and that takes memory
pub record IsRoomRefused (text : Text) : Type 0 where
  pub at : Reached text
  pub well : fault_at (head_of at.above) at.rest ≡ None
  pub room : takes_room_at at.rest ≡ true

-- what the lines above the script say together, the number of the line `script`, and the script behind it
pub record IsJobHead (text : Text) (head : Head) (line : ℕ) (below : Text) : Type 0 where
  pub at : Reached text
  pub says : head ≡ head_of at.above
  pub last : Text
  pub lines : List Text
  pub rest : at.rest ≡ last ∷ lines
  pub words : are_line_words (words last) ≡ true
  pub is : is_script (said last) ≡ true
  pub counted : length at.before + 1 ≡ line
  pub behind : joined_lines lines ≡ below

-- a script behind lines that are well and name the channel
pub record IsScriptReached (text : Text) (line : ℕ) (below : Text) : Type 0 where
  pub head : Head
  pub is : IsJobHead text head line below
  pub named : is_none_yet head.channels ≡ false

-- the place of a script's first fault, told by the lines of the whole text, of which this is the one in front of the
-- script; lines are counted as far as 64 bits count
pub record IsPlaceBelow (line : ℕ) (below : Text) (cause : Cause) (place : Place) : Type 0 where
  pub inside : Place
  pub stands : placed below (whole_script below) ≡ Err (cause, inside)
  pub lines : place.line ≡ min (line + inside.line) (2 ^ 64 - 1)
  pub column : place.column ≡ inside.column

pub record IsScriptFault (text : Text) (cause : Cause) (place : Place) : Type 0 where
  pub line : ℕ
  pub below : Text
  pub reached : IsScriptReached text line below
  pub fault : tree_of_text below ≡ Err cause
  pub stands : IsPlaceBelow line below cause place

-- the image of the script is refused for this
pub record IsImageFault (text : Text) (line : ℕ) (IsRefused : Code → Type 0) : Type 0 where
  pub below : Text
  pub reached : IsScriptReached text line below
  pub tree : Tree
  pub spells : tree_of_text below ≡ Ok tree
  pub fault : IsRefused (code_of_tree tree)

-- a tree of the script, whose image is refused for nothing, that sends too many messages with those that the lines
-- above have inserted
pub record HasInsertsFault (head : Head) (below : Text) : Type 0 where
  pub tree : Tree
  pub spells : tree_of_text below ≡ Ok tree
  pub well : HasProgram (code_of_tree tree)
  pub many : AreTooMany head.actions head.timed.whens (code_of_tree tree)

pub record IsInsertsFault (text : Text) (line : ℕ) : Type 0 where
  pub head : Head
  pub below : Text
  pub is : IsJobHead text head line below
  pub named : is_none_yet head.channels ≡ false
  pub fault : HasInsertsFault head below

-- The first fault of a text. Memory may be refused only where all lines so far are well: J8 hides no fault of a line
-- above the one at which memory was wanted, and none of that line.
abbrev pub IsFirstFault : Text → JobError → Type 0
IsFirstFault text (error.Line line why) = IsLineFault text line why
IsFirstFault text (error.Script cause place) = IsScriptFault text cause place
IsFirstFault text (error.Assembly line why) = IsImageFault text line (λ code. IsTooLong code why)
IsFirstFault text (error.Loading line why) = IsImageFault text line (λ code. IsTooMuch code why)
IsFirstFault text (error.Inserts line) = IsInsertsFault text line
IsFirstFault text error.Memory = IsRoomRefused text

-- inside the crate: what a part of a line answers where its words are these, what a line answers, and what the script

abbrev pub fault_of_words : Bool → LineFault
fault_of_words well = if well then Number else Word

abbrev pub IsFaultOfWords : {X : Type 0} → Result X LineFault → Bool → Type 0
IsFaultOfWords (Ok x) well = well ≡ true
IsFaultOfWords (Err f) well = f ≡ fault_of_words well

abbrev pub IsEntryRefused : Said → Head → Refusal → Type 0
IsEntryRefused line above (refusal.Line why) = place_fault line above ≡ Some why
IsEntryRefused line above refusal.Memory = (place_fault line above ≡ None) × (takes_room (Some line) ≡ true)

abbrev pub IsLineRefused : Text → Head → Refusal → Type 0
IsLineRefused line above (refusal.Line why) = line_fault line above ≡ Some why
IsLineRefused line above refusal.Memory = (line_fault line above ≡ None) × (takes_room (said line) ≡ true)

-- a tree of the script whose image is refused for this
pub record HasImageFault (below : Text) (IsRefused : Code → Type 0) : Type 0 where
  pub tree : Tree
  pub spells : tree_of_text below ≡ Ok tree
  pub fault : IsRefused (code_of_tree tree)

abbrev pub IsScriptRefused : Head → ℕ → Text → JobError → Type 0
IsScriptRefused head line below (error.Line n why) = (is_none_yet head.channels ≡ true) × (n ≡ line) × (why ≡ Order)
IsScriptRefused head line below (error.Script cause place) = (is_none_yet head.channels ≡ false)
    × (tree_of_text below ≡ Err cause) × IsPlaceBelow line below cause place
IsScriptRefused head line below (error.Assembly n why) = (is_none_yet head.channels ≡ false) × (n ≡ line)
    × HasImageFault below (λ code. IsTooLong code why)
IsScriptRefused head line below (error.Loading n why) = (is_none_yet head.channels ≡ false) × (n ≡ line)
    × HasImageFault below (λ code. IsTooMuch code why)
IsScriptRefused head line below (error.Inserts n) = (is_none_yet head.channels ≡ false) × (n ≡ line)
    × HasInsertsFault head below
IsScriptRefused head line below error.Memory = is_none_yet head.channels ≡ false

-- the messages that the lines above a script have inserted and those that it sends at worst are too many
abbrev pub IsInsertsRefusal : ℕ → Head → Code → JobError → Type 0
IsInsertsRefusal line head code (error.Line n why) = ⊥
IsInsertsRefusal line head code (error.Script cause place) = ⊥
IsInsertsRefusal line head code (error.Assembly n why) = ⊥
IsInsertsRefusal line head code (error.Loading n why) = ⊥
IsInsertsRefusal line head code (error.Inserts n) = (n ≡ line) × AreTooMany head.actions head.timed.whens code
IsInsertsRefusal line head code error.Memory = Unit {0}

-- a fault of the script stands at its place in it, whose line in front is this
abbrev pub IsPlacedBelow : ℕ → Text → JobError → Type 0
IsPlacedBelow line below (error.Line n why) = ⊥
IsPlacedBelow line below (error.Script cause place) = IsPlaceBelow line below cause place
IsPlacedBelow line below (error.Assembly n why) = ⊥
IsPlacedBelow line below (error.Loading n why) = ⊥
IsPlacedBelow line below (error.Inserts n) = ⊥
IsPlacedBelow line below error.Memory = Unit {0}

-- a fault of the image stands at this line
abbrev pub IsLineOf : ℕ → JobError → Type 0
IsLineOf line (error.Line n why) = ⊥
IsLineOf line (error.Script cause place) = ⊥
IsLineOf line (error.Assembly n why) = n ≡ line
IsLineOf line (error.Loading n why) = n ≡ line
IsLineOf line (error.Inserts n) = ⊥
IsLineOf line error.Memory = Unit {0}
