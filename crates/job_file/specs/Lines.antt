-- What a line of a job says (own choice): its words, separated by spaces alone.
use Rattle.std.specs.Prelude.{ℕ, Bool, if◌then◌else◌, List, [], ◌∷◌, Option, Some, None, codes}
use Rattle.std.specs.Str.{bytes_eq}
use Rattle.text_lines.specs.Words.{Text, words, is_comment}
use Rattle.mil_word.specs.Fields.{highest_address, highest_put_up}
use Rattle.mil_word.specs.declared.Sync.{Sync}
use Rattle.mil_word.specs.declared.Sync.TheVariants.{CommandSync, DataSync}
use Rattle.mil_line.specs.declared.faults.Fault.{Fault}
use Rattle.mil_line.specs.declared.faults.Fault.TheVariants.{Mask, Drop, Add, Late, Mute, Early}
use Rattle.mil_line.specs.declared.faults.Fault.TheVariants.{Pause, Babble}
use Rattle.job_file.specs.Options.{◌>>=◌}
use Rattle.numerals.specs.Numerals.{data_word_of}
use Rattle.job_moments.specs.declared.moments.Moment.{Moment}
use Rattle.job_moments.specs.declared.occasions.Occasion.{Occasion}
use Rattle.job_moments.specs.declared.occasions.Occasion.TheVariants.{Once, Places, Window}
use Rattle.job_file.specs.Numbers.{number_of, number_within, start_of, half_bits_of}
use Rattle.job_file.specs.Whens.{when_words, when_of, which_words, which_of, turns_of}
use Rattle.job_file.specs.declared.whens.When.{When}
use Rattle.job_file.specs.declared.whens.When.TheVariants as when
use Rattle.job_file.specs.declared.whens.Which.{Which}
use Rattle.job_file.specs.declared.whens.Which.TheVariants as which
pub use Rattle.job_file.specs.Parts.{first, ended, one, two, three, four, front}
pub use Rattle.job_file.specs.Whens.{span_of}
use Rattle.job_file.specs.declared.keywords.Keyword.{Keyword}
use Rattle.job_file.specs.declared.keywords.Keyword.TheVariants as keyword
use Rattle.job_file.specs.declared.keywords.FaultWord.{FaultWord}
use Rattle.job_file.specs.declared.keywords.FaultWord.TheVariants as word
use Rattle.job_file.specs.declared.spans.Span.{Span}
use Rattle.job_file.specs.declared.spans.Series.{Series}

pub data Said : Type 0 where
  -- an empty line, or a comment
  blank : Said
  -- the line that ends the part above the script
  script : Said
  channel : ℕ → Said
  start : ℕ → Said
  terminal : ℕ → Said
  -- the number of a message, the address of a terminal, and the words of its host's action
  action : ℕ → ℕ → List Text → Said
  -- the number of a message, and the words of what the host of the controller asks for
  control : ℕ → List Text → Said
  -- the number of a message, and a fault of it
  fault : ℕ → Fault → Said
  -- messages, and a fault of each of them
  faults : Span → Fault → Said
  -- messages, and what a terminal's host puts up before each of them
  series : Series → Said
  -- a moment by time or by command, the address of a terminal, and the words of its host's action
  timed_action : Moment → ℕ → List Text → Said
  -- such a moment, and the words of what the host of the controller asks for
  timed_control : Moment → List Text → Said
  -- when a fault that is not planned by number is due, and the fault
  timed_fault : Occasion → Fault → Said

abbrev pub keyword_of : Text → Option Keyword
keyword_of w =
    if bytes_eq w (codes "channel") then Some keyword.Channel
    else if bytes_eq w (codes "start") then Some keyword.Start
    else if bytes_eq w (codes "terminal") then Some keyword.Terminal
    else if bytes_eq w (codes "at") then Some keyword.At
    else if bytes_eq w (codes "fault") then Some keyword.Fault
    else if bytes_eq w (codes "faults") then Some keyword.Faults
    else if bytes_eq w (codes "series") then Some keyword.Series
    else if bytes_eq w (codes "script") then Some keyword.Script
    else None

abbrev pub fault_word_of : Text → Option FaultWord
fault_word_of w =
    if bytes_eq w (codes "mask") then Some word.Mask
    else if bytes_eq w (codes "drop") then Some word.Drop
    else if bytes_eq w (codes "add") then Some word.Add
    else if bytes_eq w (codes "late") then Some word.Late
    else if bytes_eq w (codes "mute") then Some word.Mute
    else if bytes_eq w (codes "early") then Some word.Early
    else if bytes_eq w (codes "pause") then Some word.Pause
    else if bytes_eq w (codes "babble") then Some word.Babble
    else None

-- the word that names the bus controller where the address of a terminal may stand
abbrev pub is_controller : Text → Bool
is_controller w = bytes_eq w (codes "bc")

-- command or data sync
abbrev pub sync_of : Text → Option Sync
sync_of w =
    if bytes_eq w (codes "c") then Some CommandSync
    else if bytes_eq w (codes "d") then Some DataSync
    else None

-- exactly two words, each a number
unfoldable pub two_numbers : List Text → Option (ℕ × ℕ)
two_numbers ws =
    two ws >>= (λ w. number_of w.0 >>= (λ first. number_of w.1 >>= (λ second. Some (first, second))))

-- `mask RUN INDEX HALF_BITS`, `drop RUN INDEX`, `add RUN INDEX c|d WORD`, `late RUN TICKS`, `mute RUN`,
-- `early RUN TICKS`, `pause RUN INDEX TICKS` and `babble RUN COUNT WORD`
unfoldable pub mask_in : List Text → Option Fault
mask_in ws = three ws >>= (λ w. number_of w.0 >>=
    (λ run. number_of w.1 >>= (λ index. half_bits_of w.2 >>= (λ half_bits. Some (Mask run index half_bits)))))

unfoldable pub add_in : List Text → Option Fault
add_in ws =
    four ws >>= (λ w. sync_of w.2 >>=
    (λ sync. number_of w.0 >>= (λ run. number_of w.1 >>= (λ index. data_word_of w.3 >>= (λ value.
    Some (Add run index (record { sync = sync; value = value })))))))

unfoldable pub pause_in : List Text → Option Fault
pause_in ws = three ws >>= (λ w. number_of w.0 >>=
    (λ run. number_of w.1 >>= (λ index. number_of w.2 >>= (λ ticks. Some (Pause run index ticks)))))

unfoldable pub babble_in : List Text → Option Fault
babble_in ws = three ws >>= (λ w. number_of w.0 >>=
    (λ run. number_of w.1 >>= (λ count. data_word_of w.2 >>= (λ value. Some (Babble run count value)))))

unfoldable pub fault_of : FaultWord → List Text → Option Fault
fault_of word.Mask ws = mask_in ws
fault_of word.Drop ws = two_numbers ws >>= (λ n. Some (Drop n.0 n.1))
fault_of word.Add ws = add_in ws
fault_of word.Late ws = two_numbers ws >>= (λ n. Some (Late n.0 n.1))
fault_of word.Mute ws = one ws >>= (λ w. number_of w >>= (λ run. Some (Mute run)))
fault_of word.Early ws = two_numbers ws >>= (λ n. Some (Early n.0 n.1))
fault_of word.Pause ws = pause_in ws
fault_of word.Babble ws = babble_in ws

-- what stands behind the first word of a line

unfoldable pub channel_in : List Text → Option Said
channel_in ws = one ws >>= (λ w. number_within 1 65535 w >>= (λ n. Some (channel n)))

unfoldable pub start_in : List Text → Option Said
start_in ws = one ws >>= (λ w. start_of w >>= (λ n. Some (start n)))

unfoldable pub terminal_in : List Text → Option Said
terminal_in ws = one ws >>= (λ w. number_within 0 highest_address w >>= (λ n. Some (terminal n)))

abbrev pub control_at : When → List Text → Said
control_at (when.Number number) ws = control number ws
control_at (when.Moment moment) ws = timed_control moment ws

abbrev pub terminal_action_at : When → ℕ → List Text → Said
terminal_action_at (when.Number number) address ws = action number address ws
terminal_action_at (when.Moment moment) address ws = timed_action moment address ws

-- behind a WHEN the address of a terminal and the words of an action, or `bc` and those of what the host of the
-- controller asks for
abbrev pub action_at : When → Text → List Text → Option Said
action_at w host ws =
    if is_controller host then Some (control_at w ws)
    else (number_within 0 highest_address host >>= (λ address. Some (terminal_action_at w address ws)))

unfoldable pub action_in : List Text → Option Said
action_in ws =
    when_words ws >>= (λ w. first w.1 >>= (λ a. first a.1 >>= (λ more.
    when_of 1 1000000 w.0 >>= (λ w. action_at w a.0 a.1))))

abbrev pub fault_by : When → Fault → Said
fault_by (when.Number number) f = fault number f
fault_by (when.Moment moment) f = timed_fault (Once moment) f

unfoldable pub fault_in : List Text → Option Said
fault_in ws =
    when_words ws >>= (λ w. first w.1 >>= (λ k. fault_word_of k.0 >>= (λ kind. fault_of kind k.1 >>= (λ f.
    when_of 0 9999999 w.0 >>= (λ w. Some (fault_by w f))))))

abbrev pub faults_by : Which → Fault → Said
faults_by (which.Numbers span) f = faults span f
faults_by (which.Places selector span) f = timed_fault (Places selector (turns_of span)) f
faults_by (which.Window selector from to) f = timed_fault (Window selector from to) f

unfoldable pub faults_in : List Text → Option Said
faults_in ws =
    which_words ws >>= (λ w. first w.1 >>= (λ k. fault_word_of k.0 >>= (λ kind. fault_of kind k.1 >>= (λ f.
    which_of w.0 >>= (λ w. Some (faults_by w f))))))

-- `ADDRESS SUB START ADD` of these messages
unfoldable pub series_of : Span → Text × Text × Text × Text → Option Series
series_of span w =
    number_within 0 highest_address w.0 >>= (λ address. number_within 1 highest_put_up w.1 >>=
    (λ sub. data_word_of w.2 >>= (λ begin. data_word_of w.3 >>= (λ add.
    Some (record { span = span; address = address; sub = sub; start = begin; add = add })))))

unfoldable pub series_in : List Text → Option Said
series_in ws = front ws >>= (λ n. four n.1 >>=
    (λ w. span_of n.0 >>= (λ span. series_of span w >>= (λ s. Some (series s)))))

unfoldable pub of_keyword : Keyword → List Text → Option Said
of_keyword keyword.Channel ws = channel_in ws
of_keyword keyword.Start ws = start_in ws
of_keyword keyword.Terminal ws = terminal_in ws
of_keyword keyword.At ws = action_in ws
of_keyword keyword.Fault ws = fault_in ws
of_keyword keyword.Faults ws = faults_in ws
of_keyword keyword.Series ws = series_in ws
of_keyword keyword.Script ws = ended ws script

unfoldable pub said_in : List Text → Option Said
said_in [] = Some blank
said_in (w ∷ ws) = if is_comment w then Some blank else (keyword_of w >>= (λ k. of_keyword k ws))

-- what a line says; nothing where it may not stand in a job
abbrev pub said : Text → Option Said
said line = said_in (words line)
