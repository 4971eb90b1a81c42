-- What an entry says.
use Rattle.std.specs.Prelude.{ℕ, ◌≤◌}
use Rattle.text_lines.specs.Words.{words}
use Rattle.mil_word.specs.Fields.{highest_address, highest_put_up}
use Rattle.job_file.specs.Lines.{Said, blank, script, channel, start, terminal, action, control, fault, faults}
use Rattle.job_file.specs.Lines.{series, timed_action, timed_control, timed_fault}
use Rattle.job_moments.specs.Planning.{MayStand}
use Rattle.job_file.specs.Spans.{IsSpan}
use Rattle.job_file.specs.Whens.{WhenWords, by_word, by_command, WhichWords, by_numbers, by_places, by_times}
use Rattle.job_file.specs.declared.whens.When.{When}
use Rattle.job_file.specs.declared.whens.When.TheVariants as when
use Rattle.job_file.specs.declared.whens.Which.{Which}
use Rattle.job_file.specs.declared.whens.Which.TheVariants as which
use Rattle.job_file.specs.declared.whens.WhenText.{WhenText}
use Rattle.job_file.specs.declared.whens.WhenText.TheVariants as when_text
use Rattle.job_file.specs.declared.whens.WhichText.{WhichText}
use Rattle.job_file.specs.declared.whens.WhichText.TheVariants as which_text
use Rattle.job_file.specs.declared.lines.Entry.{Entry}
use Rattle.job_file.specs.declared.lines.Entry.TheVariants as entry

abbrev pub said_by : Entry → Said
said_by entry.Blank = blank
said_by entry.Script = script
said_by (entry.Channel n) = channel n
said_by (entry.Start n) = start n
said_by (entry.Terminal n) = terminal n
said_by (entry.Action number address text) = action number address (words text.now)
said_by (entry.Control number text) = control number (words text.now)
said_by (entry.Fault number f) = fault number f
said_by (entry.Faults span f) = faults span f
said_by (entry.Series s) = series s
said_by (entry.TimedAction moment address text) = timed_action moment address (words text.now)
said_by (entry.TimedControl moment text) = timed_control moment (words text.now)
said_by (entry.TimedFault occasion f) = timed_fault occasion f

-- each number in its range
abbrev pub IsInRange : Said → Type 0
IsInRange blank = Unit {0}
IsInRange script = Unit {0}
IsInRange (channel n) = (1 ≤ n) × (n ≤ 65535)
IsInRange (start n) = n ≤ 140737488355328
IsInRange (terminal n) = n ≤ highest_address
IsInRange (action number address text) = (1 ≤ number) × (number ≤ 1000000) × (address ≤ highest_address)
IsInRange (control number text) = (1 ≤ number) × (number ≤ 1000000)
IsInRange (fault number f) = Unit {0}
IsInRange (faults span f) = IsSpan span
IsInRange (timed_action moment address text) = address ≤ highest_address
IsInRange (timed_control moment text) = Unit {0}
IsInRange (timed_fault occasion f) = MayStand occasion
IsInRange (series s) = IsSpan s.span × (s.address ≤ highest_address) × (1 ≤ s.sub) × (s.sub ≤ highest_put_up)

-- the words of a WHEN, and those that say which messages

abbrev pub words_of_when : WhenText → WhenWords
words_of_when (when_text.Word w) = by_word w.now
words_of_when (when_text.Command selector place) = by_command (words selector.now) place.now

abbrev pub words_of_which : WhichText → WhichWords
words_of_which (which_text.Numbers first last step) = by_numbers (first.now, last.now, step.now)
words_of_which (which_text.Places selector first last step) =
    by_places (words selector.now) (first.now, last.now, step.now)
words_of_which (which_text.Window selector from to) = by_times (words selector.now) from.now to.now

-- a number from low to high
abbrev pub IsWhen : ℕ → ℕ → When → Type 0
IsWhen low high (when.Number n) = (low ≤ n) × (n ≤ high)
IsWhen low high (when.Moment moment) = Unit {0}

abbrev pub IsWhich : Which → Type 0
IsWhich (which.Numbers span) = IsSpan span
IsWhich (which.Places selector span) = IsSpan span
IsWhich (which.Window selector from to) = Unit {0}
