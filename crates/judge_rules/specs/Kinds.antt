-- The kinds of messages that a rule counts (own choice): `of` and a name. A bit of the block status word (IRIG 106-17
-- Chapter 11, MIL-STD-1553 bus data packets, Format 1) has the name that `bench dump --decode` shows it by.
use Rattle.std.specs.Prelude.{List, [], ◌∷◌, drop, Ok, Err, Option, Some, None, codes, if◌then◌else◌}
use Rattle.std.specs.Str.{bytes_eq}
use Rattle.text_lines.specs.Words.{Text, meaning}
use Rattle.judge_rules.specs.declared.fault.RuleFault.TheVariants.{Word}
use Rattle.judge_rules.specs.declared.rules.Kind.{Kind}
use Rattle.judge_rules.specs.declared.rules.Kind.TheVariants.{Sound, Failed, Clean, Silent, MessageError}
use Rattle.judge_rules.specs.declared.rules.Kind.TheVariants.{TerminalToTerminal, FormatError, ResponseTimeout}
use Rattle.judge_rules.specs.declared.rules.Kind.TheVariants.{WordCountError, SyncTypeError, InvalidWordError}
use Rattle.judge_rules.specs.Faults.{Read, made, ended}

abbrev pub kinds : List (Text × Kind)
kinds =
    (codes "ok", Sound) ∷ (codes "fail", Failed) ∷ (codes "clean", Clean) ∷ (codes "silent", Silent)
    ∷ (codes "message_error", MessageError) ∷ (codes "terminal_to_terminal", TerminalToTerminal)
    ∷ (codes "format_error", FormatError) ∷ (codes "response_timeout", ResponseTimeout)
    ∷ (codes "word_count_error", WordCountError) ∷ (codes "sync_type_error", SyncTypeError)
    ∷ (codes "invalid_word_error", InvalidWordError) ∷ []

unfoldable pub kind_named : Text → Option Kind
kind_named word = meaning kinds word

abbrev pub kind_or_fault : Option Kind → Read Kind
kind_or_fault None = Err Word
kind_or_fault (Some kind) = Ok kind

abbrev pub kind_in : List Text → Read Kind
kind_in [] = Err Word
kind_in (word ∷ rest) = kind_or_fault (kind_named word)

-- the kind that is counted; all messages are where none is named
abbrev pub counted_in : List Text → Read (Option Kind)
counted_in [] = Ok None
counted_in (word ∷ rest) =
    if bytes_eq word (codes "of") then made Some (ended (kind_in rest) (drop 1 rest)) else Err Word
