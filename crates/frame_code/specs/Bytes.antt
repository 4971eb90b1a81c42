-- The bytes of an image (own choice): the lowest of the marks BC01, BC02 and BC03 that knows all operations, two
-- counts, the operations, the messages; numbers little-endian.
use Rattle.std.specs.Prelude.{ℕ, ◌+◌, ◌/◌, ◌%◌, max, List, [], ◌∷◌, ◌++◌, length, codes}
use Rattle.std.specs.List.{flat_map}
use Rattle.mil_word.specs.declared.Line.{Line}
use Rattle.mil_word.specs.declared.Line.TheVariants.{A, B}
use Rattle.mil_message.specs.Parts.{Parts, parts_of}
use Rattle.mil_message.specs.Rules.{IsLawful}
use Rattle.mil_message.specs.declared.messages.Message.{Message}
use Rattle.mil_message.specs.declared.outcome_test.OutcomeTest.{OutcomeTest}
use Rattle.mil_message.specs.declared.outcome_test.OutcomeTest.TheVariants.{Failed, Silent, Bit}
use Rattle.mil_status.specs.Status.{place_of}
use Rattle.frame_code.specs.declared.Op.{Op}
use Rattle.frame_code.specs.declared.Op.TheVariants.{Halt, Send, Alt, SetGap, Loop, Again, Leave, Jump, Test, JumpFalse}
use Rattle.frame_code.specs.declared.Op.TheVariants.{Call, Return, Begin, Pace}
use Rattle.frame_code.specs.Table.{Code}

-- a number of two bytes, the low one first
abbrev pub two_bytes : ℕ → List ℕ
two_bytes n = n % 256 ∷ n / 256 ∷ []

-- the version of an image that an operation needs: which of the marks BC01, BC02 and BC03 is the first to know it
abbrev pub version_of : Op → ℕ
version_of (Call r) = 2
version_of Return = 2
version_of Begin = 3
version_of (Pace h) = 3
version_of _ = 1

-- the lowest version that knows all of these operations
abbrev pub version_for : List Op → ℕ
version_for [] = 1
version_for (o ∷ os) = max (version_of o) (version_for os)

-- the mark of a version: its last letter is the version's digit
abbrev pub mark : ℕ → List ℕ
mark version = codes "BC0" ++ (48 + version) ∷ []

-- the number of an operation
abbrev pub operation_number : Op → ℕ
operation_number Halt = 0
operation_number (Send m) = 1
operation_number (Alt m) = 2
operation_number (SetGap t) = 3
operation_number (Loop n) = 4
operation_number (Again i) = 5
operation_number (Leave i) = 6
operation_number (Jump i) = 7
operation_number (Test k) = 8
operation_number (JumpFalse i) = 9
operation_number (Call r) = 10
operation_number Return = 11
operation_number Begin = 12
operation_number (Pace h) = 13

-- the number of a test: 0 failed, 1 silent, and 16 more than the place of a status bit
abbrev pub number_of_test : OutcomeTest → ℕ
number_of_test Failed = 0
number_of_test Silent = 1
number_of_test (Bit b) = 16 + place_of b

-- its operand; 0 for Halt, Return and Begin
abbrev pub operand_of : Op → ℕ
operand_of Halt = 0
operand_of (Send m) = m
operand_of (Alt m) = m
operand_of (SetGap t) = t
operand_of (Loop n) = n
operand_of (Again i) = i
operand_of (Leave i) = i
operand_of (Jump i) = i
operand_of (Test k) = number_of_test k
operand_of (JumpFalse i) = i
operand_of (Call r) = r
operand_of Return = 0
operand_of Begin = 0
operand_of (Pace h) = h

-- four bytes: the number, 00, and the operand
abbrev pub operation_bytes : Op → List ℕ
operation_bytes o = operation_number o ∷ 0 ∷ two_bytes (operand_of o)

abbrev pub line_number : Line → ℕ
line_number A = 0
line_number B = 1

-- the form, the line, the commands (0000 for no second one), the number of data words, and those
abbrev pub parts_bytes : Line → Parts → List ℕ
parts_bytes line p =
    p.number ∷ line_number line ∷ two_bytes p.first ++ two_bytes p.second ++ two_bytes (length p.words)
    ++ flat_map two_bytes p.words

abbrev pub message_bytes : Line × Message → List ℕ
message_bytes m = parts_bytes m.0 (parts_of m.1)

-- the mark, and how many operations and messages there are
abbrev pub header_bytes : ℕ → ℕ → ℕ → List ℕ
header_bytes version operations messages = mark version ++ two_bytes operations ++ two_bytes messages

abbrev pub image_bytes : Code → List ℕ
image_bytes code =
    header_bytes (version_for code.operations) (length code.operations) (length code.messages)
    ++ flat_map operation_bytes code.operations ++ flat_map message_bytes code.messages

-- each message has one of the ten forms, all its numbers in their ranges
abbrev pub AreLawful : List (Line × Message) → Type 0
AreLawful [] = Unit {0}
AreLawful (m ∷ ms) = IsLawful m.1 × AreLawful ms
