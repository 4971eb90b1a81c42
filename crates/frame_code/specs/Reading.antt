-- What bytes are read as (own choice): the code that they spell, else the first fault. The bytes are judged field by
-- field, in their order.
use Rattle.std.specs.Prelude.{◌≡◌, ℕ, zero, suc, ◌+◌, ◌-◌, ◌*◌, ◌==◌, ◌&&◌, ◌||◌, nat_lt, nat_le, if◌then◌else◌, Bool}
use Rattle.std.specs.Prelude.{List, [], ◌∷◌, Option, Some, None, option_map, Result, Ok, Err}
use Rattle.mil_word.specs.declared.Line.{Line}
use Rattle.mil_word.specs.declared.Line.TheVariants.{A, B}
use Rattle.mil_message.specs.declared.messages.Message.{Message}
use Rattle.mil_message.specs.declared.outcome_test.OutcomeTest.{OutcomeTest}
use Rattle.mil_message.specs.declared.outcome_test.OutcomeTest.TheVariants.{Failed, Silent, Bit}
use Rattle.mil_status.specs.Status.{bit_at}
use Rattle.mil_message.specs.Parts.{request_at}
use Rattle.mil_message.specs.Request.{Request}
use Rattle.mil_message.specs.Rules.{form_of}
use Rattle.frame_code.specs.declared.error.ImageError.{ImageError}
use Rattle.frame_code.specs.declared.error.ImageError.TheVariants as fault
use Rattle.frame_code.specs.declared.Op.{Op}
use Rattle.frame_code.specs.declared.Op.TheVariants.{Halt, Send, Alt, SetGap, Loop, Again, Leave, Jump, Test, JumpFalse}
use Rattle.frame_code.specs.declared.Op.TheVariants.{Call, Return, Begin, Pace}
use Rattle.frame_code.specs.Table.{Code}
use Rattle.frame_code.specs.Ranges.{is_gap, is_count, is_routine, is_period}
use Rattle.frame_code.specs.Bytes.{version_for}
use Rattle.frame_code.specs.Fields.{first_fits, second_fits, words_due}

infixl 10 ◌>>=◌
abbrev pub ◌>>=◌ : {X Y : Type 0} → Result X ImageError → (X → Result Y ImageError) → Result Y ImageError
Ok x >>= f = f x
Err e >>= f = Err e

-- what is read, and the bytes behind it
abbrev pub FieldRead : Type 0 → Type 0
FieldRead X = Result (X × List ℕ) ImageError

-- the value where the field may have it, else the fault
abbrev pub must : {X : Type 0} → Bool → ImageError → X → Result X ImageError
must fits e x = if fits then Ok x else Err e

-- a field of one byte; the bytes may end too early
abbrev pub byte_at : List ℕ → FieldRead ℕ
byte_at [] = Err fault.Length
byte_at (b ∷ bs) = Ok (b, bs)

-- a field of two bytes, the low one first
unfoldable pub two_at : List ℕ → FieldRead ℕ
two_at bs = do
  low ← byte_at bs
  high ← byte_at low.1
  Ok (low.0 + 256 * high.0, high.1)

-- the mark BC01, BC02 or BC03: the version, 1 to 3
unfoldable pub mark_at : List ℕ → FieldRead ℕ
mark_at (a ∷ b ∷ c ∷ d ∷ bs) = must (a == 66 && b == 67 && c == 48 && (d == 49 || d == 50 || d == 51)) fault.Mark
    (d - 48, bs)
mark_at _ = Err fault.Mark

-- the test of a number, if there is one: 0, 1, or 16 more than the place of a status bit
abbrev pub test_of : ℕ → Option OutcomeTest
test_of k =
    if k == 0 then Some Failed
    else if k == 1 then Some Silent
    else if nat_lt k 16 then None
    else option_map (λ b. Bit b) (bit_at (k - 16))

-- the operation of a number and an operand, if there is one
unfoldable pub operation_of : ℕ → ℕ → Option Op
operation_of number operand =
    if number == 0 then (if operand == 0 then Some Halt else None)
    else if number == 1 then Some (Send operand)
    else if number == 2 then Some (Alt operand)
    else if number == 3 then (if is_gap operand then Some (SetGap operand) else None)
    else if number == 4 then (if is_count operand then Some (Loop operand) else None)
    else if number == 5 then Some (Again operand)
    else if number == 6 then Some (Leave operand)
    else if number == 7 then Some (Jump operand)
    else if number == 8 then option_map (λ t. Test t) (test_of operand)
    else if number == 9 then Some (JumpFalse operand)
    else if number == 10 then (if is_routine operand then Some (Call operand) else None)
    else if number == 11 then (if operand == 0 then Some Return else None)
    else if number == 12 then (if operand == 0 then Some Begin else None)
    else if number == 13 then (if is_period operand then Some (Pace operand) else None)
    else None

-- how many operations a version knows: ten, with routines twelve, with frames that have a period fourteen
abbrev pub known : ℕ → ℕ
known version = if version == 1 then 10 else if version == 2 then 12 else 14

-- what there is, else the fault
abbrev pub present : {X : Type 0} → ImageError → Option X → Result X ImageError
present e None = Err e
present e (Some x) = Ok x

-- four bytes: a number that the version knows, 00, and an operand in its range
unfoldable pub operation_at : ℕ → List ℕ → FieldRead Op
operation_at version bs = do
  number ← byte_at bs
  _ ← must (nat_lt number.0 (known version)) fault.Operations number
  pad ← byte_at number.1
  _ ← must (pad.0 == 0) fault.Operations pad
  operand ← two_at pad.1
  operation ← present fault.Operations (operation_of number.0 operand.0)
  Ok (operation, operand.1)

-- so many of something, one after the other
module _ {X : Type 0} (one : List ℕ → FieldRead X) where
  unfoldable pub many : ℕ → List ℕ → FieldRead (List X)
  many zero bs = Ok ([], bs)
  many (suc n) bs = one bs >>= (λ x. many n x.1 >>= (λ xs. Ok (x.0 ∷ xs.0, xs.1)))

-- the line of a message, 0 or 1
unfoldable pub line_at : List ℕ → FieldRead Line
line_at bs = do
  line ← byte_at bs
  _ ← must (nat_lt line.0 2) fault.Messages line
  Ok (if line.0 == 0 then A else B, line.1)

-- the message of these parts, if there is one
abbrev pub message_with : Option Request → Option Message
message_with None = None
message_with (Some request) = Some (form_of request)

-- the number of data words, and those; the fields before them are known
unfoldable pub message_words_at : ℕ → Line → ℕ → ℕ → List ℕ → FieldRead (Line × Message)
message_words_at form line first second bs = do
  count ← two_at bs
  _ ← must (count.0 == words_due form first) fault.Messages count
  words ← many two_at count.0 count.1
  message ← present fault.Messages
      (message_with (request_at (record { number = form; first = first; second = second; words = words.0 })))
  Ok ((line, message), words.1)

-- the form, the line, the commands, and the data words
unfoldable pub message_at : List ℕ → FieldRead (Line × Message)
message_at bs = do
  form ← byte_at bs
  _ ← must (nat_lt form.0 10) fault.Messages form
  line ← line_at form.1
  first ← two_at line.1
  _ ← must (first_fits form.0 first.0) fault.Messages first
  second ← two_at first.1
  _ ← must (second_fits form.0 first.0 second.0) fault.Messages second
  message_words_at form.0 line.0 first.0 second.0 second.1

-- nothing may be left behind the last message
abbrev pub at_end : List ℕ → Code → Result Code ImageError
at_end [] code = Ok code
at_end (b ∷ bs) code = Err fault.Length

-- a mark is for codes that need it: no lower one knows all of their operations
abbrev pub fitting : ℕ → Code → Result Code ImageError
fitting version code = must (nat_le version (version_for code.operations)) fault.Version code

-- the mark, and the two counts
unfoldable pub header_at : List ℕ → Result (ℕ × ℕ × ℕ × List ℕ) ImageError
header_at bs = do
  mark ← mark_at bs
  operations ← two_at mark.1
  _ ← must (nat_le operations.0 4096) fault.Operations operations
  messages ← two_at operations.1
  _ ← must (nat_le messages.0 1024) fault.Messages messages
  Ok (mark.0, operations.0, messages.0, messages.1)

unfoldable pub image_of : List ℕ → Result Code ImageError
image_of bs = do
  header ← header_at bs
  operations ← many (operation_at header.0) header.1 header.3
  messages ← many message_at header.2 operations.1
  code ← at_end messages.1 (record { operations = operations.0; messages = messages.0 })
  fitting header.0 code

-- a reader in the code answers what its definition reads
abbrev pub ReadsImage : {X Y : Type 0} → (X → Y) → Result X ImageError → Result Y ImageError → Type 0
ReadsImage view (Ok x) read = read ≡ Ok (view x)
ReadsImage view (Err e) read = read ≡ Err e

-- the definition reads this fault; of want of memory it says nothing
abbrev pub Faults : {Y : Type 0} → ImageError → Result Y ImageError → Type 0
Faults fault.Mark read = read ≡ Err fault.Mark
Faults fault.Length read = read ≡ Err fault.Length
Faults fault.Operations read = read ≡ Err fault.Operations
Faults fault.Messages read = read ≡ Err fault.Messages
Faults fault.Version read = read ≡ Err fault.Version
Faults fault.Memory read = Unit {0}

-- the same, but that it may also be refused memory
abbrev pub ReadsImageInMemory : {X Y : Type 0} → (X → Y) → Result X ImageError → Result Y ImageError → Type 0
ReadsImageInMemory view (Ok x) read = read ≡ Ok (view x)
ReadsImageInMemory view (Err e) read = Faults e read

-- what is behind that which was read
abbrev pub behind : {X : Type 0} → FieldRead X → Result (List ℕ) ImageError
behind (Ok x) = Ok x.1
behind (Err e) = Err e

-- the version that the operations that were read need, and what is behind them
abbrev pub many_versions : FieldRead (List Op) → Result (ℕ × List ℕ) ImageError
many_versions (Ok x) = Ok (version_for x.0, x.1)
many_versions (Err e) = Err e
