-- The text of a message: `send LINE MESSAGE` (own choice; the forms are those of MIL-STD-1553B 4.3.3.6).
use Rattle.std.specs.Prelude.{ℕ, if◌then◌else◌, List, [], ◌∷◌, Result, Ok, Err, codes}
use Rattle.mil_word.specs.declared.Line.{Line}
use Rattle.mil_word.specs.declared.Line.TheVariants.{A, B}
use Rattle.mil_message.specs.declared.faults.BadMessage.{BadMessage}
use Rattle.mil_message.specs.declared.forms.Form.{Form}
use Rattle.mil_message.specs.declared.drafts.ModeSubaddress.{ModeSubaddress}
use Rattle.mil_message.specs.declared.drafts.ModeSubaddress.TheVariants.{Zero, ThirtyOne}
use Rattle.mil_message.specs.Request.{Request, to_terminal, from_terminal, between, to_all, between_all}
use Rattle.mil_message.specs.Request.{mode_request, mode_request_to_all}
use Rattle.mil_message.specs.Rules.{checked}
use Rattle.frame_text.specs.Tokens.{tokens}
use Rattle.frame_text.specs.Reading.{Tokens, Failure, fails, cause_alone, TokenReading, ◌>>=◌, same_bytes, misplaced}
use Rattle.frame_text.specs.Reading.{to_the_end}
use Rattle.frame_text.specs.Words.{number_at, bracketed_at, optional_at}
use Rattle.frame_text.specs.declared.faults.Cause.{Cause}
use Rattle.frame_text.specs.declared.faults.Cause.TheVariants as cause
use Rattle.frame_text.specs.declared.keywords.MessageWord.{MessageWord}
use Rattle.frame_text.specs.declared.keywords.MessageWord.TheVariants as word

unfoldable pub line_at : Tokens → TokenReading Line
line_at [] = fails cause.End []
line_at (w ∷ ts) =
    if same_bytes w (codes "A") then Ok (A, ts)
    else if same_bytes w (codes "B") then Ok (B, ts)
    else fails (misplaced w) (w ∷ ts)

unfoldable pub message_word : List ℕ → MessageWord
message_word w =
    if same_bytes w (codes "rx") then word.Receive else
    if same_bytes w (codes "tx") then word.Transmit else
    if same_bytes w (codes "rt") then word.Transfer else
    if same_bytes w (codes "mode") then word.Mode else
    if same_bytes w (codes "mode0") then word.ModeZero else
    if same_bytes w (codes "brx") then word.ReceiveAll else
    if same_bytes w (codes "brt") then word.TransferAll else
    if same_bytes w (codes "bmode") then word.ModeAll else
    if same_bytes w (codes "bmode0") then word.ModeZeroAll else
    word.NoMessage

-- the message that a request asks for, judged once it is read; it begins with the first of these tokens
abbrev pub judged_request : Tokens → Result Form BadMessage → Tokens → TokenReading Form
judged_request message (Ok form) ts = Ok (form, ts)
judged_request message (Err bad) ts = fails (cause.Message bad) message

abbrev pub made : Tokens → Request → Tokens → TokenReading Form
made message request ts = judged_request message (checked request) ts

-- the readings behind the first word of each message, with which the message begins
unfoldable pub receive_at : Tokens → Tokens → TokenReading Form
receive_at message ts =
    number_at ts >>= (λ address. number_at address.1 >>= (λ sub. bracketed_at sub.1 >>= (λ words.
    made message (to_terminal address.0 sub.0 words.0) words.1)))

unfoldable pub transmit_at : Tokens → Tokens → TokenReading Form
transmit_at message ts =
    number_at ts >>= (λ address. number_at address.1 >>= (λ sub. number_at sub.1 >>= (λ count.
    made message (from_terminal address.0 sub.0 count.0) count.1)))

-- the sender and its subaddress, the receiver and its subaddress
unfoldable pub transfer_at : Tokens → Tokens → TokenReading Form
transfer_at message ts =
    number_at ts >>= (λ sender. number_at sender.1 >>= (λ from.
    number_at from.1 >>= (λ receiver. number_at receiver.1 >>= (λ to. number_at to.1 >>= (λ count.
    made message (between sender.0 from.0 receiver.0 to.0 count.0) count.1)))))

unfoldable pub mode_at : ModeSubaddress → Tokens → Tokens → TokenReading Form
mode_at sub message ts =
    number_at ts >>= (λ address. number_at address.1 >>= (λ code. optional_at code.1 >>= (λ words.
    made message (mode_request address.0 sub code.0 words.0) words.1)))

unfoldable pub receive_all_at : Tokens → Tokens → TokenReading Form
receive_all_at message ts =
    number_at ts >>= (λ sub. bracketed_at sub.1 >>= (λ words.
    made message (to_all sub.0 words.0) words.1))

-- the sender and its subaddress, the subaddress of all others
unfoldable pub transfer_all_at : Tokens → Tokens → TokenReading Form
transfer_all_at message ts =
    number_at ts >>= (λ sender. number_at sender.1 >>= (λ from. number_at from.1 >>= (λ to. number_at to.1 >>= (λ count.
    made message (between_all sender.0 from.0 to.0 count.0) count.1))))

unfoldable pub mode_all_at : ModeSubaddress → Tokens → Tokens → TokenReading Form
mode_all_at sub message ts =
    number_at ts >>= (λ code. optional_at code.1 >>= (λ words.
    made message (mode_request_to_all sub code.0 words.0) words.1))

-- a message, by its first word
unfoldable pub message_of : MessageWord → List ℕ → Tokens → TokenReading Form
message_of word.Receive w ts = receive_at (w ∷ ts) ts
message_of word.Transmit w ts = transmit_at (w ∷ ts) ts
message_of word.Transfer w ts = transfer_at (w ∷ ts) ts
message_of word.Mode w ts = mode_at ThirtyOne (w ∷ ts) ts
message_of word.ModeZero w ts = mode_at Zero (w ∷ ts) ts
message_of word.ReceiveAll w ts = receive_all_at (w ∷ ts) ts
message_of word.TransferAll w ts = transfer_all_at (w ∷ ts) ts
message_of word.ModeAll w ts = mode_all_at ThirtyOne (w ∷ ts) ts
message_of word.ModeZeroAll w ts = mode_all_at Zero (w ∷ ts) ts
message_of word.NoMessage w ts = fails (misplaced w) (w ∷ ts)

unfoldable pub message_at : Tokens → TokenReading Form
message_at [] = fails cause.End []
message_at (w ∷ ts) = message_of (message_word w) w ts

-- a line and a message
unfoldable pub send_at : Tokens → TokenReading (Line × Form)
send_at ts = line_at ts >>= (λ line. message_at line.1 >>= (λ message. Ok ((line.0, message.0), message.1)))

-- the line and the message of a whole text, or its first fault
abbrev pub whole_send : List ℕ → Result (Line × Form) Failure
whole_send text = send_at (tokens text) >>= (λ read. to_the_end read)

abbrev pub send_of_text : List ℕ → Result (Line × Form) Cause
send_of_text text = cause_alone (whole_send text)
