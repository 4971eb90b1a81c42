-- The text that a message is printed as: words with one space between them (own choice).
use Rattle.std.specs.Prelude.{ℕ, ◌/◌, ◌%◌, List, [], ◌∷◌, ◌++◌, map, Bool, true, false, codes, decimal, Option, Some}
use Rattle.std.specs.Prelude.{None, if◌then◌else◌}
use Rattle.numerals.specs.Numerals.{byte_text}
use Rattle.mil_word.specs.declared.Line.{Line}
use Rattle.mil_word.specs.Printing.{line_text}
use Rattle.mil_message.specs.declared.drafts.ModeSubaddress.{ModeSubaddress}
use Rattle.mil_message.specs.declared.drafts.ModeSubaddress.TheVariants.{Zero, ThirtyOne}
use Rattle.mil_message.specs.declared.forms.Form.{Form}
use Rattle.mil_message.specs.declared.forms.Form.TheVariants.{ToTerminal, FromTerminal, Between, Mode, ModeFrom, ModeTo}
use Rattle.mil_message.specs.declared.forms.Form.TheVariants.{ToAll, BetweenAll, ModeAll, ModeAllTo}

-- texts with one space between them
abbrev pub spaced : List (List ℕ) → List ℕ
spaced [] = []
spaced (w ∷ []) = w
spaced (w ∷ v ∷ ws) = w ++ (codes " " ++ spaced (v ∷ ws))

-- a data word as four hexadecimal digits
abbrev pub data_word_text : ℕ → List ℕ
data_word_text w = byte_text (w / 256) ++ byte_text (w % 256)

-- a space, and then a data word
abbrev pub spaced_data : ℕ → List ℕ
spaced_data w = codes " " ++ data_word_text w

-- data words in their brackets
abbrev pub bracketed_text : List ℕ → List ℕ
bracketed_text ws = codes "[" ++ (spaced (map data_word_text ws) ++ codes "]")

-- the word of a mode command to one terminal, and to all
abbrev pub mode_text : ModeSubaddress → List ℕ
mode_text ThirtyOne = codes "mode"
mode_text Zero = codes "mode0"

abbrev pub mode_all_text : ModeSubaddress → List ℕ
mode_all_text ThirtyOne = codes "bmode"
mode_all_text Zero = codes "bmode0"

-- whether a message is a mode command, to one terminal or to all
abbrev pub is_mode_command : Form → Bool
is_mode_command (ToTerminal address sub words) = false
is_mode_command (FromTerminal address sub count) = false
is_mode_command (Between sender from receiver to count) = false
is_mode_command (ToAll sub words) = false
is_mode_command (BetweenAll sender from to count) = false
is_mode_command _ = true

-- the words of a message; a mode command has brackets where the controller sends its data word
abbrev pub message_words : Form → List (List ℕ)
message_words (ToTerminal address sub words) =
    codes "rx" ∷ decimal address ∷ decimal sub ∷ bracketed_text words.items ∷ []
message_words (FromTerminal address sub count) = codes "tx" ∷ decimal address ∷ decimal sub ∷ decimal count ∷ []
message_words (Between sender from receiver to count) =
    codes "rt" ∷ decimal sender ∷ decimal from ∷ decimal receiver ∷ decimal to ∷ decimal count ∷ []
message_words (Mode address sub code) = mode_text sub ∷ decimal address ∷ decimal code ∷ []
message_words (ModeFrom address sub code) = mode_text sub ∷ decimal address ∷ decimal code ∷ []
message_words (ModeTo address sub code word) =
    mode_text sub ∷ decimal address ∷ decimal code ∷ bracketed_text (word ∷ []) ∷ []
message_words (ToAll sub words) = codes "brx" ∷ decimal sub ∷ bracketed_text words.items ∷ []
message_words (BetweenAll sender from to count) =
    codes "brt" ∷ decimal sender ∷ decimal from ∷ decimal to ∷ decimal count ∷ []
message_words (ModeAll sub code) = mode_all_text sub ∷ decimal code ∷ []
message_words (ModeAllTo sub code word) = mode_all_text sub ∷ decimal code ∷ bracketed_text (word ∷ []) ∷ []

abbrev pub message_text : Form → List ℕ
message_text message = spaced (message_words message)

-- that of a mode command alone
abbrev pub mode_command_text : Form → Option (List ℕ)
mode_command_text message = if is_mode_command message then Some (message_text message) else None

-- a line and a message
abbrev pub line_and_message_text : Line → Form → List ℕ
line_and_message_text line message = line_text line ++ (codes " " ++ message_text message)

abbrev pub send_text : Line → Form → List ℕ
send_text line message = codes "send " ++ line_and_message_text line message
