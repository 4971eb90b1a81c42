-- The ten message forms: what the controller sends, and which replies are due (MIL-STD-1553B 4.3.3.6, with Notice 2).
use Rattle.std.specs.Prelude.{ℕ, ◌+◌, ◌*◌, ◌%◌, ◌^◌, Bool, true, false, List, [], ◌∷◌, ◌++◌, length, map, Option, Some}
use Rattle.std.specs.Prelude.{None, if◌then◌else◌}
use Rattle.std.specs.Option.{option_to_list}
use Rattle.mil_word.specs.Words.{command_wave, data_wave}
use Rattle.mil_word.specs.declared.Sync.TheVariants.{CommandSync, DataSync}
use Rattle.mil_word.specs.declared.Word.{Word}
pub use Rattle.mil_word.specs.Fields.{all_terminals}
use Rattle.mil_word.specs.Fields.{most_words, mode_subaddress_of_zeros, mode_subaddress_of_ones}
use Rattle.mil_message.specs.declared.drafts.ModeSubaddress.{ModeSubaddress}
use Rattle.mil_message.specs.declared.drafts.ModeSubaddress.TheVariants.{Zero, ThirtyOne}
use Rattle.mil_message.specs.declared.forms.Due.{Due}
use Rattle.mil_message.specs.declared.forms.Form.{Form}
use Rattle.mil_message.specs.declared.forms.Form.TheVariants.{ToTerminal, FromTerminal, Between, Mode, ModeFrom, ModeTo}
use Rattle.mil_message.specs.declared.forms.Form.TheVariants.{ToAll, BetweenAll, ModeAll, ModeAllTo}

-- the command word of an address, a T/R bit, a subaddress and a last field (4.3.3.5.1)
abbrev pub command_word : ℕ → Bool → ℕ → ℕ → ℕ
command_word address transmit subaddress field =
    address * 2 ^ 11 + (if transmit then 2 ^ 10 else 0) + subaddress * 2 ^ 5 + field

-- the field of a data word count: the most is written as zeros (4.3.3.5.1.5)
abbrev pub count_field : ℕ → ℕ
count_field count = count % most_words

-- a command to receive, and one to transmit, so many data words
abbrev pub receive_command : ℕ → ℕ → ℕ → ℕ
receive_command address subaddress count = command_word address false subaddress (count_field count)

abbrev pub transmit_command : ℕ → ℕ → ℕ → ℕ
transmit_command address subaddress count = command_word address true subaddress (count_field count)

abbrev pub mode_subaddress : ModeSubaddress → ℕ
mode_subaddress Zero = mode_subaddress_of_zeros
mode_subaddress ThirtyOne = mode_subaddress_of_ones

-- a mode command (4.3.3.5.1.7)
abbrev pub mode_command : ℕ → Bool → ModeSubaddress → ℕ → ℕ
mode_command address transmit subaddress code = command_word address transmit (mode_subaddress subaddress) code

-- the first command word
abbrev pub first_command : Form → ℕ
-- controller to terminal, and terminal to controller (4.3.3.6.1, 4.3.3.6.2)
first_command (ToTerminal address subaddress words) = receive_command address subaddress (length words.items)
first_command (FromTerminal address subaddress count) = transmit_command address subaddress count
-- terminal to terminal: the receiver is called first (4.3.3.6.3)
first_command (Between sender sender_subaddress receiver receiver_subaddress count) = receive_command receiver
    receiver_subaddress count
-- mode command without a data word, with one that the terminal sends, and with one that it receives (4.3.3.6.4 to
-- 4.3.3.6.6)
first_command (Mode address subaddress code) = mode_command address true subaddress code
first_command (ModeFrom address subaddress code) = mode_command address true subaddress code
first_command (ModeTo address subaddress code word) = mode_command address false subaddress code
-- the same to all terminals (4.3.3.6.7)
first_command (ToAll subaddress words) = receive_command all_terminals subaddress (length words.items)
first_command (BetweenAll sender sender_subaddress receiver_subaddress count) = receive_command all_terminals
    receiver_subaddress count
first_command (ModeAll subaddress code) = mode_command all_terminals true subaddress code
first_command (ModeAllTo subaddress code word) = mode_command all_terminals false subaddress code

-- the second command word, which the two forms between terminals have: it calls the sender
abbrev pub second_command : Form → Option ℕ
second_command (Between sender sender_subaddress receiver receiver_subaddress count) = Some
    (transmit_command sender sender_subaddress count)
second_command (BetweenAll sender sender_subaddress receiver_subaddress count) = Some
    (transmit_command sender sender_subaddress count)
second_command _ = None

abbrev pub commands : Form → List ℕ
commands form = first_command form ∷ option_to_list (second_command form)

-- the data words that the controller sends after its commands
abbrev pub data_words : Form → List ℕ
data_words (ToTerminal address subaddress words) = words.items
data_words (ModeTo address subaddress code word) = word ∷ []
data_words (ToAll subaddress words) = words.items
data_words (ModeAllTo subaddress code word) = word ∷ []
data_words _ = []

-- the first of these words, and this one where there is none
abbrev pub first_or : ℕ → List ℕ → ℕ
first_or own [] = own
first_or own (word ∷ rest) = word

-- the message with these data words in the place of its own, where it has some
abbrev pub with_data_words : List ℕ → Form → Form
with_data_words words (ToTerminal address subaddress own) = ToTerminal address subaddress (record { items = words })
with_data_words words (ModeTo address subaddress code own) = ModeTo address subaddress code (first_or own words)
with_data_words words (ToAll subaddress own) = ToAll subaddress (record { items = words })
with_data_words words (ModeAllTo subaddress code own) = ModeAllTo subaddress code (first_or own words)
with_data_words words form = form

abbrev pub command_of : ℕ → Word
command_of value = record { sync = CommandSync; value = value }

abbrev pub data_of : ℕ → Word
data_of value = record { sync = DataSync; value = value }

-- the controller's words: its commands, then its data words
abbrev pub controller_words : Form → List Word
controller_words form = map command_of (commands form) ++ map data_of (data_words form)

-- the same as waves
abbrev pub controller_waves : Form → List ℕ
controller_waves form = map command_wave (commands form) ++ map data_wave (data_words form)

abbrev due : ℕ → ℕ → Due
due address words = record { address = address; words = words }

-- the replies that are due, in their order: whose, and of how many data words; a terminal does not answer address 31
abbrev pub replies_due : Form → List Due
replies_due (ToTerminal address subaddress words) = due address 0 ∷ []
replies_due (FromTerminal address subaddress count) = due address count ∷ []
replies_due (Between sender sender_subaddress receiver receiver_subaddress count) = due sender count ∷ due receiver 0
    ∷ []
replies_due (Mode address subaddress code) = due address 0 ∷ []
replies_due (ModeFrom address subaddress code) = due address 1 ∷ []
replies_due (ModeTo address subaddress code word) = due address 0 ∷ []
replies_due (ToAll subaddress words) = []
replies_due (BetweenAll sender sender_subaddress receiver_subaddress count) = due sender count ∷ []
replies_due (ModeAll subaddress code) = []
replies_due (ModeAllTo subaddress code word) = []

-- the number of a form, in the order above
abbrev pub form_number : Form → ℕ
form_number (ToTerminal address subaddress words) = 0
form_number (FromTerminal address subaddress count) = 1
form_number (Between sender sender_subaddress receiver receiver_subaddress count) = 2
form_number (Mode address subaddress code) = 3
form_number (ModeFrom address subaddress code) = 4
form_number (ModeTo address subaddress code word) = 5
form_number (ToAll subaddress words) = 6
form_number (BetweenAll sender sender_subaddress receiver_subaddress count) = 7
form_number (ModeAll subaddress code) = 8
form_number (ModeAllTo subaddress code word) = 9
