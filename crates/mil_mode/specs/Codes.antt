-- The mode codes by name (MIL-STD-1553B 4.3.3.5.1.7 and its table I).
use Rattle.std.specs.Prelude.{ℕ}

abbrev pub dynamic_bus_control : ℕ
dynamic_bus_control = 0

abbrev pub synchronize : ℕ
synchronize = 1

abbrev pub transmit_status_word : ℕ
transmit_status_word = 2

abbrev pub initiate_self_test : ℕ
initiate_self_test = 3

abbrev pub transmitter_shutdown : ℕ
transmitter_shutdown = 4

abbrev pub override_shutdown : ℕ
override_shutdown = 5

abbrev pub inhibit_terminal_flag : ℕ
inhibit_terminal_flag = 6

abbrev pub override_inhibit : ℕ
override_inhibit = 7

abbrev pub reset_remote_terminal : ℕ
reset_remote_terminal = 8

abbrev pub transmit_vector_word : ℕ
transmit_vector_word = 16

abbrev pub synchronize_with_word : ℕ
synchronize_with_word = 17

abbrev pub transmit_last_command : ℕ
transmit_last_command = 18

abbrev pub transmit_bit_word : ℕ
transmit_bit_word = 19

abbrev pub selected_shutdown : ℕ
selected_shutdown = 20

abbrev pub override_selected_shutdown : ℕ
override_selected_shutdown = 21

-- codes that the standard keeps for later: these without a data word, and those from another one on with one
abbrev pub first_reserved : ℕ
first_reserved = 9

abbrev pub last_reserved_without_word : ℕ
last_reserved_without_word = 15

abbrev pub first_reserved_with_word : ℕ
first_reserved_with_word = 22

abbrev pub last_code : ℕ
last_code = 31

-- up to this code a mode command has no data word, and from the next one on it has one
abbrev pub last_without_word : ℕ
last_without_word = 15

abbrev pub first_with_word : ℕ
first_with_word = 16
