-- The fields of command and status words (MIL-STD-1553B 4.3.3.5.1, 4.3.3.5.3), read off their 16 bits as a number.
use Rattle.std.specs.Prelude.{ℕ, ◌/◌, ◌%◌, ◌^◌, Bool, ◌&&◌, ◌||◌, not, ◌==◌, if◌then◌else◌}

-- the bit at a place, of which 0 is the last on the line
abbrev pub has_bit : ℕ → ℕ → Bool
has_bit place value = value / 2 ^ place % 2 == 1

-- the greatest value of a field of five bits (4.3.3.5.1)
abbrev pub greatest_field : ℕ
greatest_field = 31

-- how many values a field of five bits has (4.3.3.5.1)
abbrev pub field_values : ℕ
field_values = 32

-- the terminal address, the first five bits of a command word and of a status word (4.3.3.5.1.2, 4.3.3.5.3.2)
abbrev pub address_of : ℕ → ℕ
address_of value = value / 2 ^ 11

-- the address of all terminals (4.3.3.5.1.2)
abbrev pub all_terminals : ℕ
all_terminals = 31

-- the highest address of one terminal (4.3.3.5.1.2)
abbrev pub highest_address : ℕ
highest_address = 30

abbrev pub is_broadcast : ℕ → Bool
is_broadcast command = address_of command == all_terminals

-- the T/R bit: a one is 'transmit' (4.3.3.5.1.3)
abbrev pub is_transmit : ℕ → Bool
is_transmit command = has_bit 10 command

-- the subaddress (4.3.3.5.1.4)
abbrev pub sub_of : ℕ → ℕ
sub_of command = command / 2 ^ 5 % 2 ^ 5

-- the last field: a data word count or a mode code (4.3.3.5.1.5)
abbrev pub code_of : ℕ → ℕ
code_of command = command % 2 ^ 5

-- how many data words a message has at most (4.3.3.5.1.5)
abbrev pub most_words : ℕ
most_words = 32

-- the data word count: all zeros are the most (4.3.3.5.1.5)
abbrev pub count_of : ℕ → ℕ
count_of command = if code_of command == 0 then most_words else code_of command

-- the two subaddresses that say that the last field is a mode code (4.3.3.5.1.7)
abbrev pub mode_subaddress_of_zeros : ℕ
mode_subaddress_of_zeros = 0

abbrev pub mode_subaddress_of_ones : ℕ
mode_subaddress_of_ones = 31

abbrev pub is_mode : ℕ → Bool
is_mode command = sub_of command == mode_subaddress_of_zeros || sub_of command == mode_subaddress_of_ones

-- the highest subaddress for data (4.3.3.5.1.4)
abbrev pub highest_subaddress : ℕ
highest_subaddress = 30

-- the subaddress that wraps around: a transmit command there sends what was received there (Notice 2)
abbrev pub wrap_around : ℕ
wrap_around = 30

-- the highest subaddress that a host puts words up for: the one below that which wraps around (own choice)
abbrev pub highest_put_up : ℕ
highest_put_up = 29

-- a command to receive data words at a subaddress
abbrev pub is_receive : ℕ → Bool
is_receive command = not (is_mode command) && not (is_transmit command)

-- the bits of a status word (4.3.3.5.3.3 to 4.3.3.5.3.11)
abbrev pub has_message_error : ℕ → Bool
has_message_error status = has_bit 10 status

abbrev pub has_instrumentation : ℕ → Bool
has_instrumentation status = has_bit 9 status

abbrev pub has_service_request : ℕ → Bool
has_service_request status = has_bit 8 status

abbrev pub has_broadcast_received : ℕ → Bool
has_broadcast_received status = has_bit 4 status

abbrev pub has_busy : ℕ → Bool
has_busy status = has_bit 3 status

abbrev pub has_subsystem_flag : ℕ → Bool
has_subsystem_flag status = has_bit 2 status

abbrev pub has_control_acceptance : ℕ → Bool
has_control_acceptance status = has_bit 1 status

abbrev pub has_terminal_flag : ℕ → Bool
has_terminal_flag status = has_bit 0 status
