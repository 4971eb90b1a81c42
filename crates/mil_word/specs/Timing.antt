-- How long words last and how long is waited for them, in ticks of 0.1 µs. A gap runs from the middle of a word's
-- parity bit to the middle of the next word's sync (MIL-STD-1553B 4.3.3.7).
use Rattle.std.specs.Prelude.{ℕ}

-- a word: 20 bit times of 1 µs (4.3.3.4)
abbrev pub word_time : ℕ
word_time = 200

-- from the middle of a word's sync to the middle of its parity bit
abbrev pub sync_to_parity : ℕ
sync_to_parity = 180

-- the gap of contiguous words, with no pause between them
abbrev pub contiguous_gap : ℕ
contiguous_gap = 20

-- the least gap between messages (4.3.3.7)
abbrev pub least_gap : ℕ
least_gap = 40

-- the least gap behind a message that failed or ended with a word of the controller (own choice)
abbrev pub longer_gap : ℕ
longer_gap = 180

-- the gap of a terminal's reply, at least and at most (4.3.3.8)
abbrev pub least_response : ℕ
least_response = 40

abbrev pub latest_response : ℕ
latest_response = 120

-- how long the controller waits for a reply: the least time-out that is allowed (4.3.3.9; own choice of the least)
abbrev pub response_time_out : ℕ
response_time_out = 140

-- how long the receiver of a transfer waits for its first data word, from the middle of its own command's parity bit to
-- the middle of that word's sync (own choice, of the limit and of both points)
abbrev pub transfer_time_out : ℕ
transfer_time_out = 570
