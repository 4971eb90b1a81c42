-- What terminal 5 does on a bench, computed by the definitions.
use Rattle.std.specs.Prelude.{◌≡◌, ℕ, true, false, List, [], ◌∷◌, Option, Some, None, refl}
use Rattle.mil_word.specs.declared.Line.{Line}
use Rattle.mil_word.specs.declared.Line.TheVariants.{A, B}
use Rattle.mil_word.specs.Wave.{wave_of, number, digits, raw_of, word_of}
use Rattle.mil_word.specs.Words.{command_wave, data_wave}
use Rattle.mil_host.specs.declared.actions.Action.TheVariants.{Busy, Fault, Illegal, Transmit}
use Rattle.mil_terminal.specs.declared.events.Event.TheVariants.{Heard, Quiet, Host}
use Rattle.mil_terminal.specs.declared.replies.Reply.{Reply}
use Rattle.mil_terminal.specs.History.{History}
use Rattle.mil_terminal.specs.Windows.{latest_window, ended_by, ended}
use Rattle.mil_terminal.specs.PutUp.{words_put_up}
use Rattle.mil_terminal.specs.Registers.{received, received_from_all, sync_word, is_transmitter_on, is_flag_inhibited, last_command}
use Rattle.mil_terminal.specs.Status.{conditions, status}
use Rattle.mil_terminal.specs.Replies.{transmit_words, reply}

-- a command and data words on a line, one after the other, after a history
heard : Line → ℕ → List ℕ → History → History
heard line command words past = go words (Heard line (command_wave command) 65535 ∷ past)
  where
    go : List ℕ → History → History
    go [] past = past
    go (word ∷ words) past = go words (Heard line (data_wave word) 20 ∷ past)

-- the same, and then the line falls quiet
said : Line → ℕ → List ℕ → History → History
unfolding heard
said line command words past = Quiet line ∷ heard line command words past

answer : ℕ → List ℕ → Option Reply
answer gap words = Some (record { gap = gap; words = record { items = words } })

-- 2823 announces three words for subaddress 1
stores : History
stores = said A 0x2823 (1 ∷ 2 ∷ 3 ∷ []) []

stores-reply : reply 5 A (heard A 0x2823 (1 ∷ 2 ∷ 3 ∷ []) []) ≡ answer 80 (0x2800 ∷ [])
unfolding heard answer wave_of number digits raw_of word_of latest_window ended_by ended received is_transmitter_on is_flag_inhibited conditions status reply
stores-reply = refl

stores-received : received 5 1 stores ≡ 1 ∷ 2 ∷ 3 ∷ []
unfolding stores said heard wave_of number digits raw_of word_of latest_window ended_by ended received
stores-received = refl

-- one word more than is due, one less, and a gap inside: no answer
long-reply : reply 5 A (heard A 0x2823 (1 ∷ 2 ∷ 3 ∷ 4 ∷ []) []) ≡ None
unfolding heard wave_of number digits raw_of word_of latest_window ended_by ended is_transmitter_on is_flag_inhibited conditions status reply
long-reply = refl

short-reply : reply 5 A (heard A 0x2823 (1 ∷ 2 ∷ []) []) ≡ None
unfolding heard wave_of number digits raw_of word_of latest_window ended_by ended is_transmitter_on is_flag_inhibited conditions status reply
short-reply = refl

gap-reply : reply 5 A (Heard A (data_wave 3) 21 ∷ heard A 0x2823 (1 ∷ 2 ∷ []) []) ≡ None
unfolding heard wave_of number digits raw_of word_of latest_window ended_by ended is_transmitter_on is_flag_inhibited conditions status reply
gap-reply = refl

-- a command alone leaves a message error, and no reply
alone-status : status 5 (said A 0x2823 [] []) ≡ 0x2c00
unfolding said heard wave_of number digits raw_of word_of latest_window ended_by ended is_flag_inhibited conditions status
alone-status = refl

-- two words of two, with no words put up: zeros are sent
zeros-reply : reply 5 A (heard A 0x2c41 [] []) ≡ answer 80 (0x2800 ∷ 0 ∷ [])
unfolding heard answer wave_of number digits raw_of word_of latest_window ended_by ended transmit_words words_put_up is_transmitter_on is_flag_inhibited conditions status reply
zeros-reply = refl

-- a window on A that a command on B cuts short is bad; transmit status word tells so, and A has no window left
cut : History
cut = said B 0x2fe2 [] (heard A 0x2823 (1 ∷ []) [])

cut-reply : reply 5 B (heard B 0x2fe2 [] (heard A 0x2823 (1 ∷ []) [])) ≡ answer 80 (0x2c00 ∷ [])
unfolding heard answer wave_of number digits raw_of word_of latest_window ended_by ended is_transmitter_on is_flag_inhibited conditions status reply
cut-reply = refl

cut-quiet : reply 5 A cut ≡ None
unfolding cut said heard wave_of number digits raw_of word_of latest_window ended_by ended is_transmitter_on is_flag_inhibited conditions status reply
cut-quiet = refl

-- synchronize to all terminals: the next two questions tell of it, and the next command clears it
to_all : History
to_all = said A 0xffe1 [] []

to_all-question : reply 5 A (heard A 0x2fe2 [] (said A 0x2fe2 [] to_all)) ≡ answer 80 (0x2810 ∷ [])
unfolding to_all said heard answer wave_of number digits raw_of word_of latest_window ended_by ended is_transmitter_on is_flag_inhibited conditions status reply
to_all-question = refl

to_all-cleared : reply 5 A (heard A 0x2fe1 [] to_all) ≡ answer 80 (0x2800 ∷ [])
unfolding to_all said heard answer wave_of number digits raw_of word_of latest_window ended_by ended is_transmitter_on is_flag_inhibited conditions status reply
to_all-cleared = refl

-- a shutdown on A turns the transmitter of B off: what B brings is stored and not answered, until the override
shut : History
shut = said A 0x2fe4 [] []

shut-reply : reply 5 B (heard B 0x2821 (1 ∷ []) shut) ≡ None
unfolding shut said heard wave_of number digits raw_of word_of latest_window ended_by ended is_transmitter_on is_flag_inhibited conditions status reply
shut-reply = refl

shut-received : received 5 1 (said B 0x2821 (1 ∷ []) shut) ≡ 1 ∷ []
unfolding shut said heard wave_of number digits raw_of word_of latest_window ended_by ended received
shut-received = refl

shut-own_line : is_transmitter_on 5 A shut ≡ true
unfolding shut said heard wave_of number digits raw_of word_of latest_window ended_by ended is_transmitter_on
shut-own_line = refl

on_again-reply : reply 5 B (heard B 0x2821 (1 ∷ []) (said A 0x2fe5 [] shut)) ≡ answer 80 (0x2800 ∷ [])
unfolding shut said heard answer wave_of number digits raw_of word_of latest_window ended_by ended is_transmitter_on is_flag_inhibited conditions status reply
on_again-reply = refl

-- a fault whose flag is inhibited: at once by 6, and still at the reset (8), whose effect comes afterwards
inhibited : History
inhibited = Host (Fault true) ∷ []

inhibited-reply : reply 5 A (heard A 0x2fe6 [] inhibited) ≡ answer 80 (0x2800 ∷ [])
unfolding inhibited said heard answer wave_of number digits raw_of word_of latest_window ended_by ended is_transmitter_on is_flag_inhibited conditions status reply
inhibited-reply = refl

reset-reply : reply 5 A (heard A 0x2fe8 [] (said A 0x2fe6 [] inhibited)) ≡ answer 80 (0x2800 ∷ [])
unfolding inhibited said heard answer wave_of number digits raw_of word_of latest_window ended_by ended is_transmitter_on is_flag_inhibited conditions status reply
reset-reply = refl

after_reset-reply : reply 5 A (heard A 0x2fe1 [] (said A 0x2fe8 [] (said A 0x2fe6 [] inhibited))) ≡ answer 80 (0x2801 ∷ [])
unfolding inhibited said heard answer wave_of number digits raw_of word_of latest_window ended_by ended is_transmitter_on is_flag_inhibited conditions status reply
after_reset-reply = refl

-- a busy terminal sends its status alone, but tells the last command
busy : History
busy = Host (Busy true) ∷ []

busy-reply : reply 5 A (heard A 0x2c41 [] busy) ≡ answer 80 (0x2808 ∷ [])
unfolding busy heard answer wave_of number digits raw_of word_of latest_window ended_by ended is_transmitter_on is_flag_inhibited conditions status reply
busy-reply = refl

busy-last : reply 5 A (heard A 0x2ff2 [] (said A 0x2c41 [] busy)) ≡ answer 80 (0x2808 ∷ 0x2c41 ∷ [])
unfolding busy said heard answer wave_of number digits raw_of word_of latest_window ended_by ended last_command is_transmitter_on is_flag_inhibited conditions status reply
busy-last = refl

-- subaddress 30 sends what it received; what all terminals were sent is kept apart
wraps-reply : reply 5 A (heard A 0x2fc2 [] (said A 0x2bc2 (0xbeef ∷ 0xcafe ∷ []) [])) ≡ answer 80 (0x2800 ∷ 0xbeef ∷ 0xcafe ∷ [])
unfolding said heard answer wave_of number digits raw_of word_of latest_window ended_by ended received transmit_words words_put_up is_transmitter_on is_flag_inhibited conditions status reply
wraps-reply = refl

from_all-received : received_from_all 5 1 (said A 0xf821 (0xaa ∷ []) []) ≡ 0xaa ∷ []
unfolding said heard wave_of number digits raw_of word_of latest_window ended_by ended received_from_all
from_all-received = refl

from_all-apart : received 5 1 (said A 0xf821 (0xaa ∷ []) []) ≡ []
unfolding said heard wave_of number digits raw_of word_of latest_window ended_by ended received
from_all-apart = refl

-- the host marks four words for subaddress 3 as illegal
forbidden : History
forbidden = Host (Illegal (record { transmit = false; sub = 3; count = 4 })) ∷ []

forbidden-reply : reply 5 A (heard A 0x2864 (1 ∷ 2 ∷ 3 ∷ 4 ∷ []) forbidden) ≡ answer 80 (0x2c00 ∷ [])
unfolding forbidden heard answer wave_of number digits raw_of word_of latest_window ended_by ended is_transmitter_on is_flag_inhibited conditions status reply
forbidden-reply = refl

forbidden-received : received 5 3 (said A 0x2864 (1 ∷ 2 ∷ 3 ∷ 4 ∷ []) forbidden) ≡ []
unfolding forbidden said heard wave_of number digits raw_of word_of latest_window ended_by ended received
forbidden-received = refl

-- words that were put up are cut, or filled with zeros
put_up-reply : reply 5 A (heard A 0x2c43 [] (Host (Transmit (record { sub = 2; words = 0xaaaa ∷ 0x5555 ∷ [] })) ∷ [])) ≡ answer 80 (0x2800 ∷ 0xaaaa ∷ 0x5555 ∷ 0 ∷ [])
unfolding heard answer wave_of number digits raw_of word_of latest_window ended_by ended transmit_words words_put_up is_transmitter_on is_flag_inhibited conditions status reply
put_up-reply = refl

-- synchronize with data word: the word is kept
synced : sync_word 5 (said A 0x2bf1 (0x1234 ∷ []) []) ≡ 0x1234
unfolding said heard wave_of number digits raw_of word_of latest_window ended_by ended sync_word
synced = refl

-- 2821 and 3421: terminal 6 sends one word to terminal 5. Its status comes with this gap
transfer : ℕ → History
transfer gap = Heard A (data_wave 7) 20 ∷ Heard A (command_wave 0x3000) gap ∷ Quiet A ∷ Heard A (command_wave 0x3421) 20 ∷ heard A 0x2821 [] []

transfer-reply : reply 5 A (transfer 170) ≡ answer 80 (0x2800 ∷ [])
unfolding transfer heard answer wave_of number digits raw_of word_of latest_window ended_by ended is_transmitter_on is_flag_inhibited conditions status reply
transfer-reply = refl

late-reply : reply 5 A (transfer 171) ≡ None
unfolding transfer heard wave_of number digits raw_of word_of latest_window ended_by ended is_transmitter_on is_flag_inhibited conditions status reply
late-reply = refl
