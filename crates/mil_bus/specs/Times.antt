-- When a talk ends, and how. Times are ticks of 0.1 µs (MIL-STD-1553B 4.3.3.4, 4.3.3.7; own choice where a talk has no
-- word).
use Rattle.std.specs.Prelude.{ℕ, ◌+◌, ◌==◌, Bool, true, List, [], ◌∷◌}
use Rattle.std.proofs.Common.{zero, suc}
use Rattle.mil_word.specs.Timing.{word_time, sync_to_parity}
use Rattle.mil_bus.specs.declared.talks.Sent.{Sent}
use Rattle.mil_bus.specs.declared.talks.Talk.{Talk}

-- from the end of the word before to the end of a word, whose gap ends in the middle of its sync; the first of a talk
-- starts with the talk
abbrev pub lasting : ℕ → ℕ → ℕ
lasting zero gap = word_time
lasting (suc place) gap = gap + sync_to_parity

-- when words end, from a place on, where the one before ended at a tick
abbrev pub end_from : ℕ → ℕ → List Sent → ℕ
end_from place tick [] = tick
end_from place tick (w ∷ ws) = end_from (suc place) (tick + lasting place w.gap) ws

abbrev pub end_of : Talk → ℕ
end_of t = end_from 0 t.start t.sent.items

-- whether the last word is the controller's, and where there is none this
abbrev pub is_last_or : Bool → List Sent → Bool
is_last_or last [] = last
is_last_or last (w ∷ ws) = is_last_or (w.run == 0) ws

abbrev pub is_controllers_last : List Sent → Bool
is_controllers_last sent = is_last_or true sent
