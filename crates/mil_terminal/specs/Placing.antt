-- The lists of a block that hold the words put up and their ramps (inside the terminal).
use Rattle.std.specs.Prelude.{ℕ, ◌+◌, ◌%◌, ◌==◌, nat_lt, max, List, [], ◌∷◌, length, Option, Some, None, if◌then◌else◌}
use Rattle.std.specs.Prelude.{slice_index_or, slice_set}
use Rattle.std.proofs.Common.{zero, suc}
use Rattle.mil_terminal.specs.Replies.{exactly}
use Rattle.mil_terminal.specs.Slots.{put_up_slots, added_slots, ramp_slots}

-- words with one of them set, and zeros before it where there are fewer
abbrev pub with_place : List ℕ → ℕ → ℕ → List ℕ
with_place words place value = slice_set (exactly (max (length words) (suc place)) words) place value

-- a block with a word of one of its lists set
abbrev pub placed : List (List ℕ) → ℕ → ℕ → ℕ → List (List ℕ)
placed block slot place value = slice_set block slot (with_place (slice_index_or block slot []) place value)

-- words that stay are put up at a subaddress
abbrev pub with_words : List (List ℕ) → ℕ → List ℕ → List (List ℕ)
with_words block sub words =
    slice_set (slice_set (slice_set block (put_up_slots + sub) words) (added_slots + sub) []) (ramp_slots + sub) []

-- a ramp is put up at a place
abbrev pub with_ramp : List (List ℕ) → ℕ → ℕ → ℕ → ℕ → List (List ℕ)
with_ramp block sub place start add =
    placed (placed (placed block (put_up_slots + sub) place start) (added_slots + sub) place add)
    (ramp_slots + sub) place 1

-- what the ramp at a place adds, if there is one
abbrev pub ramp_in : List (List ℕ) → ℕ → ℕ → Option ℕ
ramp_in block sub place =
    if slice_index_or (slice_index_or block (ramp_slots + sub) []) place 0 == 1
    then Some (slice_index_or (slice_index_or block (added_slots + sub) []) place 0) else None

-- a word after a reply that carries it
abbrev pub stepped : Option ℕ → ℕ → ℕ
stepped None word = word
stepped (Some add) word = (word + add) % 65536

-- the words of a subaddress from a place on, after a reply with so many of them
abbrev pub carried_from : List (List ℕ) → ℕ → ℕ → ℕ → List ℕ → List ℕ
carried_from block sub count place [] = []
carried_from block sub count place (word ∷ words) =
    (if nat_lt place count then stepped (ramp_in block sub place) word else word)
    ∷ carried_from block sub count (place + 1) words

abbrev pub carried : List (List ℕ) → ℕ → ℕ → List (List ℕ)
carried block sub count = slice_set block (put_up_slots + sub)
    (carried_from block sub count 0 (slice_index_or block (put_up_slots + sub) []))
