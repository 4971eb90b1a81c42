-- Lists of at most as many words as a message has, in one flat list (inside the terminal).
use Rattle.std.specs.Prelude.{◌≡◌, ℕ, ◌+◌, ◌*◌, ◌≤◌, List, [], ◌∷◌, ◌++◌, length, take, drop, slice_index_or}
use Rattle.mil_word.specs.Fields.{field_values, most_words}

-- for each subaddress one list of the words received, one of those received from all, one of those put up, one of what
-- is added to each of these when a reply carries it, and one that has 1 where a ramp stands
abbrev pub slot_count : ℕ
slot_count = 5 * field_values

-- where the lists of a kind begin
abbrev pub put_up_slots : ℕ
put_up_slots = 2 * field_values

abbrev pub added_slots : ℕ
added_slots = 3 * field_values

abbrev pub ramp_slots : ℕ
ramp_slots = 4 * field_values

-- the lists with these counts, each in as many places as a message has words at most
abbrev pub slots : List ℕ → List ℕ → List (List ℕ)
slots [] words = []
slots (n ∷ counts) words = take n words ∷ slots counts (drop most_words words)

-- what is kept of a slot: its number and how many words it holds, in one head, and the words; of an empty one nothing
abbrev pub entry : ℕ → List ℕ → List ℕ
entry slot [] = []
entry slot (word ∷ words) = (64 * slot + length (word ∷ words)) ∷ word ∷ words

-- what is kept of slots, the first of which has this number
abbrev pub entries : ℕ → List (List ℕ) → List ℕ
entries slot [] = []
entries slot (words ∷ lists) = entry slot words ++ entries (slot + 1) lists

-- the words are what is kept of a block
pub record IsPacked (words : List ℕ) (lists : List (List ℕ)) : Type 0 where
  pub whole : words ≡ entries 0 lists
  pub long : length lists ≡ slot_count
  pub few : (slot : ℕ) → length (slice_index_or lists slot []) ≤ most_words
