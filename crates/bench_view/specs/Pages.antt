-- The page of the chosen messages of a recording (own choice). What stands before and behind its data is the same on
-- all pages.
use Rattle.std.specs.Prelude.{◌≡◌, ◌≤◌, ◌<◌, ◌⊎◌, ℕ, ◌+◌, List, [], ◌∷◌, ◌++◌, length, take, codes, decimal}
use Rattle.signal_dictionary.specs.declared.signals.Signal.{Signal}
use Rattle.bench_decode.specs.ByTime.{Told}
use Rattle.bench_view.specs.Lines.{lines_text}

-- the most messages of a page, and the most bytes of their lines
abbrev pub most_messages : ℕ
most_messages = 200000

abbrev pub most_bytes : ℕ
most_bytes = 38000000

-- so many of the first of these messages are as many as a page has room for: all, or with one more they would be too
-- many or too long
pub record IsRoomFor (signals : List Signal) (messages : List Told) (count : ℕ) : Type 0 where
  pub within : count ≤ length messages
  pub few : count ≤ most_messages
  pub short : length (lines_text signals (take count messages)) ≤ most_bytes
  pub most : count < length messages
      → (count ≡ most_messages) ⊎ (most_bytes < length (lines_text signals (take (count + 1) messages)))

-- how many messages are on the page, and how many were chosen
abbrev pub end_text : ℕ → ℕ → List ℕ
end_text count all = codes "#end " ++ (decimal count ++ (32 ∷ (decimal all ++ 10 ∷ [])))

-- a text is the page of these messages: behind what stands in front of its data their lines in this order, as many as
-- there is room for, their numbers, some notes on the recording, and what stands behind its data
pub record IsPage (front behind : List ℕ) (signals : List Signal) (messages : List Told) (text : List ℕ) : Type 0 where
  pub count : ℕ
  pub notes : List ℕ
  pub room : IsRoomFor signals messages count
  pub is : text ≡ front ++ (lines_text signals (take count messages)
      ++ (end_text count (length messages) ++ (notes ++ behind)))
