-- The text of the ramps of a terminal (own choice): a line for each subaddress that has one, with the place of each,
-- its word in the next reply, and what is added.
use Rattle.std.specs.Prelude.{ℕ, ◌+◌, Bool, true, false, not, [], ◌∷◌, ◌++◌, Option, Some, None, codes}
use Rattle.std.specs.Prelude.{decimal, slice_index_or}
use Rattle.std.proofs.Common.{zero, suc}
use Rattle.text_lines.specs.Words.{Text}
use Rattle.mil_host.specs.Printing.{data_text}
use Rattle.mil_word.specs.Fields.{most_words, highest_put_up}
use Rattle.mil_terminal.specs.Station.{Station}
use Rattle.mil_terminal.specs.PutUp.{ramp_at}
use Rattle.mil_terminal.specs.Replies.{transmit_words}
use Rattle.bench_state.specs.Marks.{name_if, end_if}

-- the place of a ramp, counted from 1, its next word, and what it adds
abbrev pub ramp_text : ℕ → ℕ → ℕ → Text
ramp_text place next add =
    codes " " ++ (decimal (place + 1) ++ (codes " " ++ (data_text next ++ (codes " " ++ data_text add))))

abbrev pub place_text : Station → ℕ → ℕ → Option ℕ → Text
place_text s subaddress place None = []
place_text s subaddress place (Some add) =
    ramp_text place (slice_index_or (transmit_words s.own subaddress s.history) place 0) add

-- the ramps at the places below one
abbrev pub ramps_below : Station → ℕ → ℕ → Text
ramps_below s subaddress zero = []
ramps_below s subaddress (suc place) =
    ramps_below s subaddress place ++ place_text s subaddress place (ramp_at subaddress place s.history)

-- what stands in front of the first
abbrev pub ramps_head : ℕ → ℕ → Text
ramps_head own subaddress =
    codes "terminal " ++ (decimal own ++ (codes " subaddress " ++ (decimal subaddress ++ codes " ramps")))

abbrev pub is_begun : Text → Bool
is_begun [] = false
is_begun (c ∷ text) = true

-- ramps, behind others or as the first
abbrev pub shown : Bool → ℕ → ℕ → Text → Text
shown begun own subaddress [] = []
shown begun own subaddress (c ∷ text) = name_if (not begun) (ramps_head own subaddress) ++ (c ∷ text)

-- the line of a subaddress, if it has ramps
unfoldable pub ramps_line : Station → ℕ → Text
ramps_line s subaddress =
    shown false s.own subaddress (ramps_below s subaddress most_words)
    ++ end_if (is_begun (ramps_below s subaddress most_words))

-- the lines of the subaddresses from 1 on, so many
abbrev pub ramp_lines_of : Station → ℕ → Text
ramp_lines_of s zero = []
ramp_lines_of s (suc count) = ramp_lines_of s count ++ ramps_line s (suc count)

unfoldable pub ramp_lines : Station → Text
ramp_lines s = ramp_lines_of s highest_put_up
