-- The text of the data words that a terminal holds at a subaddress (own choice): those that it received, those that it
-- received with all other terminals (MIL-STD-1553B Notice 2 keeps them apart), and those that it would transmit.
use Rattle.std.specs.Prelude.{ℕ, Bool, ◌&&◌, ◌==◌, nat_le, if◌then◌else◌, List, [], ◌∷◌, ◌++◌, codes, decimal}
use Rattle.std.specs.List.{flat_map}
use Rattle.text_lines.specs.Words.{Text}
use Rattle.mil_host.specs.Printing.{spaced_data}
use Rattle.mil_word.specs.Fields.{highest_subaddress}
use Rattle.mil_terminal.specs.Station.{Station}
use Rattle.mil_terminal.specs.Registers.{received, received_from_all}
use Rattle.mil_terminal.specs.Replies.{transmit_words}

-- words, each behind a space
abbrev pub all_words : List ℕ → Text
all_words words = flat_map spaced_data words

-- a dash where there is none
abbrev pub words_text : List ℕ → Text
words_text [] = codes " -"
words_text (w ∷ ws) = all_words (w ∷ ws)

-- a terminal, a subaddress, and what is told of it
abbrev pub data_line : ℕ → ℕ → Text → List ℕ → Text
data_line address subaddress name words =
    (codes "terminal " ++ (decimal address ++ (codes " subaddress " ++ (decimal subaddress ++ name))))
    ++ (words_text words ++ codes "\n")

-- the three lines of a terminal and a subaddress
unfoldable pub data_lines : ℕ → Station → Text
data_lines subaddress s =
    data_line s.own subaddress (codes " received") (received s.own subaddress s.history)
    ++ (data_line s.own subaddress (codes " received from all") (received_from_all s.own subaddress s.history)
    ++ data_line s.own subaddress (codes " to transmit") (transmit_words s.own subaddress s.history))

-- the subaddresses of data words (MIL-STD-1553B 4.3.3.5.1.4)
abbrev pub has_data : ℕ → Bool
has_data subaddress = nat_le 1 subaddress && nat_le subaddress highest_subaddress

-- they are shown of the terminal at the address alone
abbrev pub data_shown : ℕ → ℕ → Station → Text
data_shown address subaddress s = if s.own == address && has_data subaddress then data_lines subaddress s else []
