-- The text of what the host of a controller asks for: its words with single spaces between them (own choice).
use Rattle.std.specs.Prelude.{◌==◌, List, [], ◌∷◌, ◌++◌, map, codes, decimal, if◌then◌else◌}
use Rattle.text_lines.specs.Words.{Text}
use Rattle.mil_host.specs.Printing.{data_text, spaced}
use Rattle.frame_text.specs.PrintedMessages.{line_and_message_text}
use Rattle.controller_host.specs.declared.destinations.Destination.{Destination}
use Rattle.controller_host.specs.declared.destinations.Destination.TheVariants.{Terminal, All, Mode, ModeToAll}
use Rattle.controller_host.specs.declared.controls.Control.{Control}
use Rattle.controller_host.specs.declared.controls.Control.TheVariants.{Data, Ramp, Insert}
use Rattle.controller_host.specs.Values.{InsertionValue}

abbrev pub destination_words : Destination → List Text
destination_words (Terminal address subaddress) = codes "rx" ∷ decimal address ∷ decimal subaddress ∷ []
destination_words (All subaddress) = codes "brx" ∷ decimal subaddress ∷ []
destination_words (Mode address code) = codes "mode" ∷ decimal address ∷ decimal code ∷ []
destination_words (ModeToAll code) = codes "bmode" ∷ decimal code ∷ []

abbrev pub destination_text : Destination → Text
destination_text d = spaced (destination_words d)

-- without `at` where the message is not held back
abbrev pub insertion_words : InsertionValue → List Text
insertion_words x =
    if x.tick == 0 then (codes "insert" ∷ line_and_message_text x.line x.message ∷ [])
    else (codes "insert" ∷ codes "at" ∷ decimal x.tick ∷ line_and_message_text x.line x.message ∷ [])

abbrev pub insertion_text : InsertionValue → Text
insertion_text x = spaced (insertion_words x)

abbrev pub control_words : Control → List Text
control_words (Data new) = codes "data" ∷ destination_words new.destination ++ map data_text new.words
control_words (Ramp ramp) =
    codes "ramp" ∷ destination_words ramp.destination ++ decimal ramp.place ∷ data_text ramp.start ∷ data_text ramp.add
    ∷ []
control_words (Insert insertion) = insertion_words insertion

-- the text of what the host asks for
unfoldable pub control_text : Control → Text
control_text control = spaced (control_words control)
