-- The text of what the host of a controller has asked for (own choice): how many messages wait, and for each
-- destination with a source a line, with a word for each place up to the last that has one.
use Rattle.std.specs.Prelude.{ℕ, ◌==◌, if◌then◌else◌, List, [], ◌∷◌, ◌++◌, map, length, Option, Some, None, codes}
use Rattle.std.specs.Prelude.{decimal}
use Rattle.std.specs.List.{flat_map, range_with_len}
use Rattle.text_lines.specs.Words.{Text}
use Rattle.mil_host.specs.Printing.{data_text}
use Rattle.controller_host.specs.declared.destinations.Destination.{Destination}
use Rattle.controller_host.specs.declared.destinations.Destination.TheVariants.{Terminal, All, Mode, ModeToAll}
use Rattle.controller_host.specs.declared.sources.Source.{Source}
use Rattle.controller_host.specs.declared.sources.Source.TheVariants.{Word, Ramp}
use Rattle.controller_host.specs.Destinations.{most_words_to}
use Rattle.controller_text.specs.Printing.{destination_text}
use Rattle.bc_machine.specs.Hosting.{queue_at, source_at}
use Rattle.bc_machine.specs.MadeMessages.{MadeMessage}
use Rattle.bc_machine.specs.declared.placed.Placed.{Placed}

-- a word, or the next word of a ramp and what it grows by
abbrev pub source_text : Source → Text
source_text (Word word) = codes " " ++ data_text word
source_text (Ramp next add) = codes " " ++ (data_text next ++ (codes "+" ++ data_text add))

abbrev pub place_text : Option Source → Text
place_text None = codes " ...."
place_text (Some source) = source_text source

-- places up to the last that has a source
abbrev pub kept_in_front : Option Source → List (Option Source) → List (Option Source)
kept_in_front None [] = []
kept_in_front one rest = one ∷ rest

abbrev pub up_to_last : List (Option Source) → List (Option Source)
up_to_last [] = []
up_to_last (one ∷ rest) = kept_in_front one (up_to_last rest)

abbrev pub line_of : Destination → List (Option Source) → Text
line_of d [] = []
line_of d (one ∷ rest) =
    codes "controller " ++ (destination_text d ++ (flat_map place_text (one ∷ rest) ++ codes "\n"))

abbrev pub destination_line : (Destination → ℕ → Option Source) → Destination → Text
destination_line source d = line_of d (up_to_last (map (source d) (range_with_len 1 (most_words_to d))))

-- the mode codes with a data word that the controller sends
abbrev pub mode_codes : List ℕ
mode_codes = 17 ∷ range_with_len 20 12

-- all destinations, in the order in which they are shown
unfoldable pub all_destinations : List Destination
all_destinations =
    flat_map (λ address. map (λ sub. Terminal address sub) (range_with_len 1 30)) (range_with_len 0 31)
    ++ (map (λ sub. All sub) (range_with_len 1 30)
    ++ (flat_map (λ address. map (λ code. Mode address code) mode_codes) (range_with_len 0 31)
    ++ map (λ code. ModeToAll code) mode_codes))

unfoldable pub sources_text : (Destination → ℕ → Option Source) → Text
sources_text source = flat_map (destination_line source) all_destinations

abbrev pub controller_lines : ℕ → Text → Text
controller_lines queued [] = if queued == 0 then [] else (codes "controller queued " ++ (decimal queued ++ codes "\n"))
controller_lines queued lines = codes "controller queued " ++ (decimal queued ++ (codes "\n" ++ lines))

-- nothing where no message waits and no source is set
unfoldable pub controller_text : ℕ → (Destination → ℕ → Option Source) → Text
controller_text queued source = controller_lines queued (sources_text source)

-- behind these messages, where these actions were placed
abbrev pub controller_state : List Placed → List MadeMessage → Text
controller_state placed made = controller_text (length (queue_at (length made) placed made))
    (source_at (length made) placed made)
