-- What the host of a terminal has set on or off (own choice), by the terminal's own definitions.
use Rattle.std.specs.Prelude.{ℕ, Bool, true, false, not, ◌||◌, if◌then◌else◌, List, [], ◌∷◌, ◌++◌, Option, Some, None}
use Rattle.std.specs.Prelude.{codes, decimal}
use Rattle.std.proofs.Common.{zero, suc}
use Rattle.text_lines.specs.Words.{Text}
use Rattle.mil_word.specs.Fields.{field_values}
use Rattle.mil_host.specs.Printing.{mode_mark_words, spaced}
use Rattle.mil_host.specs.Values.{ModeMarked}
use Rattle.mil_terminal.specs.Station.{Station}
use Rattle.mil_terminal.specs.Host.{is_busy, has_subsystem_fault, has_fault, accepts_control, is_off, takes_broadcast}
use Rattle.mil_terminal.specs.Host.{set_gap, is_mode_marked}
use Rattle.mil_terminal.specs.Service.{requests_service, waits_once}

abbrev pub name_if : Bool → Text → Text
name_if on name = if on then name else []

abbrev pub is_any_on : Station → Bool
is_any_on s = is_busy s.history || requests_service s.own s.history || has_subsystem_fault s.history
    || has_fault s.history || accepts_control s.history

-- the line of a terminal's marks, each by the word of the action that sets it, and a dash where nothing is on
unfoldable pub marks_line : Station → Text
marks_line s =
    codes "terminal " ++ (decimal s.own
    ++ (codes " marks" ++ (name_if (not (is_any_on s)) (codes " -")
    ++ (name_if (is_busy s.history) (codes " busy")
    ++ (name_if (requests_service s.own s.history) (codes " service")
    ++ (name_if (has_subsystem_fault s.history) (codes " subsystem")
    ++ (name_if (has_fault s.history) (codes " fault")
    ++ (name_if (accepts_control s.history) (codes " control") ++ codes "\n"))))))))

-- ---- what is not as at first, each by the action that sets it

abbrev pub part_if : Bool → Text → List Text
part_if on text = if on then text ∷ [] else []

abbrev pub gap_part : Option ℕ → List Text
gap_part None = []
gap_part (Some ticks) = (codes "gap " ++ decimal ticks) ∷ []

abbrev pub mark_text : ModeMarked → Text
mark_text mark = codes "illegal " ++ spaced (mode_mark_words mark)

abbrev pub mode_part : Station → Bool → ℕ → List Text
mode_part s transmit code = part_if (is_mode_marked transmit code s.history)
    (mark_text (record { transmit = transmit; code = code }))

-- the marks of the mode codes below one
abbrev pub modes_below : Station → Bool → ℕ → List Text
modes_below s transmit zero = []
modes_below s transmit (suc code) = modes_below s transmit code ++ mode_part s transmit code

unfoldable pub host_parts : Station → List Text
host_parts s =
    part_if (is_off s.history) (codes "power off")
    ++ (part_if (not (takes_broadcast s.history)) (codes "broadcast off")
    ++ (part_if (waits_once s.own s.history) (codes "service once")
    ++ (gap_part (set_gap s.history)
    ++ (modes_below s true field_values ++ modes_below s false field_values))))

-- what stands in front of a text: the terminal, or a comma where others stand before it
abbrev pub lead : Bool → ℕ → Text
lead begun address = if begun then codes ", " else codes "terminal " ++ (decimal address ++ codes " host ")

abbrev pub listed : Bool → ℕ → List Text → Text
listed begun address [] = []
listed begun address (part ∷ parts) = (lead begun address ++ part) ++ listed true address parts

abbrev pub is_some_part : List Text → Bool
is_some_part [] = false
is_some_part (part ∷ parts) = true

abbrev pub end_if : Bool → Text
end_if begun = name_if begun (codes "\n")

-- the line of what is not as at first, if anything is
unfoldable pub kinds_line : Station → Text
kinds_line s = listed false s.own (host_parts s) ++ end_if (is_some_part (host_parts s))
