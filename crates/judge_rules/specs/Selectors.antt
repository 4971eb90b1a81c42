-- The selector of a rule (own choice): a name, and behind it numbers or `*`.
use Rattle.std.specs.Prelude.{ℕ, List, [], ◌∷◌, drop, Ok, Err, Option, codes, if◌then◌else◌}
use Rattle.std.specs.Str.{bytes_eq}
use Rattle.text_lines.specs.Words.{Text, words}
use Rattle.mil_mode.specs.Codes.{last_code}
use Rattle.mil_word.specs.Fields.{highest_address, highest_subaddress}
use Rattle.judge_rules.specs.declared.fault.RuleFault.TheVariants.{Word}
use Rattle.judge_rules.specs.declared.rules.Selector.{Selector}
use Rattle.judge_rules.specs.declared.rules.Selector.TheVariants.{Any, Receive, Transmit, Between, Mode, ReceiveAll}
use Rattle.judge_rules.specs.declared.rules.Selector.TheVariants.{BetweenAll, ModeAll}
use Rattle.judge_rules.specs.Faults.{Read, both, made, ended}
use Rattle.judge_rules.specs.Values.{choice_in}

-- the address of a terminal, a subaddress that is none of mode commands, and a mode code (4.3.3.5.1)
abbrev pub address_in : List Text → Read (Option ℕ)
address_in rest = choice_in 0 highest_address rest

abbrev pub subaddress_in : List Text → Read (Option ℕ)
subaddress_in rest = choice_in 1 highest_subaddress rest

abbrev pub code_in : List Text → Read (Option ℕ)
code_in rest = choice_in 0 last_code rest

-- an end of a transfer
abbrev pub end_in : List Text → Read (Option ℕ × Option ℕ)
end_in rest = both (address_in rest) (subaddress_in (drop 1 rest))

abbrev pub receive_in : List Text → Read Selector
receive_in rest = made (λ (address, subaddress). Receive address subaddress) (end_in rest)

abbrev pub transmit_in : List Text → Read Selector
transmit_in rest = made (λ (address, subaddress). Transmit address subaddress) (end_in rest)

-- the sender is named first
unfoldable pub between_in : List Text → Read Selector
between_in rest =
    made (λ (from, to). Between from.0 from.1 to.0 to.1) (both (end_in rest) (end_in (drop 2 rest)))

abbrev pub mode_in : List Text → Read Selector
mode_in rest = made (λ (address, code). Mode address code) (both (address_in rest) (code_in (drop 1 rest)))

abbrev pub receive_all_in : List Text → Read Selector
receive_all_in rest = made ReceiveAll (subaddress_in rest)

abbrev pub between_all_in : List Text → Read Selector
between_all_in rest =
    made (λ (from, to). BetweenAll from.0 from.1 to) (both (end_in rest) (subaddress_in (drop 2 rest)))

abbrev pub mode_all_in : List Text → Read Selector
mode_all_in rest = made ModeAll (code_in rest)

-- what follows the numbers of two ends
unfoldable pub behind_ends : List Text → List Text
behind_ends rest = drop 2 (drop 2 rest)

abbrev pub selector_named : Text → List Text → Read Selector
selector_named name rest =
    if bytes_eq name (codes "any") then Ok Any
    else if bytes_eq name (codes "rx") then receive_in rest
    else if bytes_eq name (codes "tx") then transmit_in rest
    else if bytes_eq name (codes "rt") then between_in rest
    else if bytes_eq name (codes "mode") then mode_in rest
    else if bytes_eq name (codes "brx") then receive_all_in rest
    else if bytes_eq name (codes "brt") then between_all_in rest
    else if bytes_eq name (codes "bmode") then mode_all_in rest
    else Err Word

abbrev pub selector_in : List Text → Read Selector
selector_in [] = Err Word
selector_in (name ∷ rest) = selector_named name rest

-- what follows the numbers behind a name
abbrev pub behind_name : Text → List Text → List Text
behind_name name rest =
    if bytes_eq name (codes "any") then rest
    else if bytes_eq name (codes "rx") then drop 2 rest
    else if bytes_eq name (codes "tx") then drop 2 rest
    else if bytes_eq name (codes "rt") then behind_ends rest
    else if bytes_eq name (codes "mode") then drop 2 rest
    else if bytes_eq name (codes "brx") then drop 1 rest
    else if bytes_eq name (codes "brt") then drop 3 rest
    else if bytes_eq name (codes "bmode") then drop 1 rest
    else rest

abbrev pub behind_selector : List Text → List Text
behind_selector [] = []
behind_selector (name ∷ rest) = behind_name name rest

-- the selector that a text spells, where it is all that the text says
abbrev pub selector_of : Text → Read Selector
selector_of text = ended (selector_in (words text)) (behind_selector (words text))
