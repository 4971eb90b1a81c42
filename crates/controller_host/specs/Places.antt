-- The order of all places that a source may stand at: subaddresses of terminals by address and subaddress, those of all
-- terminals, mode codes to terminals by address and code, and mode codes to all (own choice).
use Rattle.std.specs.Prelude.{ℕ, ◌+◌, ◌*◌, ◌-◌}
use Rattle.controller_host.specs.declared.destinations.Destination.{Destination}
use Rattle.controller_host.specs.declared.destinations.Destination.TheVariants.{Terminal, All, Mode, ModeToAll}

-- 31 terminals and all of them together, with 30 subaddresses of 32 places and 13 mode codes of one
abbrev pub all_places : ℕ
all_places = 31136

-- code 17 comes first, then 20 to 31
abbrev pub code_order : ℕ → ℕ
code_order code = code - 19

unfoldable pub order_of : Destination → ℕ → ℕ
order_of (Terminal address subaddress) place = (30 * address + (subaddress - 1)) * 32 + (place - 1)
order_of (All subaddress) place = (930 + (subaddress - 1)) * 32 + (place - 1)
order_of (Mode address code) place = 30720 + 13 * address + code_order code
order_of (ModeToAll code) place = 31123 + code_order code
