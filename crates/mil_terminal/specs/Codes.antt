-- The letters of a terminal's refusals (own choice).
use Rattle.std.specs.Prelude.{ℕ, List, codes}
use Rattle.mil_terminal.specs.declared.error.TerminalError.{TerminalError}
use Rattle.mil_terminal.specs.declared.error.TerminalError.TheVariants.{Address, Memory}

abbrev pub fault_code : TerminalError → List ℕ
fault_code Address = codes "Z1"
fault_code Memory = codes "Z2"
