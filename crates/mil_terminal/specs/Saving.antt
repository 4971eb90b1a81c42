-- What is kept of a terminal, as its registers (inside the terminal).
use Rattle.mil_terminal.specs.SavingHost.{marks_kept, window_kept, settings_kept}
use Rattle.mil_terminal.specs.declared.registers.Registers.{Registers}
use Rattle.mil_terminal.specs.declared.saved_registers.SavedRegisters.TheInside.{Inside}

abbrev pub registers_kept : Inside → Registers
registers_kept s = record {
  own = s.own;
  window = window_kept s.rare;
  host = settings_kept s.host (marks_kept s.rare);
  conditions = s.conditions;
  switches = s.switches;
  synced = s.synced;
  last_command = s.last_command;
  block = s.block;
}
