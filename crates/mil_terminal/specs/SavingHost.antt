-- What is kept of the host's settings, and of what few terminals have (inside the terminal).
use Rattle.std.specs.Prelude.{◌*◌, Option, Some, None, Box, replicate}
use Rattle.mil_word.specs.Fields.{field_values}
use Rattle.mil_terminal.specs.declared.marks.Marks.{Marks}
use Rattle.mil_terminal.specs.declared.host.Settings.{Settings}
use Rattle.mil_terminal.specs.declared.pending.Pending.{Pending}
use Rattle.mil_terminal.specs.declared.saved_registers.Rare.{Rare}
use Rattle.mil_terminal.specs.declared.saved_registers.SavedSettings.{SavedSettings}

-- no marks are kept where none is set
abbrev pub kept_marks : {A : Type 0} → Option (Box Marks A) → Marks
kept_marks None = record { rows = replicate (2 * field_values) 0 }
kept_marks (Some b) = b.value

-- nothing is kept where there is neither a window nor a mark
abbrev pub window_kept : {A : Type 0} → Option (Box Rare A) → Option Pending
window_kept None = None
window_kept (Some b) = b.value.window

abbrev pub marks_kept : {A : Type 0} → Option (Box Rare A) → Marks
marks_kept None = record { rows = replicate (2 * field_values) 0 }
marks_kept (Some b) = kept_marks b.value.marks

abbrev pub settings_kept : SavedSettings → Marks → Settings
settings_kept s marks = record {
  busy = s.busy;
  service = s.service;
  subsystem = s.subsystem;
  fault = s.fault;
  control = s.control;
  vector = s.vector;
  self_test = s.self_test;
  response = s.response;
  marks = marks;
  bit = s.bit;
  by_gap = s.by_gap;
  once = s.once;
  broadcast = s.broadcast;
  off = s.off;
  deaf = s.deaf;
  mute = s.mute;
}
