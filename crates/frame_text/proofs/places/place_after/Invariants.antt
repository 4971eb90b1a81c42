use Rattle.std.proofs.Common.{◌≡◌, ◌+◌, ◌≤◌, take}
use Rattle.std.specs.List.{count_by}
use Rattle.text_lines.specs.Lines.{is_line_end}
use Rattle.frame_text.specs.Places.{since_line_end}
use Rattle.frame_text.proofs.places.place_after.Given as goal

abbrev pub invariant-loop-b : goal.invariant-loop-b
invariant-loop-b l = record {
  line : l.line ≡ 1 + count_by is_line_end (take l.b-index l.before);
  column : l.column ≡ 1 + since_line_end (take l.b-index l.before);
  few_lines : l.line ≤ 1 + l.b-index;
  few_columns : l.column ≤ 1 + l.b-index;
}
