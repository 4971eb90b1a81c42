use Rattle.std.proofs.Common.{◌≡◌, ◌++◌, string_bytes}
use Rattle.frame_text.specs.Printing.{indent}
use Rattle.frame_text.proofs.printed_frames.put_indent.Given as goal

abbrev pub invariant-loop : goal.invariant-loop
invariant-loop l = string_bytes l.out ≡ string_bytes l.initial.out ++ indent l.counter
