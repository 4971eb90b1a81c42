use Rattle.std.proofs.Common.{sym, ap, ◌∙◌, arith}
use Rattle.mil_word.specs.Wave.{word_of}
use Rattle.mil_word.specs.Words.{command_in}
use Rattle.mil_terminal.proofs.Runs.{word-small, value_none}
use Rattle.mil_terminal.proofs.pending.Pending.follow_value.Goals as goal

pub of-requires : goal.of-requires
of-requires c = sym (ap word_of c.encode.ensures ∙ word-small c.args.value (omega arith))

pub follow_data-requires : goal.follow_data-requires
follow_data-requires c = ap command_in (c.of.ensures ∙ c.encode.ensures) ∙ value_none c.args.value (omega arith)
