use Rattle.std.proofs.Common.{◌-◌, ◌≤◌, length, sym, ◌∙◌, arith}
use Rattle.mil_terminal.specs.Verdicts.{words_due}
use Rattle.mil_terminal.proofs.Runs.{may_either, values_taken}
use Rattle.mil_terminal.proofs.SlotLemmas.{where_ok}
use Rattle.mil_terminal.proofs.pending.Pending.take_values.Goals as goal

pub returns-then-not-is_empty : goal.returns-then-not-is_empty
returns-then-not-is_empty c =
    let window = c.args.self.now in
    let values = c.args.values.now in
    let few : length values ≤ words_due window.command - length window.words.items =
    omega (arith, c.if-values-room.true, c.saturating_sub-room.ensures, c.words_due.ensures.value, c.len.ensures.value) in
    let room = c.try_extend_from_slice.ensures.variant.1 (omega (arith, few, c.words_due.ensures.few, c.words_due.ensures.value, c.len.ensures.value)) in
    values_taken c.args.own window c.args.gap values c.try_extend_from_slice.new.self.items (may_either window.phase c.in-Start.is) c.requires (sym c.is_contiguous.ensures ∙ c.if-is_contiguous.true) (sym c.is_empty.ensures ∙ c.if-not-is_empty.true) few (where_ok c.try_extend_from_slice.result _ room c.try_extend_from_slice.ensures.ok)
