use Rattle.std.proofs.Common.{ℕ, ◌∙◌, ap, sym}
use Rattle.bench_select.specs.Selecting.{selects}
use Rattle.bench_signals.proofs.Counted.{counted_still}
use Rattle.bench_signals.proofs.counting.Counting.note_selected.Goals as goal

pub returns-then-chosen : goal.returns-then-chosen
returns-then-chosen c = λ history are from.
    c.note_message.ensures c.args.selection.now history are (ap (λ (n : ℕ). selects c.args.selection.now n c.args.channel c.args.view.now) (sym from) ∙ sym c.selects-chosen.ensures ∙ c.if-chosen.true)

pub returns-else-chosen : goal.returns-else-chosen
returns-else-chosen c = λ history are from.
    counted_still c.args.selection.now c.args.signals.now history (c.args.channel, c.args.view.now) c.args.self.now
    (ap (λ (n : ℕ). selects c.args.selection.now n c.args.channel c.args.view.now) (sym from) ∙ sym c.selects-chosen.ensures ∙ c.if-chosen.false) are
