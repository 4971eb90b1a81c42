use Rattle.std.proofs.Common.{Err, length, ap, sym, ◌∙◌}
use Rattle.frame_text.specs.Tokens.{tokens}
use Rattle.frame_text.proofs.Scripts.{fails_with, no_label}
use Rattle.frame_text.proofs.frames.label.Goals as goal

pub returns-in-None-clause-tree : goal.returns-in-None-clause-tree
returns-in-None-clause-tree c =
    fails_with c.fault.result c.misplaced.result (tokens c.args.text.now) _ c.fault.ensures.is (no_label c.in_ok-word.word.now _ _ c.in_ok-word.ensures.tokens (sym c.in-None.is ∙ c.new.ensures) ∙ ap (λ m. Err (m, length (tokens c.args.text.now))) (sym c.misplaced.ensures))
