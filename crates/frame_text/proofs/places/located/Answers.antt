use Rattle.std.proofs.Common.{◌++◌, ◌-◌, length, drop, sym, ap, ◌∙◌, append_assoc}
use Rattle.std.proofs.lemmas.List.{take-append-drop}
use Rattle.frame_text.proofs.places.located.Goals as goal

pub returns-in-Memory-clause-inside : goal.returns-in-Memory-clause-inside
returns-in-Memory-clause-inside c =
    let n = length c.args.text.now - c.in-Memory.left in
    let behind = c.before_last_token.ensures in (
      c.before_last_token.result.now,
      behind.0 ++ drop n c.args.text.now,
      sym (take-append-drop n c.args.text.now) ∙ ap (λ xs. xs ++ drop n c.args.text.now) (sym c.without_last.ensures ∙ behind.1) ∙ append_assoc c.before_last_token.result.now behind.0 (drop n c.args.text.now),
      c.place_after.ensures,
    )
