use Rattle.std.proofs.Common.{◌≡◌, ℕ, ◌+◌, ◌-◌, ◌*◌, ◌≤◌, ◌<◌, Bool, true, false, cond, List, [], ◌∷◌, ◌++◌, length, refl, sym, ap, ◌∙◌, arith}
use Rattle.std.specs.Prelude.{codes, ◌||◌, Option, None, Some}
use Rattle.std.proofs.lemmas.Bool.{ne_eqb}
use Rattle.bench_decode.specs.Waiting.{Waiting, drawn_on}
use Rattle.bench_decode.proofs.Drawing.{drawing, on-none, on-text, rises}
use Rattle.bench_decode.specs.ReplyText.{front_parts}
use Rattle.ch11_layout.specs.Replies.{front_reply}
use Rattle.ch11_layout.specs.declared.view.Reply.{Reply}
use Rattle.bench_decode.proofs.replies.put_front.Goals as goal

pub returns-in-Some-clause-put : goal.returns-in-Some-clause-put
unfolding front_parts
returns-in-Some-clause-put c =
    let is : front_reply c.args.view.now ≡ Some c.in-Some.reply = sym c.front_reply.ensures ∙ c.in-Some.is in
    c.put_reply.ensures.put ∙ ap (λ (o : Option Reply). drawn_on c.args.line.now (front_parts o)) (sym is)

pub returns-in-None-clause-put : goal.returns-in-None-clause-put
unfolding front_parts
returns-in-None-clause-put c =
    let is : front_reply c.args.view.now ≡ None = sym c.front_reply.ensures ∙ c.in-None.is in
    sym (on-none c.args.line.now) ∙ ap (λ (o : Option Reply). drawn_on c.args.line.now (front_parts o)) (sym is)
