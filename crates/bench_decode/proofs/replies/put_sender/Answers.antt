use Rattle.std.proofs.Common.{◌≡◌, ℕ, ◌+◌, ◌-◌, ◌*◌, ◌≤◌, ◌<◌, Bool, true, false, cond, List, [], ◌∷◌, ◌++◌, length, refl, sym, ap, ◌∙◌, arith}
use Rattle.std.specs.Prelude.{codes, ◌||◌, Option, None, Some}
use Rattle.std.proofs.lemmas.Bool.{ne_eqb}
use Rattle.bench_decode.specs.Waiting.{Waiting, drawn_on}
use Rattle.bench_decode.proofs.Drawing.{drawing, on-none, on-text, rises}
use Rattle.bench_decode.specs.ReplyText.{is_due, sender_parts}
use Rattle.bench_decode.specs.Columns.{Part, text, begin_red, end_red}
use Rattle.std.specs.Prelude.{decimal}
use Rattle.mil_word.specs.Fields.{address_of}
use Rattle.bench_decode.proofs.replies.put_sender.Goals as goal

pub returns-then-is_due-clause-put : goal.returns-then-is_due-clause-put
unfolding sender_parts
returns-then-is_due-clause-put c =
    let is : is_due c.args.reply ≡ true = sym c.is_due.ensures ∙ c.if-is_due.true in
    sym (on-none c.args.line.now) ∙ ap (λ (b : Bool). drawn_on c.args.line.now (cond b [] (text (codes " from " ++ decimal (address_of c.args.reply.status)) ∷ []))) (sym is)

pub returns-clause-put : goal.returns-clause-put
unfolding sender_parts
returns-clause-put c =
    let is : is_due c.args.reply ≡ false = sym c.is_due.ensures ∙ c.if-is_due.false in
    let sender : c.address.result ≡ address_of c.args.reply.status = omega arith in
    let whole : c.put_labelled.new.self ≡ drawn_on c.args.line.now (text (codes " from " ++ decimal (address_of c.args.reply.status)) ∷ []) = rw (c.put_labelled.ensures.put, c.from.ensures, sender) (simp drawing) in
    whole ∙ ap (λ (b : Bool). drawn_on c.args.line.now (cond b [] (text (codes " from " ++ decimal (address_of c.args.reply.status)) ∷ []))) (sym is)
