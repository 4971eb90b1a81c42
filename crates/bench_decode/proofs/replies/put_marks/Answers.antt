use Rattle.std.proofs.Common.{◌≡◌, ℕ, ◌+◌, ◌-◌, ◌*◌, ◌≤◌, ◌<◌, Bool, true, false, cond, List, [], ◌∷◌, ◌++◌, length, refl, sym, ap, ◌∙◌, arith}
use Rattle.std.specs.Prelude.{codes, ◌||◌, Option, None, Some}
use Rattle.std.proofs.lemmas.Bool.{ne_eqb}
use Rattle.bench_decode.specs.Waiting.{Waiting, drawn_on}
use Rattle.bench_decode.proofs.Drawing.{drawing, on-none, on-text, rises}
use Rattle.bench_decode.specs.ReplyText.{is_plain, mark_parts}
use Rattle.bench_decode.specs.Columns.{Part, text, begin_red, end_red}
use Rattle.bench_decode.specs.ReplyText.{sender_parts}
use Rattle.bench_decode.specs.BitText.{status_names}
use Rattle.bench_decode.proofs.replies.put_marks.Goals as goal

pub returns-then-is_plain-clause-put : goal.returns-then-is_plain-clause-put
unfolding mark_parts
returns-then-is_plain-clause-put c =
    let is : is_plain c.args.reply ≡ true = sym c.is_plain.ensures ∙ c.if-is_plain.true in
    sym (on-none c.args.line.now) ∙ ap (λ (b : Bool). drawn_on c.args.line.now (cond b [] (begin_red ∷ (sender_parts c.args.reply ++ (status_names c.args.reply.status ++ end_red ∷ []))))) (sym is)

pub returns-clause-put : goal.returns-clause-put
unfolding mark_parts
returns-clause-put c =
    let is : is_plain c.args.reply ≡ false = sym c.is_plain.ensures ∙ c.if-is_plain.false in
    let whole : c.end_red.new.self ≡ drawn_on c.args.line.now (begin_red ∷ (sender_parts c.args.reply ++ (status_names c.args.reply.status ++ end_red ∷ []))) = rw (c.end_red.ensures.put, c.put_bits.ensures.put, c.put_sender.ensures.put, c.begin_red.ensures.put) (simp drawing) in
    whole ∙ ap (λ (b : Bool). drawn_on c.args.line.now (cond b [] (begin_red ∷ (sender_parts c.args.reply ++ (status_names c.args.reply.status ++ end_red ∷ []))))) (sym is)
