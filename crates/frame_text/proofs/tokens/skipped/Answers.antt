use Rattle.std.proofs.Common.{length, sym, ap, ◌∙◌, arith, true, false}
use Rattle.std.proofs.lemmas.Bool.Decides.{nat_tests}
use Rattle.frame_text.specs.Tokens.{lex}
use Rattle.frame_text.specs.Starts.{from_token}
use Rattle.frame_text.proofs.Lexing.{lex_comment, lex_hash, lex_space, lex_end, from_comment, from_hash, from_space, from_here, from_end}
use Rattle.frame_text.proofs.tokens.skipped.Goals as goal

pub loop-first-preserved-then-comment : goal.loop-first-preserved-then-comment
loop-first-preserved-then-comment c = record {
  tokens_are = sym (lex_comment c.in-Some.first.now c.in-Some.after.now) ∙ ap (lex true) (sym c.in-Some.ensures.cases.0) ∙ ap (λ t. lex t c.loop-first.rest.now) (sym c.if-comment.true) ∙ c.loop-first.invariant.tokens_are;
  shorter = omega (arith, c.loop-first.invariant.shorter, ap length c.in-Some.ensures.cases.0);
  from = sym (from_comment c.in-Some.first.now c.in-Some.after.now) ∙ ap (from_token true) (sym c.in-Some.ensures.cases.0) ∙ ap (λ t. from_token t c.loop-first.rest.now) (sym c.if-comment.true) ∙ c.loop-first.invariant.from;
}

pub loop-first-preserved-then-first-eq35 : goal.loop-first-preserved-then-first-eq35
loop-first-preserved-then-first-eq35 c = record {
  tokens_are = sym (lex_hash c.in-Some.first.now c.in-Some.after.now c.if-first-eq35.true) ∙ ap (lex false) (sym c.in-Some.ensures.cases.0) ∙ ap (λ t. lex t c.loop-first.rest.now) (sym c.if-comment.false) ∙ c.loop-first.invariant.tokens_are;
  shorter = omega (arith, c.loop-first.invariant.shorter, ap length c.in-Some.ensures.cases.0);
  from = sym (from_hash c.in-Some.first.now c.in-Some.after.now c.if-first-eq35.true) ∙ ap (from_token false) (sym c.in-Some.ensures.cases.0) ∙ ap (λ t. from_token t c.loop-first.rest.now) (sym c.if-comment.false) ∙ c.loop-first.invariant.from;
}

pub loop-first-preserved : goal.loop-first-preserved
loop-first-preserved c = record {
  tokens_are = ap (λ t. lex t c.in-Some.after.now) c.if-comment.false ∙ sym (lex_space c.in-Some.first.now c.in-Some.after.now (sym c.is_blank_byte.ensures ∙ c.if-not-is_blank_byte.false)) ∙ ap (lex false) (sym c.in-Some.ensures.cases.0) ∙ ap (λ t. lex t c.loop-first.rest.now) (sym c.if-comment.false) ∙ c.loop-first.invariant.tokens_are;
  shorter = omega (arith, c.loop-first.invariant.shorter, ap length c.in-Some.ensures.cases.0);
  from = ap (λ t. from_token t c.in-Some.after.now) c.if-comment.false ∙ sym (from_space c.in-Some.first.now c.in-Some.after.now (sym c.is_blank_byte.ensures ∙ c.if-not-is_blank_byte.false)) ∙ ap (from_token false) (sym c.in-Some.ensures.cases.0) ∙ ap (λ t. from_token t c.loop-first.rest.now) (sym c.if-comment.false) ∙ c.loop-first.invariant.from;
}

pub returns-clause-tokens : goal.returns-clause-tokens
returns-clause-tokens c = lex_end _ c.loop-first.rest.now c.in_default.ensures.cases ∙ c.loop-first.invariant.tokens_are

pub returns-clause-from : goal.returns-clause-from
returns-clause-from c = from_end _ c.loop-first.rest.now c.in_default.ensures.cases ∙ c.loop-first.invariant.from

pub returns-then-not-is_blank_byte-clause-from : goal.returns-then-not-is_blank_byte-clause-from
returns-then-not-is_blank_byte-clause-from c =
    c.in-Some.ensures.cases.0 ∙ sym (from_here c.in-Some.first.now c.in-Some.after.now (sym c.is_blank_byte.ensures ∙ c.if-not-is_blank_byte.true) (grind (arith, nat_tests))) ∙ ap (from_token false) (sym c.in-Some.ensures.cases.0)
    ∙ ap (λ t. from_token t c.loop-first.rest.now) (sym c.if-comment.false) ∙ c.loop-first.invariant.from
