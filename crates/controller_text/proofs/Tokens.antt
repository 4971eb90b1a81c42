-- Spaces part the tokens of a script as they part words.
use Rattle.std.proofs.Common.{◌≡◌, ℕ, List, [], ◌∷◌, ◌++◌, cond, refl, sym, ap, ◌∙◌}
use Rattle.std.specs.Prelude.{Bool, true, false, Result, Err}
use Rattle.std.specs.List.{filter, slice_split, flat_map, onto_first}
use Rattle.std.proofs.lemmas.Bool.{eqb-true}
use Rattle.text_lines.specs.Words.{Text, is_space, has_bytes, words, from_word}
use Rattle.text_lines.proofs.WordLemmas.{from_word-words}
use Rattle.mil_word.specs.declared.Line.{Line}
use Rattle.mil_message.specs.declared.forms.Form.{Form}
use Rattle.mil_host.specs.declared.reading.BadAction.TheVariants.{Word}
use Rattle.mil_host.specs.Printing.{spaced_word}
use Rattle.frame_text.specs.declared.faults.Cause.{Cause}
use Rattle.frame_text.specs.declared.faults.ScriptError.{ScriptError}
use Rattle.frame_text.specs.declared.faults.ScriptError.TheVariants as refusal
use Rattle.frame_text.specs.Tokens.{lex, goes_on, tokens}
use Rattle.frame_text.specs.Reading.{cause_alone, to_the_end, ◌>>=◌, RefusesScript, IsTextError}
use Rattle.frame_text.specs.Messages.{send_at, send_of_text}
use Rattle.controller_text.specs.Reading.{message_in, names_line, as_control_read, told_fault}

-- two texts with the same tokens, in a comment and behind another byte too
record Alike (x y : Text) : Type 0 where
  same : (comment : Bool) → lex comment x ≡ lex comment y
  on : goes_on x ≡ goes_on y

alike_more : (b : ℕ) (x y : Text) → Alike x y → (comment : Bool) → lex comment (b ∷ x) ≡ lex comment (b ∷ y)
unfolding lex
alike_more b x y is true = rw (is.same false, is.same true) refl
alike_more b x y is false = rw (is.same false, is.same true, is.on) refl

space_skipped : (comment : Bool) (text : Text) → lex comment (32 ∷ text) ≡ lex comment text
unfolding lex
space_skipped true text = refl
space_skipped false text = refl

-- some parts of a text, those with bytes behind a space each, and the first with none in front
abbrev behind_spaces : List Text → Text
behind_spaces parts = flat_map spaced_word (filter has_bytes parts)

abbrev joined : List Text → Text
joined [] = []
joined (part ∷ parts) = part ++ behind_spaces parts

space_in_front : (parts : List Text) (comment : Bool) → lex comment (behind_spaces parts) ≡ lex comment (joined parts)
space_in_front [] comment = refl
space_in_front ([] ∷ parts) comment = refl
space_in_front ((b ∷ bs) ∷ parts) comment = space_skipped comment (b ∷ (bs ++ behind_spaces parts))

begins_apart : (parts : List Text) → goes_on (behind_spaces parts) ≡ false
begins_apart [] = refl
begins_apart ([] ∷ parts) = begins_apart parts
begins_apart ((b ∷ bs) ∷ parts) = refl

joined_onto : (b : ℕ) (parts : List Text) → joined (onto_first b parts) ≡ b ∷ joined parts
joined_onto b [] = refl
joined_onto b (part ∷ parts) = refl

alike : (text : Text) → Alike (joined (slice_split is_space text)) text
alike [] = record { same = λ comment. refl; on = refl }
alike (b ∷ text) = go (is_space b) refl (alike text)
  where
    go : (s : Bool) → is_space b ≡ s → Alike (joined (slice_split is_space text)) text → Alike (joined (slice_split is_space (b ∷ text))) (b ∷ text)
    go true space more =
        let at : b ≡ 32 = eqb-true b 32 space in
        let whole : slice_split is_space (b ∷ text) ≡ [] ∷ slice_split is_space text = rw space refl in
        let apart : false ≡ goes_on (b ∷ text) = rw at refl in
        record {
          same = λ comment.
              ap (λ ps. lex comment (joined ps)) whole
              ∙ space_in_front (slice_split is_space text) comment
              ∙ more.same comment
              ∙ sym (space_skipped comment text)
              ∙ ap (λ x. lex comment (x ∷ text)) (sym at);
          on = ap (λ ps. goes_on (joined ps)) whole ∙ begins_apart (slice_split is_space text) ∙ apart;
        }
    go false other more =
        let whole : slice_split is_space (b ∷ text) ≡ onto_first b (slice_split is_space text) = rw other refl in
        let text_is = ap joined whole ∙ joined_onto b (slice_split is_space text) in
        record {
          same = λ comment. ap (lex comment) text_is ∙ alike_more b (joined (slice_split is_space text)) text more comment;
          on = ap goes_on text_is;
        }

-- the words of a text, each behind a space, have its tokens
pub words_tokens : (text : Text) → tokens (flat_map spaced_word (words text)) ≡ tokens text
words_tokens text = space_in_front (slice_split is_space text) false ∙ (alike text).same false

pub same_send : (x y : Text) → tokens x ≡ tokens y → send_of_text x ≡ send_of_text y
same_send x y same = ap (λ ts. cause_alone (send_at ts >>= (λ read. to_the_end read))) same

-- so a message is read of them as of the text, and as of the text from its first word on
pub words_send : (text : Text) → send_of_text (flat_map spaced_word (words text)) ≡ send_of_text text
words_send text = same_send (flat_map spaced_word (words text)) text (words_tokens text)

pub from_word_send : (text : Text) → send_of_text (from_word text) ≡ send_of_text (flat_map spaced_word (words text))
from_word_send text =
    sym (words_send (from_word text)) ∙ ap (λ ws. send_of_text (flat_map spaced_word ws)) (from_word-words text)

-- ---- a line and a message, behind the first word of a text

pub message_read : (text line : Text) (behind : List Text) (read : Result (Line × Form) Cause) → words text ≡ line ∷ behind → names_line line ≡ true → send_of_text (from_word text) ≡ read
    → message_in (words text) ≡ as_control_read read
message_read text line behind read first is e =
    ap message_in first
    ∙ ap (λ (b : Bool). cond b (as_control_read (send_of_text (flat_map spaced_word (line ∷ behind)))) (Err Word)) is
    ∙ ap (λ ws. as_control_read (send_of_text (flat_map spaced_word ws))) (sym first)
    ∙ ap as_control_read (sym (from_word_send text) ∙ e)

pub message_refused : (text line : Text) (behind : List Text) (e : ScriptError) → words text ≡ line ∷ behind → names_line line ≡ true → RefusesScript e (send_of_text (from_word text)) → IsTextError e
    → message_in (words text) ≡ Err (told_fault e)
message_refused text line behind (refusal.Text cause place) first is read text_error = message_read text line behind (Err cause) first is read
message_refused text line behind (refusal.Memory place) first is read text_error = absurd text_error

pub message_other : (text line : Text) (behind : List Text) → words text ≡ line ∷ behind → names_line line ≡ false → message_in (words text) ≡ Err Word
message_other text line behind first none =
    ap message_in first ∙ ap (λ (b : Bool). cond b (as_control_read (send_of_text (flat_map spaced_word (line ∷ behind)))) (Err Word)) none
