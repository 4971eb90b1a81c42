-- A message that a text has can be read again: its numbers are in their ranges and its words have 16 bits.
use Rattle.std.proofs.Common.{◌≡◌, ℕ, zero, suc, ◌<◌, Bool, true, false, cond, List, [], ◌∷◌, take, Option, Some, None, Result, Ok, Err, refl, subst, arith}
use Rattle.std.specs.Prelude.{nat_le, ◌||◌, ◌==◌, codes}
use Rattle.mil_word.specs.declared.Line.{Line}
use Rattle.mil_message.specs.declared.drafts.ModeSubaddress.{ModeSubaddress}
use Rattle.mil_message.specs.declared.drafts.ModeSubaddress.TheVariants.{Zero, ThirtyOne}
use Rattle.mil_message.specs.declared.faults.BadMessage.{BadMessage}
use Rattle.mil_message.specs.declared.forms.Form.{Form}
use Rattle.mil_message.specs.Forms.{data_words}
use Rattle.mil_message.specs.Request.{Request, to_terminal, from_terminal, between, to_all, between_all, mode, mode_from, mode_to, mode_all, mode_all_to, mode_request, mode_request_to_all}
use Rattle.mil_message.specs.Rules as rules
use Rattle.mil_message.specs.Rules.{checked, form_of, mode_word}
use Rattle.mil_message.proofs.Checked.{lawful-checked}
use Rattle.numerals.proofs.Back.{spelled_below}
use Rattle.frame_text.specs.Reading.{Tokens, ◌>>=◌, same_bytes, past}
use Rattle.numerals.specs.Numerals.{data_word_of}
use Rattle.frame_text.specs.Words.{spelled, number_at, words_at, counted, bracketed_at, optional_at}
use Rattle.frame_text.specs.Messages.{line_at, message_at, message_of, message_word, made, judged_request, send_at, receive_at, transmit_at, transfer_at, mode_at, receive_all_at, transfer_all_at, mode_all_at}
use Rattle.frame_text.specs.declared.keywords.MessageWord.{MessageWord}
use Rattle.frame_text.specs.declared.keywords.MessageWord.TheVariants as key
use Rattle.frame_text.proofs.Soundness.{bind_ok, ok_is}
use Rattle.frame_text.specs.Chains.{AreWords, IsReadable}

data_word_small : (w : List ℕ) (n : ℕ) → data_word_of w ≡ Some n → n < 65536
data_word_small w n e = let small = spelled_below 16 4 4 w n (omega arith) e in omega (arith, small)

spelled_small : (w : List ℕ) (ts : Tokens) (n : ℕ) → spelled w ts (data_word_of w) ≡ Ok n → n < 65536
spelled_small w ts n e = by (data_word_of w) refl e
  where
    by : (o : Option ℕ) → data_word_of w ≡ o → spelled w ts o ≡ Ok n → n < 65536
    by (Some m) i h = subst (λ k. k < 65536) (ok_is m n h) (data_word_small w m i)
    by None i h = absurd (cc)

words_ok : (ts : Tokens) (x : List ℕ × Tokens) → words_at ts ≡ Ok x → AreWords x.0
unfolding words_at
words_ok [] x e = absurd (cc)
words_ok (w ∷ ts) x e = by (same_bytes w (codes "]")) (λ y i. words_ok ts y i) e
  where
    by : (t : Bool) → ((y : List ℕ × Tokens) → words_at ts ≡ Ok y → AreWords y.0)
        → cond t (Ok ([], ts)) (spelled w ts (data_word_of w) >>= (λ n. words_at ts >>= (λ ns. Ok (n ∷ ns.0, ns.1)))) ≡ Ok x → AreWords x.0
    by true more i = subst (λ (z : List ℕ × Tokens). AreWords z.0) (ok_is _ x i) tt
    by false more i =
        let n = bind_ok (spelled w ts (data_word_of w)) _ x i in
        let ns = bind_ok (words_at ts) _ x n.2 in
        subst (λ (z : List ℕ × Tokens). AreWords z.0) (ok_is _ x ns.2) (spelled_small w ts n.0 n.1, more ns.0 ns.1)

take_words : (n : ℕ) (ws : List ℕ) → AreWords ws → AreWords (take n ws)
take_words zero ws h = tt
take_words (suc n) [] h = tt
take_words (suc n) (w ∷ ws) h = (h.0, take_words n ws h.1)

counted_ok : (ts : Tokens) (x : List ℕ × Tokens) → counted (words_at ts) ≡ Ok x → AreWords x.0
counted_ok ts x e =
    let ws = bind_ok (words_at ts) _ x e in
    subst (λ (z : List ℕ × Tokens). AreWords z.0) (ok_is _ x ws.2) (take_words 33 ws.0.0 (words_ok ts ws.0 ws.1))

bracketed_ok : (ts : Tokens) (x : List ℕ × Tokens) → bracketed_at ts ≡ Ok x → AreWords x.0
unfolding bracketed_at
bracketed_ok ts x e = let us = bind_ok (past (codes "[") ts) _ x e in counted_ok us.0 x us.2

abbrev AreWordsIf : Option (List ℕ) → Type 0
AreWordsIf None = Unit {0}
AreWordsIf (Some ws) = AreWords ws

optional_ok : (ts : Tokens) (x : Option (List ℕ) × Tokens) → optional_at ts ≡ Ok x → AreWordsIf x.0
unfolding optional_at
optional_ok [] x e = subst (λ (z : Option (List ℕ) × Tokens). AreWordsIf z.0) (ok_is _ x e) tt
optional_ok (w ∷ ts) x e = by (same_bytes w (codes "[")) e
  where
    by : (t : Bool) → cond t (counted (words_at ts) >>= (λ ns. Ok (Some ns.0, ns.1))) (Ok (None, w ∷ ts)) ≡ Ok x → AreWordsIf x.0
    by true i =
        let ws = bind_ok (counted (words_at ts)) _ x i in
        subst (λ (z : Option (List ℕ) × Tokens). AreWordsIf z.0) (ok_is _ x ws.2) (counted_ok ts ws.0 ws.1)
    by false i = subst (λ (z : Option (List ℕ) × Tokens). AreWordsIf z.0) (ok_is _ x i) tt

judged_form : (fault : Option BadMessage) (f g : Form) → rules.judged fault f ≡ Ok g → f ≡ g
judged_form None f g e = cc
judged_form (Some bad) f g e = absurd (cc)

made_ok : (message : Tokens) (request : Request) (ts : Tokens) (x : Form × Tokens) → AreWords (data_words (form_of request)) → made message request ts ≡ Ok x → IsReadable x.0
made_ok message request ts x w e = by (checked request) refl e
  where
    by : (r : Result Form BadMessage) → checked request ≡ r → judged_request message r ts ≡ Ok x → IsReadable x.0
    by (Ok form) i h =
        subst (λ (z : Form × Tokens). IsReadable z.0) (ok_is (form, ts) x h)
        (lawful-checked request form i, subst (λ f. AreWords (data_words f)) (judged_form (rules.first_fault (rules.rules request)) (form_of request) form i) w)
    by (Err bad) i h = absurd (cc)

mode_word_small : (words : Option (List ℕ)) → AreWordsIf words → AreWords (mode_word words ∷ [])
mode_word_small None h = (omega arith, tt)
mode_word_small (Some []) h = (omega arith, tt)
mode_word_small (Some (w ∷ ws)) h = (h.0, tt)

mode_words : (a : ℕ) (s : ModeSubaddress) (c : ℕ) (words : Option (List ℕ)) → AreWordsIf words → AreWords (data_words (form_of (mode_request a s c words)))
mode_words a s c None h = by (nat_le c 15) (c == 16 || c == 18 || c == 19 || nat_le 22 c)
  where
    by : (t u : Bool) → AreWords (data_words (form_of (cond t (mode a s c None) (cond u (mode_from a s c None) (mode_to a s c None)))))
    by true u = tt
    by false true = tt
    by false false = mode_word_small None tt
mode_words a s c (Some ws) h = by (nat_le c 15) (c == 16 || c == 18 || c == 19)
  where
    by : (t u : Bool) → AreWords (data_words (form_of (cond t (mode a s c (Some ws)) (cond u (mode_from a s c (Some ws)) (mode_to a s c (Some ws))))))
    by true u = tt
    by false true = tt
    by false false = mode_word_small (Some ws) h

mode_all_words : (s : ModeSubaddress) (c : ℕ) (words : Option (List ℕ)) → AreWordsIf words → AreWords (data_words (form_of (mode_request_to_all s c words)))
mode_all_words s c words h = by (nat_le c 15)
  where
    by : (t : Bool) → AreWords (data_words (form_of (cond t (mode_all s c words) (mode_all_to s c words))))
    by true = tt
    by false = mode_word_small words h

mode_ok : (s : ModeSubaddress) (message ts : Tokens) (x : Form × Tokens) → mode_at s message ts ≡ Ok x → IsReadable x.0
unfolding mode_at
mode_ok s message ts x e =
    let a = bind_ok (number_at ts) _ x e in
    let c = bind_ok (number_at a.0.1) _ x a.2 in
    let w = bind_ok (optional_at c.0.1) _ x c.2 in
    made_ok message (mode_request a.0.0 s c.0.0 w.0.0) w.0.1 x (mode_words a.0.0 s c.0.0 w.0.0 (optional_ok c.0.1 w.0 w.1)) w.2

mode_all_ok : (s : ModeSubaddress) (message ts : Tokens) (x : Form × Tokens) → mode_all_at s message ts ≡ Ok x → IsReadable x.0
unfolding mode_all_at
mode_all_ok s message ts x e =
    let c = bind_ok (number_at ts) _ x e in
    let w = bind_ok (optional_at c.0.1) _ x c.2 in
    made_ok message (mode_request_to_all s c.0.0 w.0.0) w.0.1 x (mode_all_words s c.0.0 w.0.0 (optional_ok c.0.1 w.0 w.1)) w.2

kind_ok : (k : MessageWord) (w : List ℕ) (ts : Tokens) (x : Form × Tokens) → message_of k w ts ≡ Ok x → IsReadable x.0
unfolding message_of receive_at transmit_at transfer_at receive_all_at transfer_all_at
kind_ok key.Receive w ts x e =
    let a = bind_ok (number_at ts) _ x e in
    let s = bind_ok (number_at a.0.1) _ x a.2 in
    let ws = bind_ok (bracketed_at s.0.1) _ x s.2 in
    made_ok (w ∷ ts) (to_terminal a.0.0 s.0.0 ws.0.0) ws.0.1 x (bracketed_ok s.0.1 ws.0 ws.1) ws.2
kind_ok key.Transmit w ts x e =
    let a = bind_ok (number_at ts) _ x e in
    let s = bind_ok (number_at a.0.1) _ x a.2 in
    let n = bind_ok (number_at s.0.1) _ x s.2 in
    made_ok (w ∷ ts) (from_terminal a.0.0 s.0.0 n.0.0) n.0.1 x tt n.2
kind_ok key.Transfer w ts x e =
    let a = bind_ok (number_at ts) _ x e in
    let s = bind_ok (number_at a.0.1) _ x a.2 in
    let b = bind_ok (number_at s.0.1) _ x s.2 in
    let t = bind_ok (number_at b.0.1) _ x b.2 in
    let n = bind_ok (number_at t.0.1) _ x t.2 in
    made_ok (w ∷ ts) (between a.0.0 s.0.0 b.0.0 t.0.0 n.0.0) n.0.1 x tt n.2
kind_ok key.Mode w ts x e = mode_ok ThirtyOne (w ∷ ts) ts x e
kind_ok key.ModeZero w ts x e = mode_ok Zero (w ∷ ts) ts x e
kind_ok key.ReceiveAll w ts x e =
    let s = bind_ok (number_at ts) _ x e in
    let ws = bind_ok (bracketed_at s.0.1) _ x s.2 in
    made_ok (w ∷ ts) (to_all s.0.0 ws.0.0) ws.0.1 x (bracketed_ok s.0.1 ws.0 ws.1) ws.2
kind_ok key.TransferAll w ts x e =
    let a = bind_ok (number_at ts) _ x e in
    let s = bind_ok (number_at a.0.1) _ x a.2 in
    let t = bind_ok (number_at s.0.1) _ x s.2 in
    let n = bind_ok (number_at t.0.1) _ x t.2 in
    made_ok (w ∷ ts) (between_all a.0.0 s.0.0 t.0.0 n.0.0) n.0.1 x tt n.2
kind_ok key.ModeAll w ts x e = mode_all_ok ThirtyOne (w ∷ ts) ts x e
kind_ok key.ModeZeroAll w ts x e = mode_all_ok Zero (w ∷ ts) ts x e
kind_ok key.NoMessage w ts x e = absurd (cc)

message_ok : (ts : Tokens) (x : Form × Tokens) → message_at ts ≡ Ok x → IsReadable x.0
unfolding message_at
message_ok [] x e = absurd (cc)
message_ok (w ∷ ts) x e = kind_ok (message_word w) w ts x e

pub send_ok : (ts : Tokens) (x : (Line × Form) × Tokens) → send_at ts ≡ Ok x → IsReadable x.0.1
unfolding send_at
send_ok ts x e =
    let l = bind_ok (line_at ts) _ x e in
    let m = bind_ok (message_at l.0.1) _ x l.2 in
    subst (λ (z : (Line × Form) × Tokens). IsReadable z.0.1) (ok_is _ x m.2) (message_ok l.0.1 m.0 m.1)
