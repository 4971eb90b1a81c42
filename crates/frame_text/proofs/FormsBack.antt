-- What is read of the tokens of a printed message.
use Rattle.std.proofs.Common.{◌≡◌, ℕ, ◌<◌, ◌≤◌, Bool, true, false, List, [], ◌∷◌, length, Some, None, Ok, refl, ap, ◌∙◌, arith}
use Rattle.std.specs.Prelude.{codes, decimal, nat_eq, ◌/◌, ◌&&◌}
use Rattle.std.specs.Fmt.{digit_glyph}
use Rattle.std.proofs.lemmas.List.{take_all}
use Rattle.mil_word.specs.declared.Line.{Line}
use Rattle.mil_word.specs.declared.Line.TheVariants.{A, B}
use Rattle.mil_message.specs.declared.drafts.ModeSubaddress.{ModeSubaddress}
use Rattle.mil_message.specs.declared.drafts.ModeSubaddress.TheVariants.{Zero, ThirtyOne}
use Rattle.mil_message.specs.declared.faults.BadMessage.TheVariants.{Address, CountOrCode, ModeWord}
use Rattle.mil_message.specs.declared.forms.Form.{Form}
use Rattle.mil_message.specs.declared.forms.Form.TheVariants.{ToTerminal, FromTerminal, Between, Mode, ModeFrom, ModeTo, ToAll, BetweenAll, ModeAll, ModeAllTo}
use Rattle.mil_message.specs.Request.{Request, mode_request, mode_request_to_all, mode, mode_from, mode_to, mode_all, mode_all_to}
use Rattle.mil_message.specs.Rules.{IsLawful, first_fault, request_for, checked, is_address, is_code_alone, is_code_from, is_code_to}
use Rattle.mil_message.proofs.Checked.{head_met, middle_met, checked-request_for}
use Rattle.frame_text.specs.Reading.{Tokens, ◌>>=◌, same_bytes, past}
use Rattle.frame_text.specs.Words.{number_at, words_at, counted, bracketed_at, optional_at, spelled}
use Rattle.frame_text.specs.Messages.{line_at, message_at, message_of, message_word, made, judged_request, send_at, receive_at, transmit_at, transfer_at, mode_at, receive_all_at, transfer_all_at, mode_all_at}
use Rattle.mil_word.specs.Printing.{line_text}
use Rattle.frame_text.specs.PrintedMessages.{data_word_text}
use Rattle.frame_text.proofs.Tables.{pick}
use Rattle.frame_text.proofs.Digits.{number_back, data_word_back}
use Rattle.frame_text.specs.Chains.{AreWords, IsReadable}
use Rattle.frame_text.proofs.Spelling.{words_then, brackets_then}
use Rattle.frame_text.proofs.PrintedForms.{Small, HasSmall, has_small, MayFollow, message_then, in_table}

-- a mode command whose code has no other form
mode_is : (a : ℕ) (s : ModeSubaddress) (c : ℕ) → is_code_alone c ≡ true → mode_request a s c None ≡ mode a s c None
mode_is a s c e = rw e refl

mode_from_is : (a : ℕ) (s : ModeSubaddress) (c : ℕ) → c < 32 → is_code_from c ≡ true → mode_request a s c None ≡ mode_from a s c None
mode_from_is a s = pick (λ c. is_code_from c ≡ true → mode_request a s c None ≡ mode_from a s c None) 32 ((λ h. refl), ((λ h. refl), ((λ h. refl), ((λ h. refl), ((λ h. refl), ((λ h. refl), ((λ h. refl), ((λ h. refl), ((λ h. refl), ((λ h. refl), ((λ h. absurd (cc)), ((λ h. absurd (cc)), ((λ h. refl), ((λ h. refl), ((λ h. absurd (cc)), ((λ h. refl), ((λ h. absurd (cc)), ((λ h. absurd (cc)), ((λ h. absurd (cc)), ((λ h. absurd (cc)), ((λ h. absurd (cc)), ((λ h. absurd (cc)), ((λ h. absurd (cc)), ((λ h. absurd (cc)), ((λ h. absurd (cc)), ((λ h. absurd (cc)), ((λ h. absurd (cc)), ((λ h. absurd (cc)), ((λ h. absurd (cc)), ((λ h. absurd (cc)), ((λ h. absurd (cc)), ((λ h. absurd (cc)), tt))))))))))))))))))))))))))))))))

mode_to_is : (a : ℕ) (s : ModeSubaddress) (w c : ℕ) → c < 32 → is_code_to c ≡ true → mode_request a s c (Some (w ∷ [])) ≡ mode_to a s c (Some (w ∷ []))
mode_to_is a s w = pick (λ c. is_code_to c ≡ true → mode_request a s c (Some (w ∷ [])) ≡ mode_to a s c (Some (w ∷ []))) 32 ((λ h. refl), ((λ h. refl), ((λ h. refl), ((λ h. refl), ((λ h. refl), ((λ h. refl), ((λ h. refl), ((λ h. refl), ((λ h. refl), ((λ h. refl), ((λ h. refl), ((λ h. refl), ((λ h. absurd (cc)), ((λ h. absurd (cc)), ((λ h. refl), ((λ h. absurd (cc)), ((λ h. absurd (cc)), ((λ h. absurd (cc)), ((λ h. absurd (cc)), ((λ h. absurd (cc)), ((λ h. absurd (cc)), ((λ h. absurd (cc)), ((λ h. absurd (cc)), ((λ h. absurd (cc)), ((λ h. absurd (cc)), ((λ h. absurd (cc)), ((λ h. absurd (cc)), ((λ h. absurd (cc)), ((λ h. absurd (cc)), ((λ h. absurd (cc)), ((λ h. absurd (cc)), ((λ h. absurd (cc)), tt))))))))))))))))))))))))))))))))

mode_all_is : (s : ModeSubaddress) (c : ℕ) → is_code_alone c ≡ true → mode_request_to_all s c None ≡ mode_all s c None
mode_all_is s c e = rw e refl

mode_all_to_is : (s : ModeSubaddress) (w c : ℕ) → c < 32 → is_code_to c ≡ true → mode_request_to_all s c (Some (w ∷ [])) ≡ mode_all_to s c (Some (w ∷ []))
mode_all_to_is s w = pick (λ c. is_code_to c ≡ true → mode_request_to_all s c (Some (w ∷ [])) ≡ mode_all_to s c (Some (w ∷ []))) 32 ((λ h. refl), ((λ h. refl), ((λ h. refl), ((λ h. refl), ((λ h. refl), ((λ h. refl), ((λ h. refl), ((λ h. refl), ((λ h. refl), ((λ h. refl), ((λ h. refl), ((λ h. refl), ((λ h. absurd (cc)), ((λ h. absurd (cc)), ((λ h. refl), ((λ h. absurd (cc)), ((λ h. absurd (cc)), ((λ h. absurd (cc)), ((λ h. absurd (cc)), ((λ h. absurd (cc)), ((λ h. absurd (cc)), ((λ h. absurd (cc)), ((λ h. absurd (cc)), ((λ h. absurd (cc)), ((λ h. absurd (cc)), ((λ h. absurd (cc)), ((λ h. absurd (cc)), ((λ h. absurd (cc)), ((λ h. absurd (cc)), ((λ h. absurd (cc)), ((λ h. absurd (cc)), ((λ h. absurd (cc)), tt))))))))))))))))))))))))))))))))

pub number_then : (n : ℕ) (ts : Tokens) → Small n → number_at (decimal n ∷ ts) ≡ Ok (n, ts)
unfolding number_at
number_then n ts h = ap (λ o. spelled (decimal n) ts o >>= (λ k. Ok (k, ts))) (number_back n h)

-- a data word is no bracket
no_bracket : (w : ℕ) → same_bytes (data_word_text w) (codes "]") ≡ false
no_bracket w = by (nat_eq (digit_glyph true (w / 256 / 16)) 93)
  where
    by : (t : Bool) → (t && false) ≡ false
    by true = refl
    by false = refl

words_back : (ws : List ℕ) (ts : Tokens) → AreWords ws → words_at (words_then ws (codes "]" ∷ ts)) ≡ Ok (ws, ts)
unfolding words_at
words_back [] ts h = refl
words_back (w ∷ ws) ts h = rw (no_bracket w, data_word_back w h.0, words_back ws ts h.1) refl

counted_back : (ws : List ℕ) (ts : Tokens) → AreWords ws → length ws ≤ 33 → counted (words_at (words_then ws (codes "]" ∷ ts))) ≡ Ok (ws, ts)
counted_back ws ts h k = ap counted (words_back ws ts h) ∙ ap (λ xs. Ok (xs, ts)) (take_all 33 ws k)

bracketed_back : (ws : List ℕ) (ts : Tokens) → AreWords ws → length ws ≤ 33 → bracketed_at (brackets_then ws ts) ≡ Ok (ws, ts)
unfolding bracketed_at past
bracketed_back ws ts h k = counted_back ws ts h k

optional_back : (ws : List ℕ) (ts : Tokens) → AreWords ws → length ws ≤ 33 → optional_at (brackets_then ws ts) ≡ Ok (Some ws, ts)
unfolding optional_at
optional_back ws ts h k = ap (λ r. r >>= (λ ns. Ok (Some ns.0, ns.1))) (counted_back ws ts h k)

none_back : (ts : Tokens) → MayFollow ts → optional_at ts ≡ Ok (None, ts)
unfolding optional_at
none_back [] h = refl
none_back (w ∷ ts) h = rw h.0 refl

-- a request that asks for a lawful form
made_back : (message : Tokens) (request : Request) (m : Form) (ts : Tokens) → IsLawful m → request ≡ request_for m → made message request ts ≡ Ok (m, ts)
made_back message request m ts h e = ap (λ r. judged_request message r ts) (ap checked e ∙ checked-request_for m h)

alone_met : (a c : ℕ) → first_fault ((is_address a, Address) ∷ (is_code_alone c, CountOrCode) ∷ (true, ModeWord) ∷ []) ≡ None → is_code_alone c ≡ true
alone_met a c h = middle_met (is_address a) (is_code_alone c) true Address CountOrCode ModeWord h

from_met : (a c : ℕ) → first_fault ((is_address a, Address) ∷ (is_code_from c, CountOrCode) ∷ (true, ModeWord) ∷ []) ≡ None → is_code_from c ≡ true
from_met a c h = middle_met (is_address a) (is_code_from c) true Address CountOrCode ModeWord h

to_met : (a c : ℕ) → first_fault ((is_address a, Address) ∷ (is_code_to c, CountOrCode) ∷ (true, ModeWord) ∷ []) ≡ None → is_code_to c ≡ true
to_met a c h = middle_met (is_address a) (is_code_to c) true Address CountOrCode ModeWord h

all_met : (c : ℕ) → first_fault ((is_code_to c, CountOrCode) ∷ (true, ModeWord) ∷ []) ≡ None → is_code_to c ≡ true
all_met c h = head_met (is_code_to c) true CountOrCode ModeWord h

message_back : (m : Form) → IsReadable m → HasSmall m → (ts : Tokens) → MayFollow ts → message_at (message_then m ts) ≡ Ok (m, ts)
unfolding message_at message_of message_word receive_at transmit_at transfer_at mode_at receive_all_at transfer_all_at mode_all_at
message_back (ToTerminal a s ws) h r ts f = rw (number_then a (decimal s ∷ brackets_then ws.items ts) r.0, number_then s (brackets_then ws.items ts) r.1, bracketed_back ws.items ts h.1 r.2) (made_back (message_then (ToTerminal a s ws) ts) _ (ToTerminal a s ws) ts h.0 refl)
message_back (FromTerminal a s n) h r ts f = rw (number_then a (decimal s ∷ decimal n ∷ ts) r.0, number_then s (decimal n ∷ ts) r.1, number_then n ts r.2) (made_back (message_then (FromTerminal a s n) ts) _ (FromTerminal a s n) ts h.0 refl)
message_back (Between a s b t n) h r ts f =
    rw (number_then a (decimal s ∷ decimal b ∷ decimal t ∷ decimal n ∷ ts) r.0, number_then s (decimal b ∷ decimal t ∷ decimal n ∷ ts) r.1, number_then b (decimal t ∷ decimal n ∷ ts) r.2, number_then t (decimal n ∷ ts) r.3, number_then n ts r.4)
    (made_back (message_then (Between a s b t n) ts) _ (Between a s b t n) ts h.0 refl)
message_back (Mode a Zero c) h r ts f = rw (number_then a (decimal c ∷ ts) r.0, number_then c ts r.1, none_back ts f) (made_back (message_then (Mode a Zero c) ts) _ (Mode a Zero c) ts h.0 (mode_is a Zero c (alone_met a c h.0)))
message_back (Mode a ThirtyOne c) h r ts f = rw (number_then a (decimal c ∷ ts) r.0, number_then c ts r.1, none_back ts f) (made_back (message_then (Mode a ThirtyOne c) ts) _ (Mode a ThirtyOne c) ts h.0 (mode_is a ThirtyOne c (alone_met a c h.0)))
message_back (ModeFrom a Zero c) h r ts f = rw (number_then a (decimal c ∷ ts) r.0, number_then c ts r.1, none_back ts f) (made_back (message_then (ModeFrom a Zero c) ts) _ (ModeFrom a Zero c) ts h.0 (mode_from_is a Zero c (in_table c _ (from_met a c h.0)) (from_met a c h.0)))
message_back (ModeFrom a ThirtyOne c) h r ts f = rw (number_then a (decimal c ∷ ts) r.0, number_then c ts r.1, none_back ts f) (made_back (message_then (ModeFrom a ThirtyOne c) ts) _ (ModeFrom a ThirtyOne c) ts h.0 (mode_from_is a ThirtyOne c (in_table c _ (from_met a c h.0)) (from_met a c h.0)))
message_back (ModeTo a Zero c w) h r ts f = rw (number_then a (decimal c ∷ brackets_then (w ∷ []) ts) r.0, number_then c (brackets_then (w ∷ []) ts) r.1, optional_back (w ∷ []) ts h.1 (omega arith)) (made_back (message_then (ModeTo a Zero c w) ts) _ (ModeTo a Zero c w) ts h.0 (mode_to_is a Zero w c (in_table c _ (to_met a c h.0)) (to_met a c h.0)))
message_back (ModeTo a ThirtyOne c w) h r ts f = rw (number_then a (decimal c ∷ brackets_then (w ∷ []) ts) r.0, number_then c (brackets_then (w ∷ []) ts) r.1, optional_back (w ∷ []) ts h.1 (omega arith)) (made_back (message_then (ModeTo a ThirtyOne c w) ts) _ (ModeTo a ThirtyOne c w) ts h.0 (mode_to_is a ThirtyOne w c (in_table c _ (to_met a c h.0)) (to_met a c h.0)))
message_back (ToAll s ws) h r ts f = rw (number_then s (brackets_then ws.items ts) r.0, bracketed_back ws.items ts h.1 r.1) (made_back (message_then (ToAll s ws) ts) _ (ToAll s ws) ts h.0 refl)
message_back (BetweenAll a s t n) h r ts f =
    rw (number_then a (decimal s ∷ decimal t ∷ decimal n ∷ ts) r.0, number_then s (decimal t ∷ decimal n ∷ ts) r.1, number_then t (decimal n ∷ ts) r.2, number_then n ts r.3) (made_back (message_then (BetweenAll a s t n) ts) _ (BetweenAll a s t n) ts h.0 refl)
message_back (ModeAll Zero c) h r ts f = rw (number_then c ts r, none_back ts f) (made_back (message_then (ModeAll Zero c) ts) _ (ModeAll Zero c) ts h.0 (mode_all_is Zero c (head_met (is_code_alone c) true CountOrCode ModeWord h.0)))
message_back (ModeAll ThirtyOne c) h r ts f = rw (number_then c ts r, none_back ts f) (made_back (message_then (ModeAll ThirtyOne c) ts) _ (ModeAll ThirtyOne c) ts h.0 (mode_all_is ThirtyOne c (head_met (is_code_alone c) true CountOrCode ModeWord h.0)))
message_back (ModeAllTo Zero c w) h r ts f = rw (number_then c (brackets_then (w ∷ []) ts) r, optional_back (w ∷ []) ts h.1 (omega arith)) (made_back (message_then (ModeAllTo Zero c w) ts) _ (ModeAllTo Zero c w) ts h.0 (mode_all_to_is Zero w c (in_table c _ (all_met c h.0)) (all_met c h.0)))
message_back (ModeAllTo ThirtyOne c w) h r ts f = rw (number_then c (brackets_then (w ∷ []) ts) r, optional_back (w ∷ []) ts h.1 (omega arith)) (made_back (message_then (ModeAllTo ThirtyOne c w) ts) _ (ModeAllTo ThirtyOne c w) ts h.0 (mode_all_to_is ThirtyOne w c (in_table c _ (all_met c h.0)) (all_met c h.0)))

line_back : (line : Line) (ts : Tokens) → line_at (line_text line ∷ ts) ≡ Ok (line, ts)
unfolding line_at
line_back A ts = refl
line_back B ts = refl

-- a printed line and message read back
pub send_back : (line : Line) (m : Form) → IsReadable m → (ts : Tokens) → MayFollow ts → send_at (line_text line ∷ message_then m ts) ≡ Ok ((line, m), ts)
unfolding send_at
send_back line m h ts f = rw (line_back line (message_then m ts), message_back m h (has_small m h.0) ts f) refl
