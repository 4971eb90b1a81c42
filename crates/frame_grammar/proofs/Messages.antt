-- What is read as a message is what the rules derive.
use Rattle.std.proofs.Common.{◌≡◌, ℕ, ◌≤◌, Bool, true, false, cond, List, [], ◌∷◌, ◌++◌, length, Option, Some, None, Result, Ok, Err, refl, sym, ap, ◌∙◌, subst, arith}
use Rattle.std.specs.Prelude.{codes, nat_le, ◌==◌, ◌||◌}
use Rattle.std.proofs.lemmas.Bool.{leb-true, eqb-true}
use Rattle.std.proofs.lemmas.List.{append-nil}
use Rattle.mil_word.specs.declared.Line.{Line}
use Rattle.mil_word.specs.declared.Line.TheVariants.{A, B}
use Rattle.mil_message.specs.declared.drafts.ModeSubaddress.{ModeSubaddress}
use Rattle.mil_message.specs.declared.drafts.ModeSubaddress.TheVariants.{Zero, ThirtyOne}
use Rattle.mil_message.specs.declared.faults.BadMessage.{BadMessage}
use Rattle.mil_message.specs.declared.faults.BadMessage.TheVariants.{Address, Subaddress, CountOrCode, ModeWord}
use Rattle.mil_message.specs.declared.forms.Form.{Form}
use Rattle.mil_message.specs.Request.{Request, to_terminal, from_terminal, between, to_all, between_all, mode, mode_from, mode_to, mode_all, mode_all_to, mode_request, mode_request_to_all}
use Rattle.mil_message.specs.Rules.{checked, rules, first_fault, is_address, is_subaddress, is_count, is_code_alone, is_code_from, is_code_to}
use Rattle.mil_message.proofs.Checked.{request_of-checked, lawful-checked, second_met, third_met}
use Rattle.frame_text.specs.Tokens.{tokens}
use Rattle.frame_text.specs.Reading.{Tokens, fails, cause_alone, ◌>>=◌, same_bytes, misplaced, to_the_end}
use Rattle.frame_text.specs.Words.{number_at, bracketed_at, optional_at}
use Rattle.frame_text.specs.Messages.{line_at, message_at, message_of, message_word, made, judged_request, send_at, whole_send, send_of_text, receive_at, transmit_at, transfer_at, mode_at, receive_all_at, transfer_all_at, mode_all_at}
use Rattle.frame_text.specs.declared.keywords.MessageWord.{MessageWord}
use Rattle.frame_text.specs.declared.keywords.MessageWord.TheVariants as word
use Rattle.frame_text.proofs.Soundness.{bind_ok, ok_is}
use Rattle.frame_text.proofs.PrintedForms.{MayFollow}
use Rattle.frame_grammar.specs.Words.{SpellsNumber, MaySpellWords}
use Rattle.frame_grammar.specs.Messages.{SpellsLine, SpellMessage as rule, SpellSend, HasSend}
use Rattle.frame_grammar.specs.Laws.{SendsAreDerived}
use Rattle.frame_grammar.proofs.Pieces.{both_hold, same_is, of_choice, whole_ok, end_ok, begun, behind, over}
use Rattle.frame_grammar.proofs.Words.{number_stands, words_stand, words_may_stand, AreFew, number_read, words_read, words_may_read}

-- a request that is accepted meets its rules
met : (r : Request) (m : Form) → checked r ≡ Ok m → first_fault (rules r) ≡ None
met r m e = ap (λ q. first_fault (rules q)) (request_of-checked r m e) ∙ lawful-checked r m e

few : (n : ℕ) → is_count n ≡ true → n ≤ 32
few n e = leb-true n 32 (both_hold (nat_le 1 n) (nat_le n 32) e).1

few_received : (a s : ℕ) (ns : List ℕ) (m : Form) → checked (to_terminal a s ns) ≡ Ok m → length ns ≤ 32
few_received a s ns m e = few (length ns) (third_met (is_address a) (is_subaddress s) (is_count (length ns)) Address Subaddress CountOrCode (met (to_terminal a s ns) m e))

few_received_by_all : (s : ℕ) (ns : List ℕ) (m : Form) → checked (to_all s ns) ≡ Ok m → length ns ≤ 32
few_received_by_all s ns m e = few (length ns) (second_met (is_subaddress s) (is_count (length ns)) Subaddress CountOrCode (met (to_all s ns) m e))

one : (n : ℕ) → (n == 1) ≡ true → n ≤ 32
one n e = omega (arith, eqb-true n 1 e)

abbrev Few : List ℕ → Request → Type 0
Few ns r = first_fault (rules r) ≡ None → length ns ≤ 32

few_mode : (a : ℕ) (s : ModeSubaddress) (c : ℕ) (o : Option (List ℕ)) (m : Form) → checked (mode_request a s c o) ≡ Ok m → AreFew o
few_mode a s c None m e = tt
few_mode a s c (Some ns) m e =
    of_choice (Few ns) (nat_le c 15) (mode a s c (Some ns)) (cond (c == 16 || c == 18 || c == 19) (mode_from a s c (Some ns)) (mode_to a s c (Some ns)))
    (λ _ h. let n = third_met (is_address a) (is_code_alone c) false Address CountOrCode ModeWord h in absurd (cc))
    (of_choice (Few ns) (c == 16 || c == 18 || c == 19) (mode_from a s c (Some ns)) (mode_to a s c (Some ns))
    (λ _ h. let n = third_met (is_address a) (is_code_from c) false Address CountOrCode ModeWord h in absurd (cc))
    (λ h. one (length ns) (third_met (is_address a) (is_code_to c) (length ns == 1) Address CountOrCode ModeWord h)))
    (met (mode_request a s c (Some ns)) m e)

few_mode_to_all : (s : ModeSubaddress) (c : ℕ) (o : Option (List ℕ)) (m : Form) → checked (mode_request_to_all s c o) ≡ Ok m → AreFew o
few_mode_to_all s c None m e = tt
few_mode_to_all s c (Some ns) m e =
    of_choice (Few ns) (nat_le c 15) (mode_all s c (Some ns)) (mode_all_to s c (Some ns))
    (λ _ h. let n = second_met (is_code_alone c) false CountOrCode ModeWord h in absurd (cc))
    (λ h. one (length ns) (second_met (is_code_to c) (length ns == 1) CountOrCode ModeWord h))
    (met (mode_request_to_all s c (Some ns)) m e)

-- a message that was made of a request
made_ok : (message : Tokens) (r : Request) (ts : Tokens) (x : Form × Tokens) → made message r ts ≡ Ok x → (checked r ≡ Ok x.0) × (ts ≡ x.1)
made_ok message r ts x e = by (checked r) e
  where
    by : (c : Result Form BadMessage) → judged_request message c ts ≡ Ok x → (c ≡ Ok x.0) × (ts ≡ x.1)
    by (Ok form) i = let g : (form, ts) ≡ x = ok_is (form, ts) x i in (ap (λ z. Ok z.0) g, ap (λ z. z.1) g)
    by (Err bad) i = absurd (cc)

-- tokens that make a request which is accepted, in front of the rest
pub record MessageStands (ts : Tokens) (m : Form) (rest : Tokens) : Type 0 where
  pub words : Tokens
  pub request : Request
  pub is : ts ≡ words ++ rest
  pub spelled : rule words request
  pub accepted : checked request ≡ Ok m

receive_stands : (w : List ℕ) (ts : Tokens) (x : Form × Tokens) → w ≡ codes "rx" → receive_at (w ∷ ts) ts ≡ Ok x → MessageStands (w ∷ ts) x.0 x.1
unfolding receive_at
receive_stands w ts x h e =
    let a = bind_ok (number_at ts) _ x e in
    let s = bind_ok (number_at a.0.1) _ x a.2 in
    let b = bind_ok (bracketed_at s.0.1) _ x s.2 in
    let m = made_ok (w ∷ ts) (to_terminal a.0.0 s.0.0 b.0.0) b.0.1 x b.2 in
    let p = number_stands ts a.0 a.1 in
    let q = number_stands a.0.1 s.0 s.1 in
    let v = words_stand s.0.1 b.0 b.1 (few_received a.0.0 s.0.0 b.0.0 x.0 m.0) in
    record {
      words = codes "rx" ∷ p.0 ∷ q.0 ∷ v.0;
      request = to_terminal a.0.0 s.0.0 b.0.0;
      is = begun h (behind p.1 (behind q.1 (over v.0 v.1 m.1)));
      spelled = rule.rx p.2 q.2 v.2;
      accepted = m.0;
    }

transmit_stands : (w : List ℕ) (ts : Tokens) (x : Form × Tokens) → w ≡ codes "tx" → transmit_at (w ∷ ts) ts ≡ Ok x → MessageStands (w ∷ ts) x.0 x.1
unfolding transmit_at
transmit_stands w ts x h e =
    let a = bind_ok (number_at ts) _ x e in
    let s = bind_ok (number_at a.0.1) _ x a.2 in
    let n = bind_ok (number_at s.0.1) _ x s.2 in
    let m = made_ok (w ∷ ts) (from_terminal a.0.0 s.0.0 n.0.0) n.0.1 x n.2 in
    let p = number_stands ts a.0 a.1 in
    let q = number_stands a.0.1 s.0 s.1 in
    let v = number_stands s.0.1 n.0 n.1 in
    record {
      words = codes "tx" ∷ p.0 ∷ q.0 ∷ v.0 ∷ [];
      request = from_terminal a.0.0 s.0.0 n.0.0;
      is = begun h (behind p.1 (behind q.1 (behind v.1 m.1)));
      spelled = rule.tx p.2 q.2 v.2;
      accepted = m.0;
    }

transfer_stands : (w : List ℕ) (ts : Tokens) (x : Form × Tokens) → w ≡ codes "rt" → transfer_at (w ∷ ts) ts ≡ Ok x → MessageStands (w ∷ ts) x.0 x.1
unfolding transfer_at
transfer_stands w ts x h e =
    let a = bind_ok (number_at ts) _ x e in
    let s = bind_ok (number_at a.0.1) _ x a.2 in
    let b = bind_ok (number_at s.0.1) _ x s.2 in
    let t = bind_ok (number_at b.0.1) _ x b.2 in
    let n = bind_ok (number_at t.0.1) _ x t.2 in
    let m = made_ok (w ∷ ts) (between a.0.0 s.0.0 b.0.0 t.0.0 n.0.0) n.0.1 x n.2 in
    let p = number_stands ts a.0 a.1 in
    let q = number_stands a.0.1 s.0 s.1 in
    let u = number_stands s.0.1 b.0 b.1 in
    let v = number_stands b.0.1 t.0 t.1 in
    let k = number_stands t.0.1 n.0 n.1 in
    record {
      words = codes "rt" ∷ p.0 ∷ q.0 ∷ u.0 ∷ v.0 ∷ k.0 ∷ [];
      request = between a.0.0 s.0.0 b.0.0 t.0.0 n.0.0;
      is = begun h (behind p.1 (behind q.1 (behind u.1 (behind v.1 (behind k.1 m.1)))));
      spelled = rule.rt p.2 q.2 u.2 v.2 k.2;
      accepted = m.0;
    }

receive_all_stands : (w : List ℕ) (ts : Tokens) (x : Form × Tokens) → w ≡ codes "brx" → receive_all_at (w ∷ ts) ts ≡ Ok x → MessageStands (w ∷ ts) x.0 x.1
unfolding receive_all_at
receive_all_stands w ts x h e =
    let s = bind_ok (number_at ts) _ x e in
    let b = bind_ok (bracketed_at s.0.1) _ x s.2 in
    let m = made_ok (w ∷ ts) (to_all s.0.0 b.0.0) b.0.1 x b.2 in
    let q = number_stands ts s.0 s.1 in
    let v = words_stand s.0.1 b.0 b.1 (few_received_by_all s.0.0 b.0.0 x.0 m.0) in
    record {
      words = codes "brx" ∷ q.0 ∷ v.0;
      request = to_all s.0.0 b.0.0;
      is = begun h (behind q.1 (over v.0 v.1 m.1));
      spelled = rule.brx q.2 v.2;
      accepted = m.0;
    }

transfer_all_stands : (w : List ℕ) (ts : Tokens) (x : Form × Tokens) → w ≡ codes "brt" → transfer_all_at (w ∷ ts) ts ≡ Ok x → MessageStands (w ∷ ts) x.0 x.1
unfolding transfer_all_at
transfer_all_stands w ts x h e =
    let a = bind_ok (number_at ts) _ x e in
    let s = bind_ok (number_at a.0.1) _ x a.2 in
    let t = bind_ok (number_at s.0.1) _ x s.2 in
    let n = bind_ok (number_at t.0.1) _ x t.2 in
    let m = made_ok (w ∷ ts) (between_all a.0.0 s.0.0 t.0.0 n.0.0) n.0.1 x n.2 in
    let p = number_stands ts a.0 a.1 in
    let q = number_stands a.0.1 s.0 s.1 in
    let v = number_stands s.0.1 t.0 t.1 in
    let k = number_stands t.0.1 n.0 n.1 in
    record {
      words = codes "brt" ∷ p.0 ∷ q.0 ∷ v.0 ∷ k.0 ∷ [];
      request = between_all a.0.0 s.0.0 t.0.0 n.0.0;
      is = begun h (behind p.1 (behind q.1 (behind v.1 (behind k.1 m.1))));
      spelled = rule.brt p.2 q.2 v.2 k.2;
      accepted = m.0;
    }

-- a mode command to one terminal, and the rule of its first word
mode_stands : (first w : List ℕ) (sub : ModeSubaddress) (ts : Tokens) (x : Form × Tokens)
    → ((address code : List ℕ) (words : Tokens) (a c : ℕ) (o : Option (List ℕ)) → SpellsNumber address a → SpellsNumber code c → MaySpellWords words o → rule (first ∷ address ∷ code ∷ words) (mode_request a sub c o))
    → w ≡ first → mode_at sub (w ∷ ts) ts ≡ Ok x → MessageStands (w ∷ ts) x.0 x.1
unfolding mode_at
mode_stands first w sub ts x by h e =
    let a = bind_ok (number_at ts) _ x e in
    let c = bind_ok (number_at a.0.1) _ x a.2 in
    let o = bind_ok (optional_at c.0.1) _ x c.2 in
    let m = made_ok (w ∷ ts) (mode_request a.0.0 sub c.0.0 o.0.0) o.0.1 x o.2 in
    let p = number_stands ts a.0 a.1 in
    let q = number_stands a.0.1 c.0 c.1 in
    let v = words_may_stand c.0.1 o.0 o.1 (few_mode a.0.0 sub c.0.0 o.0.0 x.0 m.0) in
    record {
      words = first ∷ p.0 ∷ q.0 ∷ v.0;
      request = mode_request a.0.0 sub c.0.0 o.0.0;
      is = begun h (behind p.1 (behind q.1 (over v.0 v.1 m.1)));
      spelled = by p.0 q.0 v.0 a.0.0 c.0.0 o.0.0 p.2 q.2 v.2;
      accepted = m.0;
    }

mode_all_stands : (first w : List ℕ) (sub : ModeSubaddress) (ts : Tokens) (x : Form × Tokens)
    → ((code : List ℕ) (words : Tokens) (c : ℕ) (o : Option (List ℕ)) → SpellsNumber code c → MaySpellWords words o → rule (first ∷ code ∷ words) (mode_request_to_all sub c o))
    → w ≡ first → mode_all_at sub (w ∷ ts) ts ≡ Ok x → MessageStands (w ∷ ts) x.0 x.1
unfolding mode_all_at
mode_all_stands first w sub ts x by h e =
    let c = bind_ok (number_at ts) _ x e in
    let o = bind_ok (optional_at c.0.1) _ x c.2 in
    let m = made_ok (w ∷ ts) (mode_request_to_all sub c.0.0 o.0.0) o.0.1 x o.2 in
    let q = number_stands ts c.0 c.1 in
    let v = words_may_stand c.0.1 o.0 o.1 (few_mode_to_all sub c.0.0 o.0.0 x.0 m.0) in
    record {
      words = first ∷ q.0 ∷ v.0;
      request = mode_request_to_all sub c.0.0 o.0.0;
      is = begun h (behind q.1 (over v.0 v.1 m.1));
      spelled = by q.0 v.0 c.0.0 o.0.0 q.2 v.2;
      accepted = m.0;
    }

-- the word that begins a message
abbrev Stands : MessageWord → List ℕ → Type 0
Stands word.Receive w = w ≡ codes "rx"
Stands word.Transmit w = w ≡ codes "tx"
Stands word.Transfer w = w ≡ codes "rt"
Stands word.Mode w = w ≡ codes "mode"
Stands word.ModeZero w = w ≡ codes "mode0"
Stands word.ReceiveAll w = w ≡ codes "brx"
Stands word.TransferAll w = w ≡ codes "brt"
Stands word.ModeAll w = w ≡ codes "bmode"
Stands word.ModeZeroAll w = w ≡ codes "bmode0"
Stands word.NoMessage w = Unit {0}

stands : (w : List ℕ) → Stands (message_word w) w
unfolding message_word
stands w =
    let P : MessageWord → Type 0 = λ k. Stands k w in
    of_choice P (same_bytes w (codes "rx")) _ _ (same_is w (codes "rx"))
    (of_choice P (same_bytes w (codes "tx")) _ _ (same_is w (codes "tx"))
    (of_choice P (same_bytes w (codes "rt")) _ _ (same_is w (codes "rt"))
    (of_choice P (same_bytes w (codes "mode")) _ _ (same_is w (codes "mode"))
    (of_choice P (same_bytes w (codes "mode0")) _ _ (same_is w (codes "mode0"))
    (of_choice P (same_bytes w (codes "brx")) _ _ (same_is w (codes "brx"))
    (of_choice P (same_bytes w (codes "brt")) _ _ (same_is w (codes "brt"))
    (of_choice P (same_bytes w (codes "bmode")) _ _ (same_is w (codes "bmode"))
    (of_choice P (same_bytes w (codes "bmode0")) _ word.NoMessage (same_is w (codes "bmode0")) tt))))))))

word_stands : (k : MessageWord) (w : List ℕ) (ts : Tokens) (x : Form × Tokens) → Stands k w → message_of k w ts ≡ Ok x → MessageStands (w ∷ ts) x.0 x.1
unfolding message_of
word_stands word.Receive w ts x s e = receive_stands w ts x s e
word_stands word.Transmit w ts x s e = transmit_stands w ts x s e
word_stands word.Transfer w ts x s e = transfer_stands w ts x s e
word_stands word.Mode w ts x s e = mode_stands (codes "mode") w ThirtyOne ts x (λ _ _ _ _ _ _ p q v. rule.mode p q v) s e
word_stands word.ModeZero w ts x s e = mode_stands (codes "mode0") w Zero ts x (λ _ _ _ _ _ _ p q v. rule.mode0 p q v) s e
word_stands word.ReceiveAll w ts x s e = receive_all_stands w ts x s e
word_stands word.TransferAll w ts x s e = transfer_all_stands w ts x s e
word_stands word.ModeAll w ts x s e = mode_all_stands (codes "bmode") w ThirtyOne ts x (λ _ _ _ _ q v. rule.bmode q v) s e
word_stands word.ModeZeroAll w ts x s e = mode_all_stands (codes "bmode0") w Zero ts x (λ _ _ _ _ q v. rule.bmode0 q v) s e
word_stands word.NoMessage w ts x s e = absurd (cc)

message_stands : (ts : Tokens) (x : Form × Tokens) → message_at ts ≡ Ok x → MessageStands ts x.0 x.1
unfolding message_at
message_stands [] x e = absurd (cc)
message_stands (w ∷ ts) x e = word_stands (message_word w) w ts x (stands w) e

abbrev LineStands : Tokens → Line × Tokens → Type 0
LineStands ts x = (w : List ℕ) × (ts ≡ w ∷ x.1) × SpellsLine w x.0

line_stands : (ts : Tokens) (x : Line × Tokens) → line_at ts ≡ Ok x → LineStands ts x
unfolding line_at
line_stands [] x e = absurd (cc)
line_stands (w ∷ ts) x e = by (same_bytes w (codes "A")) (same_bytes w (codes "B")) refl refl e
  where
    by : (a b : Bool) → same_bytes w (codes "A") ≡ a → same_bytes w (codes "B") ≡ b → cond a (Ok (A, ts)) (cond b (Ok (B, ts)) (fails (misplaced w) (w ∷ ts))) ≡ Ok x → LineStands (w ∷ ts) x
    by true b h i j = subst (LineStands (w ∷ ts)) (ok_is (A, ts) x j) (codes "A", ap (λ z. z ∷ ts) (same_is w (codes "A") h), SpellsLine.line_a)
    by false true h i j = subst (LineStands (w ∷ ts)) (ok_is (B, ts) x j) (codes "B", ap (λ z. z ∷ ts) (same_is w (codes "B") i), SpellsLine.line_b)
    by false false h i j = absurd (cc)

-- a line and a message in front of the rest
abbrev pub SendStands : Tokens → (Line × Form) × Tokens → Type 0
SendStands ts x = (ws : Tokens) × (ts ≡ ws ++ x.1) × SpellSend ws x.0.0 x.0.1

pub send_stands : (ts : Tokens) (x : (Line × Form) × Tokens) → send_at ts ≡ Ok x → SendStands ts x
unfolding send_at
send_stands ts x e =
    let l = bind_ok (line_at ts) _ x e in
    let m = bind_ok (message_at l.0.1) _ x l.2 in
    let p = line_stands ts l.0 l.1 in
    let q = message_stands l.0.1 m.0 m.1 in
    subst (SendStands ts) (ok_is ((l.0.0, m.0.0), m.0.1) x m.2) (p.0 ∷ q.words, behind p.1 q.is, SpellSend.on_line p.2 q.spelled q.accepted)

-- tokens that make a request are read as its message
message_read : {ws : Tokens} {r : Request} → rule ws r → (m : Form) → checked r ≡ Ok m → (rest : Tokens) → MayFollow rest → message_at (ws ++ rest) ≡ Ok (m, rest)
unfolding message_at message_of message_word receive_at transmit_at transfer_at mode_at receive_all_at transfer_all_at mode_all_at
message_read (rule.rx {address = address} {sub = sub} {words = words} {a = a} {s = s} {ns = ns} p q v) m e rest f =
    rw (number_read address a p (sub ∷ words ++ rest), number_read sub s q (words ++ rest), words_read v (few_received a s ns m e) rest) (ap (λ z. judged_request (codes "rx" ∷ address ∷ sub ∷ words ++ rest) z rest) e)
message_read (rule.tx {address = address} {sub = sub} {count = count} {a = a} {s = s} {n = n} p q v) m e rest f =
    rw (number_read address a p (sub ∷ count ∷ rest), number_read sub s q (count ∷ rest), number_read count n v rest) (ap (λ z. judged_request (codes "tx" ∷ address ∷ sub ∷ count ∷ rest) z rest) e)
message_read (rule.rt {sender = sender} {from = from} {receiver = receiver} {to = to} {count = count} {a = a} {s = s} {b = b} {t = t} {n = n} p q u v k) m e rest f =
    rw (number_read sender a p (from ∷ receiver ∷ to ∷ count ∷ rest), number_read from s q (receiver ∷ to ∷ count ∷ rest), number_read receiver b u (to ∷ count ∷ rest), number_read to t v (count ∷ rest), number_read count n k rest)
    (ap (λ z. judged_request (codes "rt" ∷ sender ∷ from ∷ receiver ∷ to ∷ count ∷ rest) z rest) e)
message_read (rule.mode {address = address} {code = code} {words = words} {a = a} {c = c} {ns = ns} p q v) m e rest f =
    rw (number_read address a p (code ∷ words ++ rest), number_read code c q (words ++ rest), words_may_read v (few_mode a ThirtyOne c ns m e) rest f) (ap (λ z. judged_request (codes "mode" ∷ address ∷ code ∷ words ++ rest) z rest) e)
message_read (rule.mode0 {address = address} {code = code} {words = words} {a = a} {c = c} {ns = ns} p q v) m e rest f =
    rw (number_read address a p (code ∷ words ++ rest), number_read code c q (words ++ rest), words_may_read v (few_mode a Zero c ns m e) rest f) (ap (λ z. judged_request (codes "mode0" ∷ address ∷ code ∷ words ++ rest) z rest) e)
message_read (rule.brx {sub = sub} {words = words} {s = s} {ns = ns} q v) m e rest f =
    rw (number_read sub s q (words ++ rest), words_read v (few_received_by_all s ns m e) rest) (ap (λ z. judged_request (codes "brx" ∷ sub ∷ words ++ rest) z rest) e)
message_read (rule.brt {sender = sender} {from = from} {to = to} {count = count} {a = a} {s = s} {t = t} {n = n} p q v k) m e rest f =
    rw (number_read sender a p (from ∷ to ∷ count ∷ rest), number_read from s q (to ∷ count ∷ rest), number_read to t v (count ∷ rest), number_read count n k rest) (ap (λ z. judged_request (codes "brt" ∷ sender ∷ from ∷ to ∷ count ∷ rest) z rest) e)
message_read (rule.bmode {code = code} {words = words} {c = c} {ns = ns} q v) m e rest f =
    rw (number_read code c q (words ++ rest), words_may_read v (few_mode_to_all ThirtyOne c ns m e) rest f) (ap (λ z. judged_request (codes "bmode" ∷ code ∷ words ++ rest) z rest) e)
message_read (rule.bmode0 {code = code} {words = words} {c = c} {ns = ns} q v) m e rest f =
    rw (number_read code c q (words ++ rest), words_may_read v (few_mode_to_all Zero c ns m e) rest f) (ap (λ z. judged_request (codes "bmode0" ∷ code ∷ words ++ rest) z rest) e)

line_read : {w : List ℕ} {l : Line} → SpellsLine w l → (ts : Tokens) → line_at (w ∷ ts) ≡ Ok (l, ts)
unfolding line_at
line_read (SpellsLine.line_a) ts = refl
line_read (SpellsLine.line_b) ts = refl

pub send_read : {ws : Tokens} {l : Line} {m : Form} → SpellSend ws l m → (rest : Tokens) → MayFollow rest → send_at (ws ++ rest) ≡ Ok ((l, m), rest)
unfolding send_at
send_read (SpellSend.on_line {message = message} {m = m} p q e) rest f = rw (line_read p (message ++ rest), message_read q m e rest f) refl

pub sends_derived : SendsAreDerived
unfolding to_the_end
sends_derived text x = (forth, back)
  where
    forth : send_of_text text ≡ Ok x → HasSend text x
    forth e =
        let y = bind_ok (send_at (tokens text)) _ x (whole_ok (whole_send text) x e) in
        let z = end_ok y.0 x y.2 in
        let p = send_stands (tokens text) y.0 y.1 in
        let all : p.0 ≡ tokens text = sym (over p.0 p.1 z.1 ∙ append-nil p.0) in
        subst (HasSend text) z.0 (subst (λ u. SpellSend u y.0.0.0 y.0.0.1) all p.2)

    back : HasSend text x → send_of_text text ≡ Ok x
    back h =
        ap (λ ts. cause_alone (send_at ts >>= (λ read. to_the_end read))) (sym (append-nil (tokens text)))
        ∙ ap (λ r. cause_alone (r >>= (λ read. to_the_end read))) (send_read h [] tt)
