-- What the rules derive as frames is read.
use Rattle.std.proofs.Common.{◌≡◌, ℕ, zero, suc, ◌*◌, ◌≤◌, true, false, List, [], ◌∷◌, ◌++◌, length, Ok, refl, sym, ap, ◌∙◌, subst, append_assoc, arith}
use Rattle.std.specs.Prelude.{codes}
use Rattle.std.proofs.lemmas.Bool.{le-leb}
use Rattle.std.proofs.lemmas.List.{length-append}
use Rattle.frame_tree.specs.Tree.{Condition, Tree, repeat, choose, until, timed, nothing, chained, call}
use Rattle.frame_tree.specs.Bounds.{depth_in, CallsKnown, IsCondition}
use Rattle.frame_tree.specs.Names.{is_name, Scope, meant_by, is_known}
use Rattle.frame_text.specs.Reading.{Tokens, ◌>>=◌, same_bytes, past}
use Rattle.frame_text.specs.Frames.{Reader, frame_at, frame_from, frame_of, frame_word, frames_at, block_at, block_from, inner_at, else_at, label_at, call_at, repeat_at, timed_at, until_at, choice_at}
use Rattle.frame_text.proofs.PrintedForms.{MayFollow}
use Rattle.frame_text.proofs.Scripts.{frames_on}
use Rattle.frame_grammar.specs.Words.{SpellsWithin, braces}
use Rattle.frame_grammar.specs.Conditions.{SpellCondition}
use Rattle.frame_grammar.specs.Frames.{SpellFrame as rule, SpellFrames}
use Rattle.frame_grammar.proofs.Words.{within_read, period_read}
use Rattle.frame_grammar.proofs.Conditions.{condition_read}
use Rattle.frame_grammar.proofs.Messages.{send_read}
use Rattle.frame_grammar.proofs.Frames.{braced, if_words, else_words, until_words}

-- the first token of a frame
pub record Begins (ts : Tokens) : Type 0 where
  pub word : List ℕ
  pub more : Tokens
  pub is : ts ≡ word ∷ more
  pub no_brace : same_bytes word (codes "}") ≡ false
  pub no_bracket : same_bytes word (codes "[") ≡ false
  pub no_else : same_bytes word (codes "else") ≡ false
  pub no_define : same_bytes word (codes "define") ≡ false

pub begins : {ws : Tokens} {t : Tree} → rule ws t → Begins ws
begins (rule.send p) = record { word = codes "send"; more = _; is = refl; no_brace = refl; no_bracket = refl; no_else = refl; no_define = refl }
begins (rule.retry k p) = record { word = codes "retry"; more = _; is = refl; no_brace = refl; no_bracket = refl; no_else = refl; no_define = refl }
begins (rule.gap k) = record { word = codes "gap"; more = _; is = refl; no_brace = refl; no_bracket = refl; no_else = refl; no_define = refl }
begins (rule.repeat k p) = record { word = codes "repeat"; more = _; is = refl; no_brace = refl; no_bracket = refl; no_else = refl; no_define = refl }
begins (rule.choice c o p) = record { word = codes "if"; more = _; is = refl; no_brace = refl; no_bracket = refl; no_else = refl; no_define = refl }
begins (rule.choice_else c o p q) = record { word = codes "if"; more = _; is = refl; no_brace = refl; no_bracket = refl; no_else = refl; no_define = refl }
begins (rule.until c o k p) = record { word = codes "until"; more = _; is = refl; no_brace = refl; no_bracket = refl; no_else = refl; no_define = refl }
begins (rule.timed k p) = record { word = codes "frame"; more = _; is = refl; no_brace = refl; no_bracket = refl; no_else = refl; no_define = refl }
begins (rule.call n) = record { word = codes "call"; more = _; is = refl; no_brace = refl; no_bracket = refl; no_else = refl; no_define = refl }

-- what stands behind a frame among frames may follow it
pub follows : {ws : Tokens} {t : Tree} → SpellFrames ws t → (rest : Tokens) → MayFollow rest → MayFollow (ws ++ rest)
follows (SpellFrames.none) rest f = f
follows (SpellFrames.more {frame = frame} {frames = frames} p q) rest f =
    let b = begins p in
    subst MayFollow (sym (append_assoc frame frames rest ∙ ap (λ z. z ++ (frames ++ rest)) b.is)) (b.no_bracket, b.no_else)

-- how frames in a block, and a block, are read where so many blocks may stand in one another
abbrev FramesRead : Scope ℕ → ℕ → Tokens → Tree → Type 0
FramesRead ds d ws t = (n : ℕ) (rest : Tokens) → length (ws ++ codes "}" ∷ rest) ≤ n → frames_at (frame_at ds d) n (ws ++ codes "}" ∷ rest) ≡ Ok (t, rest)

abbrev BlockRead : Reader → Tokens → Tree → Type 0
BlockRead block ws t = (rest : Tokens) → block (codes "{" ∷ ws ++ codes "}" ∷ rest) ≡ Ok (t, rest)

pub block_read : (ds : Scope ℕ) (d : ℕ) (ws : Tokens) (t : Tree) → FramesRead ds d ws t → BlockRead (block_at ds (suc d)) ws t
unfolding block_from inner_at
block_read ds d ws t h rest = h (length (ws ++ codes "}" ∷ rest)) rest (omega arith)

repeat_read : (block : Reader) (number : List ℕ) (n : ℕ) (body : Tokens) (b : Tree) → SpellsWithin 1 10000 number n → BlockRead block body b
    → (rest : Tokens) → repeat_at block (number ∷ braces body ++ rest) ≡ Ok (repeat n b, rest)
repeat_read block number n body b k p rest =
    ap (λ z. repeat_at block (number ∷ z)) (braced body rest) ∙ rw (within_read k (codes "{" ∷ body ++ codes "}" ∷ rest), p rest) refl

timed_read : (block : Reader) (number : List ℕ) (h : ℕ) (body : Tokens) (b : Tree) → SpellsWithin 100 6553500 number (h * 100) → BlockRead block body b
    → (rest : Tokens) → timed_at block (number ∷ braces body ++ rest) ≡ Ok (timed h b, rest)
timed_read block number h body b k p rest =
    ap (λ z. timed_at block (number ∷ z)) (braced body rest) ∙ rw (period_read k (codes "{" ∷ body ++ codes "}" ∷ rest), p rest) refl

until_read : (block : Reader) (condition body : Tokens) (number : List ℕ) (c : Condition) (n : ℕ) (b : Tree) → SpellCondition condition c → IsCondition c → SpellsWithin 1 10000 number n → BlockRead block body b
    → (rest : Tokens) → until_at block (condition ++ codes "at" ∷ codes "most" ∷ number ∷ braces body ++ rest) ≡ Ok (until c n b, rest)
unfolding past
until_read block condition body number c n b q few k p rest =
    ap (until_at block) (sym (until_words condition body rest number))
    ∙ rw (condition_read q 16 few (codes "at" ∷ codes "most" ∷ number ∷ codes "{" ∷ body ++ codes "}" ∷ rest), within_read k (codes "{" ∷ body ++ codes "}" ∷ rest), p rest) refl

else_none : (block : Reader) (ts : Tokens) → MayFollow ts → else_at block ts ≡ Ok (nothing, ts)
unfolding else_at
else_none block [] f = refl
else_none block (w ∷ ts) f = rw f.1 refl

else_read : (block : Reader) (body : Tokens) (b : Tree) → BlockRead block body b → (rest : Tokens) → else_at block (codes "else" ∷ (codes "{" ∷ body ++ codes "}" ∷ rest)) ≡ Ok (b, rest)
unfolding else_at
else_read block body b p rest = p rest

choice_read : (block : Reader) (condition one : Tokens) (c : Condition) (a : Tree) → SpellCondition condition c → IsCondition c → BlockRead block one a
    → (rest : Tokens) → MayFollow rest → choice_at block (condition ++ braces one ++ rest) ≡ Ok (choose c a nothing, rest)
choice_read block condition one c a q few p rest f =
    ap (choice_at block) (sym (if_words condition one rest))
    ∙ rw (condition_read q 16 few (codes "{" ∷ one ++ codes "}" ∷ rest), p rest, else_none block rest f) refl

choice_else_read : (block : Reader) (condition one other : Tokens) (c : Condition) (a b : Tree) → SpellCondition condition c → IsCondition c → BlockRead block one a → BlockRead block other b
    → (rest : Tokens) → choice_at block (condition ++ braces one ++ codes "else" ∷ braces other ++ rest) ≡ Ok (choose c a b, rest)
choice_else_read block condition one other c a b q few p o rest =
    let behind : Tokens = codes "else" ∷ (codes "{" ∷ other ++ codes "}" ∷ rest) in
    ap (choice_at block) (sym (else_words condition one other rest))
    ∙ rw (condition_read q 16 few (codes "{" ∷ one ++ codes "}" ∷ behind), p behind, else_read block other b o rest) refl

call_read : (ds : Scope ℕ) (d : ℕ) (frame : Tokens) (n : List ℕ) (ts : Tokens) → is_name n ≡ true → is_known ds n ≡ true → meant_by 0 ds n ≤ d → call_at ds d frame (n ∷ ts) ≡ Ok (call n, ts)
unfolding label_at
call_read ds d frame n ts r w l = rw (r, w, le-leb (meant_by 0 ds n) d l) refl

-- the closing brace
no_frame_read : (frame : Reader) (n : ℕ) (rest : Tokens) → length (codes "}" ∷ rest) ≤ n → frames_at frame n (codes "}" ∷ rest) ≡ Ok (nothing, rest)
unfolding frames_at
no_frame_read frame zero rest s = absurd (omega (arith, s))
no_frame_read frame (suc n) rest s = refl

-- one frame, and those behind it
one_more_read : (frame : Reader) (n : ℕ) (ws ts rest : Tokens) (a b : Tree) → Begins ws → length (ws ++ ts) ≤ n → frame (ws ++ ts) ≡ Ok (a, ts)
    → ((m : ℕ) → length ts ≤ m → frames_at frame m ts ≡ Ok (b, rest)) → frames_at frame n (ws ++ ts) ≡ Ok (chained a b, rest)
one_more_read frame zero ws ts rest a b g s one more = absurd (omega (arith, s, ap (λ z. length (z ++ ts)) g.is))
one_more_read frame (suc n) ws ts rest a b g s one more =
    frames_on frame n g.word (ws ++ ts) (g.more ++ ts) (ap (λ z. z ++ ts) g.is) g.no_brace
    ∙ ap (λ r. r >>= (λ x. frames_at frame n x.1 >>= (λ y. Ok (chained x.0 y.0, y.1)))) one
    ∙ ap (λ r. r >>= (λ y. Ok (chained a y.0, y.1))) (more n (omega (arith, s, ap (λ z. length (z ++ ts)) g.is, length-append g.more ts)))

mutual
  unfolding frame_from frame_of frame_word past

  -- a frame in its scope, not too deep
  pub frame_read : {ws : Tokens} {t : Tree} → rule ws t → (ds : Scope ℕ) (d : ℕ) → CallsKnown ds t → depth_in ds t ≤ d → (rest : Tokens) → MayFollow rest → frame_at ds d (ws ++ rest) ≡ Ok (t, rest)
  frame_read (rule.send p) ds d w l rest f = rw (send_read p rest f) refl
  frame_read (rule.retry {message = message} k p) ds d w l rest f = rw (within_read k (codes "send" ∷ message ++ rest), send_read p rest f) refl
  frame_read (rule.gap k) ds d w l rest f = rw (within_read k rest) refl
  frame_read (rule.repeat k p) ds zero w l rest f = absurd (omega (arith, l))
  frame_read (rule.repeat {number = number} {body = body} {n = n} {b = b} k p) ds (suc d) w l rest f =
      repeat_read (block_at ds (suc d)) number n body b k (block_read ds d body b (frames_read p ds d w (omega (arith, l)))) rest
  frame_read (rule.choice c o p) ds zero w l rest f = absurd (omega (arith, l))
  frame_read (rule.choice {cond = condition} {one = one} {c = c} {a = a} q o p) ds (suc d) w l rest f =
      choice_read (block_at ds (suc d)) condition one c a q o (block_read ds d one a (frames_read p ds d w.0 (omega (arith, l)))) rest f
  frame_read (rule.choice_else c o p q) ds zero w l rest f = absurd (omega (arith, l))
  frame_read (rule.choice_else {cond = condition} {one = one} {other = other} {c = c} {a = a} {b = b} k o p q) ds (suc d) w l rest f =
      choice_else_read (block_at ds (suc d)) condition one other c a b k o (block_read ds d one a (frames_read p ds d w.0 (omega (arith, l)))) (block_read ds d other b (frames_read q ds d w.1 (omega (arith, l)))) rest
  frame_read (rule.until c o k p) ds zero w l rest f = absurd (omega (arith, l))
  frame_read (rule.until {cond = condition} {body = body} {number = number} {c = c} {n = n} {b = b} q o k p) ds (suc d) w l rest f =
      until_read (block_at ds (suc d)) condition body number c n b q o k (block_read ds d body b (frames_read p ds d w (omega (arith, l)))) rest
  frame_read (rule.timed k p) ds zero w l rest f = absurd (omega (arith, l))
  frame_read (rule.timed {number = number} {body = body} {h = h} {b = b} k p) ds (suc d) w l rest f =
      timed_read (block_at ds (suc d)) number h body b k (block_read ds d body b (frames_read p ds d w (omega (arith, l)))) rest
  frame_read (rule.call {label = label} n) ds d w l rest f = call_read ds d (codes "call" ∷ label ∷ rest) label rest n w l

  -- frames up to the closing brace
  pub frames_read : {ws : Tokens} {t : Tree} → SpellFrames ws t → (ds : Scope ℕ) (d : ℕ) → CallsKnown ds t → depth_in ds t ≤ d → FramesRead ds d ws t
  frames_read (SpellFrames.none) ds d w l n rest s = no_frame_read (frame_at ds d) n rest s
  frames_read (SpellFrames.more {frame = frame} {frames = frames} {a = a} {b = b} p q) ds d w l n rest s =
      let behind : Tokens = frames ++ codes "}" ∷ rest in
      let is = append_assoc frame frames (codes "}" ∷ rest) in
      ap (frames_at (frame_at ds d) n) is
      ∙ one_more_read (frame_at ds d) n frame behind rest a b (begins p) (subst (λ z. length z ≤ n) is s)
      (frame_read p ds d w.0 (omega (arith, l)) behind (follows q (codes "}" ∷ rest) (refl, refl))) (λ m k. frames_read q ds d w.1 (omega (arith, l)) m rest k)
