-- What is read as frames is what the rules derive.
use Rattle.std.proofs.Common.{◌≡◌, ℕ, zero, suc, Bool, true, false, cond, List, [], ◌∷◌, ◌++◌, length, Ok, Err, refl, sym, ap, ◌∙◌, subst, append_assoc, ◌⊎◌, inl, inr}
use Rattle.std.specs.Prelude.{codes, nat_le}
use Rattle.frame_tree.specs.Tree.{Condition, Tree, send, retry, gap, repeat, choose, until, timed, nothing, chained, call}
use Rattle.frame_tree.specs.Names.{is_name, Scope, is_known}
use Rattle.frame_tree.specs.Names as names
use Rattle.frame_tree.specs.Bounds.{IsCondition}
use Rattle.frame_text.specs.Reading.{Tokens, fails, ◌>>=◌, same_bytes, misplaced, past}
use Rattle.frame_text.specs.Words.{number_within, period_at}
use Rattle.frame_text.specs.Messages.{send_at}
use Rattle.frame_text.specs.Conditions.{condition_at}
use Rattle.frame_text.specs.Frames.{Reader, frame_at, frame_from, frame_of, frame_word, frames_at, block_at, block_from, inner_at, else_at, label_at, call_at}
use Rattle.frame_text.specs.declared.faults.Cause.TheVariants as cause
use Rattle.frame_text.specs.declared.keywords.FrameWord.{FrameWord}
use Rattle.frame_text.specs.declared.keywords.FrameWord.TheVariants as word
use Rattle.frame_text.proofs.Soundness.{bind_ok, ok_is, condition_ok}
use Rattle.frame_grammar.specs.Words.{braces}
use Rattle.frame_grammar.specs.Frames.{SpellFrame as rule, SpellFrames}
use Rattle.frame_grammar.proofs.Pieces.{same_is, of_choice, past_ok, three, begun, behind, over}
use Rattle.frame_grammar.proofs.Words.{within_stands, period_stands, guarded}
use Rattle.frame_grammar.proofs.Conditions.{Spelled, condition_spelled}
use Rattle.frame_grammar.proofs.Messages.{send_stands}

-- a frame in front of the rest
abbrev pub FrameStands : Tokens → Tree × Tokens → Type 0
FrameStands ts x = (ws : Tokens) × (ts ≡ ws ++ x.1) × rule ws x.0

-- frames and a closing brace in front of the rest
abbrev pub FramesStand : Tokens → Tree × Tokens → Type 0
FramesStand ts x = (ws : Tokens) × (ts ≡ ws ++ codes "}" ∷ x.1) × SpellFrames ws x.0

-- the same behind an opening brace
abbrev pub BlockStands : Tokens → Tree × Tokens → Type 0
BlockStands ts x = (ws : Tokens) × (ts ≡ codes "{" ∷ ws ++ codes "}" ∷ x.1) × SpellFrames ws x.0

abbrev pub ReadsFrames : Reader → Type 0
ReadsFrames reader = (ts : Tokens) (x : Tree × Tokens) → reader ts ≡ Ok x → FrameStands ts x

abbrev pub ReadsBlocks : Reader → Type 0
ReadsBlocks reader = (ts : Tokens) (x : Tree × Tokens) → reader ts ≡ Ok x → BlockStands ts x

-- the word that begins a frame
abbrev Stands : FrameWord → List ℕ → Type 0
Stands word.Send w = w ≡ codes "send"
Stands word.Retry w = w ≡ codes "retry"
Stands word.Gap w = w ≡ codes "gap"
Stands word.Repeat w = w ≡ codes "repeat"
Stands word.If w = w ≡ codes "if"
Stands word.Until w = w ≡ codes "until"
Stands word.Timed w = w ≡ codes "frame"
Stands word.Call w = w ≡ codes "call"
Stands word.NoFrame w = Unit {0}

stands : (w : List ℕ) → Stands (frame_word w) w
unfolding frame_word
stands w =
    let P : FrameWord → Type 0 = λ k. Stands k w in
    of_choice P (same_bytes w (codes "send")) _ _ (same_is w (codes "send"))
    (of_choice P (same_bytes w (codes "retry")) _ _ (same_is w (codes "retry"))
    (of_choice P (same_bytes w (codes "gap")) _ _ (same_is w (codes "gap"))
    (of_choice P (same_bytes w (codes "repeat")) _ _ (same_is w (codes "repeat"))
    (of_choice P (same_bytes w (codes "if")) _ _ (same_is w (codes "if"))
    (of_choice P (same_bytes w (codes "until")) _ _ (same_is w (codes "until"))
    (of_choice P (same_bytes w (codes "frame")) _ _ (same_is w (codes "frame"))
    (of_choice P (same_bytes w (codes "call")) _ word.NoFrame (same_is w (codes "call")) tt)))))))

-- what stands behind braces may as well stand behind their inside
pub braced : (body rest : Tokens) → braces body ++ rest ≡ codes "{" ∷ body ++ codes "}" ∷ rest
braced body rest = ap (λ z. codes "{" ∷ z) (append_assoc body (codes "}" ∷ []) rest)

-- a block in front of the rest, braces and all
in_braces : (ts body rest : Tokens) → ts ≡ codes "{" ∷ body ++ codes "}" ∷ rest → ts ≡ braces body ++ rest
in_braces ts body rest e = e ∙ sym (braced body rest)

send_frame : (w : List ℕ) (ts : Tokens) (x : Tree × Tokens) → w ≡ codes "send" → (send_at ts >>= (λ m. Ok (send m.0.0 m.0.1, m.1))) ≡ Ok x → FrameStands (w ∷ ts) x
send_frame w ts x h e =
    let m = bind_ok (send_at ts) _ x e in
    let p = send_stands ts m.0 m.1 in
    subst (FrameStands (w ∷ ts)) (ok_is _ x m.2) (codes "send" ∷ p.0, begun h p.1, rule.send p.2)

retry_frame : (w : List ℕ) (ts : Tokens) (x : Tree × Tokens) → w ≡ codes "retry" → (number_within 1 8 ts >>= (λ n. past (codes "send") n.1 >>= (λ us. send_at us >>= (λ m. Ok (retry n.0 m.0.0 m.0.1, m.1))))) ≡ Ok x → FrameStands (w ∷ ts) x
retry_frame w ts x h e =
    let n = bind_ok (number_within 1 8 ts) _ x e in
    let u = bind_ok (past (codes "send") n.0.1) _ x n.2 in
    let m = bind_ok (send_at u.0) _ x u.2 in
    let k = within_stands 1 8 ts n.0 n.1 in
    let p = send_stands u.0 m.0 m.1 in
    subst (FrameStands (w ∷ ts)) (ok_is _ x m.2)
    (codes "retry" ∷ k.0 ∷ codes "send" ∷ p.0, begun h (behind k.1 (behind (past_ok (codes "send") n.0.1 u.0 u.1) p.1)), rule.retry k.2 p.2)

gap_frame : (w : List ℕ) (ts : Tokens) (x : Tree × Tokens) → w ≡ codes "gap" → (number_within 40 65535 ts >>= (λ n. Ok (gap n.0, n.1))) ≡ Ok x → FrameStands (w ∷ ts) x
gap_frame w ts x h e =
    let n = bind_ok (number_within 40 65535 ts) _ x e in
    let k = within_stands 40 65535 ts n.0 n.1 in
    subst (FrameStands (w ∷ ts)) (ok_is _ x n.2) (codes "gap" ∷ k.0 ∷ [], begun h k.1, rule.gap k.2)

repeat_frame : (block : Reader) → ReadsBlocks block → (w : List ℕ) (ts : Tokens) (x : Tree × Tokens) → w ≡ codes "repeat" → (number_within 1 10000 ts >>= (λ n. block n.1 >>= (λ b. Ok (repeat n.0 b.0, b.1)))) ≡ Ok x → FrameStands (w ∷ ts) x
repeat_frame block all w ts x h e =
    let n = bind_ok (number_within 1 10000 ts) _ x e in
    let b = bind_ok (block n.0.1) _ x n.2 in
    let k = within_stands 1 10000 ts n.0 n.1 in
    let p = all n.0.1 b.0 b.1 in
    subst (FrameStands (w ∷ ts)) (ok_is _ x b.2)
    (codes "repeat" ∷ k.0 ∷ braces p.0, begun h (behind k.1 (in_braces n.0.1 p.0 b.0.1 p.1)), rule.repeat k.2 p.2)

timed_frame : (block : Reader) → ReadsBlocks block → (w : List ℕ) (ts : Tokens) (x : Tree × Tokens) → w ≡ codes "frame" → (period_at ts >>= (λ n. block n.1 >>= (λ b. Ok (timed n.0 b.0, b.1)))) ≡ Ok x → FrameStands (w ∷ ts) x
timed_frame block all w ts x h e =
    let n = bind_ok (period_at ts) _ x e in
    let b = bind_ok (block n.0.1) _ x n.2 in
    let k = period_stands ts n.0 n.1 in
    let p = all n.0.1 b.0 b.1 in
    subst (FrameStands (w ∷ ts)) (ok_is _ x b.2)
    (codes "frame" ∷ k.0 ∷ braces p.0, begun h (behind k.1 (in_braces n.0.1 p.0 b.0.1 p.1)), rule.timed k.2 p.2)

-- the words of an until, in front of the rest
pub until_words : (condition body rest : Tokens) (number : List ℕ)
    → condition ++ (codes "at" ∷ codes "most" ∷ number ∷ codes "{" ∷ body ++ codes "}" ∷ rest) ≡ condition ++ codes "at" ∷ codes "most" ∷ number ∷ braces body ++ rest
until_words condition body rest number = sym (append_assoc condition (codes "at" ∷ codes "most" ∷ number ∷ braces body) rest ∙ ap (λ z. condition ++ codes "at" ∷ codes "most" ∷ number ∷ z) (braced body rest))

until_frame : (block : Reader) → ReadsBlocks block → (w : List ℕ) (ts : Tokens) (x : Tree × Tokens) → w ≡ codes "until"
    → (condition_at 16 ts >>= (λ c. past (codes "at") c.1 >>= (λ us. past (codes "most") us >>= (λ vs. number_within 1 10000 vs >>= (λ n. block n.1 >>= (λ b. Ok (until c.0 n.0 b.0, b.1))))))) ≡ Ok x → FrameStands (w ∷ ts) x
until_frame block all w ts x h e =
    let c = bind_ok (condition_at 16 ts) _ x e in
    let u = bind_ok (past (codes "at") c.0.1) _ x c.2 in
    let v = bind_ok (past (codes "most") u.0) _ x u.2 in
    let n = bind_ok (number_within 1 10000 v.0) _ x v.2 in
    let b = bind_ok (block n.0.1) _ x n.2 in
    let q = condition_spelled 16 ts c.0 c.1 in
    let k = within_stands 1 10000 v.0 n.0 n.1 in
    let p = all n.0.1 b.0 b.1 in
    let tail = behind (past_ok (codes "at") c.0.1 u.0 u.1) (behind (past_ok (codes "most") u.0 v.0 v.1) (behind k.1 p.1)) in
    subst (FrameStands (w ∷ ts)) (ok_is _ x b.2) (
      codes "until" ∷ q.0 ++ codes "at" ∷ codes "most" ∷ k.0 ∷ braces p.0,
      begun h (over q.0 q.1 tail ∙ until_words q.0 p.0 b.0.1 k.0),
      rule.until q.2 (condition_ok 16 ts c.0 c.1) k.2 p.2,
    )

-- no else behind a block, or one with a block
abbrev ElseStands : Tokens → Tree × Tokens → Type 0
ElseStands ts x = ((nothing ≡ x.0) × (ts ≡ x.1)) ⊎ ((us : Tokens) × (ts ≡ codes "else" ∷ us) × BlockStands us x)

else_stands : (block : Reader) → ReadsBlocks block → (ts : Tokens) (x : Tree × Tokens) → else_at block ts ≡ Ok x → ElseStands ts x
unfolding else_at
else_stands block all [] x e = let g : (nothing, []) ≡ x = ok_is (nothing, []) x e in inl (ap (λ z. z.0) g, ap (λ z. z.1) g)
else_stands block all (w ∷ ts) x e = by (same_bytes w (codes "else")) refl e
  where
    by : (b : Bool) → same_bytes w (codes "else") ≡ b → cond b (block ts) (Ok (nothing, w ∷ ts)) ≡ Ok x → ElseStands (w ∷ ts) x
    by true h i = inr (ts, ap (λ z. z ∷ ts) (same_is w (codes "else") h), all ts x i)
    by false h i = let g : (nothing, w ∷ ts) ≡ x = ok_is (nothing, w ∷ ts) x i in inl (ap (λ z. z.0) g, ap (λ z. z.1) g)

-- the words of an if, in front of the rest
pub if_words : (condition one rest : Tokens) → condition ++ (codes "{" ∷ one ++ codes "}" ∷ rest) ≡ condition ++ braces one ++ rest
if_words condition one rest = sym (append_assoc condition (braces one) rest ∙ ap (λ z. condition ++ z) (braced one rest))

pub else_words : (condition one other rest : Tokens)
    → condition ++ (codes "{" ∷ one ++ codes "}" ∷ codes "else" ∷ (codes "{" ∷ other ++ codes "}" ∷ rest)) ≡ condition ++ braces one ++ codes "else" ∷ braces other ++ rest
else_words condition one other rest =
    sym (three condition (braces one) (codes "else" ∷ braces other) rest
    ∙ ap (λ z. condition ++ z) (braced one (codes "else" ∷ (braces other ++ rest)) ∙ ap (λ z. codes "{" ∷ one ++ codes "}" ∷ codes "else" ∷ z) (braced other rest)))

choice_frame : (block : Reader) → ReadsBlocks block → (w : List ℕ) (ts : Tokens) (x : Tree × Tokens) → w ≡ codes "if"
    → (condition_at 16 ts >>= (λ c. block c.1 >>= (λ a. else_at block a.1 >>= (λ b. Ok (choose c.0 a.0 b.0, b.1))))) ≡ Ok x → FrameStands (w ∷ ts) x
choice_frame block all w ts x h e =
    let c = bind_ok (condition_at 16 ts) _ x e in
    let a = bind_ok (block c.0.1) _ x c.2 in
    let b = bind_ok (else_at block a.0.1) _ x a.2 in
    subst (FrameStands (w ∷ ts)) (ok_is _ x b.2) (by c.0 a.0 b.0 (condition_spelled 16 ts c.0 c.1) (condition_ok 16 ts c.0 c.1) (all c.0.1 a.0 a.1) (else_stands block all a.0.1 b.0 b.1))
  where
    by : (c : Condition × Tokens) (a b : Tree × Tokens) → Spelled ts c → IsCondition c.0 → BlockStands c.1 a → ElseStands a.1 b → FrameStands (w ∷ ts) (choose c.0 a.0 b.0, b.1)
    by c a b q few p (inl (empty, is)) =
        subst (λ z. FrameStands (w ∷ ts) (choose c.0 a.0 z, b.1)) empty
        (codes "if" ∷ q.0 ++ braces p.0, begun h (over q.0 q.1 (p.1 ∙ ap (λ z. codes "{" ∷ p.0 ++ codes "}" ∷ z) is) ∙ if_words q.0 p.0 b.1), rule.choice q.2 few p.2)
    by c a b q few p (inr (us, is, o)) = (
      codes "if" ∷ q.0 ++ braces p.0 ++ codes "else" ∷ braces o.0,
      begun h (over q.0 q.1 (p.1 ∙ ap (λ z. codes "{" ∷ p.0 ++ codes "}" ∷ z) (behind is o.1)) ∙ else_words q.0 p.0 o.0 b.1),
      rule.choice_else q.2 few p.2 o.2,
    )

-- a name in front of the rest
abbrev pub LabelStands : Tokens → List ℕ × Tokens → Type 0
LabelStands ts x = (ts ≡ x.0 ∷ x.1) × (is_name x.0 ≡ true)

pub label_stands : (ts : Tokens) (x : List ℕ × Tokens) → label_at ts ≡ Ok x → LabelStands ts x
unfolding label_at
label_stands [] x e = absurd (cc)
label_stands (w ∷ ts) x e = let k = guarded (is_name w) (w, ts) x (misplaced w, length (w ∷ ts)) e in subst (LabelStands (w ∷ ts)) k.1 (refl, k.0)

-- a call of a name in scope
call_frame : (ds : Scope ℕ) (d : ℕ) (w : List ℕ) (ts : Tokens) (x : Tree × Tokens) → w ≡ codes "call" → call_at ds d (w ∷ ts) ts ≡ Ok x → FrameStands (w ∷ ts) x
call_frame ds d w ts x h e =
    let n = bind_ok (label_at ts) _ x e in
    let l = label_stands ts n.0 n.1 in
    let c = bind_cond n.2 in
    subst (FrameStands (w ∷ ts)) c (codes "call" ∷ n.0.0 ∷ [], begun h l.0, rule.call l.1)
  where
    bind_cond : {n : List ℕ × Tokens} → cond (is_known ds n.0) (cond (nat_le (names.meant_by 0 ds n.0) d) (Ok (call n.0, n.1)) (fails cause.Depth (w ∷ ts))) (fails cause.Name ts) ≡ Ok x → (call n.0, n.1) ≡ x
    bind_cond {n = n} i = by (is_known ds n.0) (nat_le (names.meant_by 0 ds n.0) d) i
      where
        by : (b k : Bool) → cond b (cond k (Ok (call n.0, n.1)) (fails cause.Depth (w ∷ ts))) (fails cause.Name ts) ≡ Ok x → (call n.0, n.1) ≡ x
        by true true j = ok_is (call n.0, n.1) x j
        by true false j = absurd (cc)
        by false k j = absurd (cc)

word_stands : (ds : Scope ℕ) (d : ℕ) (block : Reader) → ReadsBlocks block → (k : FrameWord) (w : List ℕ) (ts : Tokens) (x : Tree × Tokens) → Stands k w → frame_of (call_at ds d) block k w ts ≡ Ok x → FrameStands (w ∷ ts) x
unfolding frame_of
word_stands ds d block all word.Send w ts x s e = send_frame w ts x s e
word_stands ds d block all word.Retry w ts x s e = retry_frame w ts x s e
word_stands ds d block all word.Gap w ts x s e = gap_frame w ts x s e
word_stands ds d block all word.Repeat w ts x s e = repeat_frame block all w ts x s e
word_stands ds d block all word.If w ts x s e = choice_frame block all w ts x s e
word_stands ds d block all word.Until w ts x s e = until_frame block all w ts x s e
word_stands ds d block all word.Timed w ts x s e = timed_frame block all w ts x s e
word_stands ds d block all word.Call w ts x s e = call_frame ds d w ts x s e
word_stands ds d block all word.NoFrame w ts x s e = absurd (cc)

frame_stands : (ds : Scope ℕ) (d : ℕ) (block : Reader) → ReadsBlocks block → ReadsFrames (frame_from (call_at ds d) block)
unfolding frame_from
frame_stands ds d block all [] x e = absurd (cc)
frame_stands ds d block all (w ∷ ts) x e = word_stands ds d block all (frame_word w) w ts x (stands w) e

abbrev ReadsInside : Reader → Type 0
ReadsInside reader = (ts : Tokens) (x : Tree × Tokens) → reader ts ≡ Ok x → FramesStand ts x

frames_stand : (frame : Reader) → ReadsFrames frame → (n : ℕ) → ReadsInside (frames_at frame n)
unfolding frames_at
frames_stand frame all n [] x e = absurd (cc)
frames_stand frame all zero (w ∷ ts) x e = absurd (cc)
frames_stand frame all (suc n) (w ∷ ts) x e = by (same_bytes w (codes "}")) refl (frames_stand frame all n) e
  where
    by : (t : Bool) → same_bytes w (codes "}") ≡ t → ReadsInside (frames_at frame n) → cond t (Ok (nothing, ts)) (frame (w ∷ ts) >>= (λ y. frames_at frame n y.1 >>= (λ z. Ok (chained y.0 z.0, z.1)))) ≡ Ok x → FramesStand (w ∷ ts) x
    by true h more i = subst (FramesStand (w ∷ ts)) (ok_is (nothing, ts) x i) ([], ap (λ z. z ∷ ts) (same_is w (codes "}") h), SpellFrames.none)
    by false h more i =
        let a = bind_ok (frame (w ∷ ts)) _ x i in
        let b = bind_ok (frames_at frame n a.0.1) _ x a.2 in
        let p = all (w ∷ ts) a.0 a.1 in
        let q = more a.0.1 b.0 b.1 in
        subst (FramesStand (w ∷ ts)) (ok_is _ x b.2) (p.0 ++ q.0, over p.0 p.1 q.1 ∙ sym (append_assoc p.0 q.0 (codes "}" ∷ b.0.1)), SpellFrames.more p.2 q.2)

pub block_stands : (ds : Scope ℕ) (d : ℕ) → ReadsBlocks (block_at ds d)
unfolding block_from inner_at
block_stands ds d [] x e = absurd (cc)
block_stands ds zero (w ∷ ts) x e = by (same_bytes w (codes "{")) e
  where
    by : (t : Bool) → cond t (fails cause.Depth (w ∷ ts)) (fails (misplaced w) (w ∷ ts)) ≡ Ok x → BlockStands (w ∷ ts) x
    by true i = absurd (cc)
    by false i = absurd (cc)
block_stands ds (suc d) (w ∷ ts) x e = by (same_bytes w (codes "{")) refl (block_stands ds d) e
  where
    by : (t : Bool) → same_bytes w (codes "{") ≡ t → ReadsBlocks (block_at ds d) → cond t (frames_at (frame_at ds d) (length ts) ts) (fails (misplaced w) (w ∷ ts)) ≡ Ok x → BlockStands (w ∷ ts) x
    by true h more i = let p = frames_stand (frame_at ds d) (frame_stands ds d (block_at ds d) more) (length ts) ts x i in (p.0, begun (same_is w (codes "{") h) p.1, p.2)
    by false h more i = absurd (cc)

pub one_stands : (ds : Scope ℕ) (d : ℕ) → ReadsFrames (frame_at ds d)
one_stands ds d = frame_stands ds d (block_at ds d) (block_stands ds d)
