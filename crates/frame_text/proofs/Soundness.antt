-- A tree that a text has is sound.
use Rattle.std.proofs.Common.{◌≡◌, ℕ, zero, suc, ◌+◌, ◌/◌, ◌%◌, ◌≤◌, max, Bool, true, false, cond, List, [], ◌∷◌, length, Result, Ok, Err, refl, sym, ap, ◌∙◌, subst, arith}
use Rattle.std.specs.Prelude.{nat_eq, nat_le, ◌&&◌, ◌||◌, codes}
use Rattle.std.proofs.lemmas.Bool.Decides.{nat_tests}
use Rattle.frame_tree.specs.Tree.{Condition, Tree, send, retry, gap, repeat, choose, until, timed, nothing, chained, call, define}
use Rattle.frame_tree.specs.Bounds.{depth_in, worst_messages, operators, IsInRange, CallsKnown, IsDefined, IsSound}
use Rattle.frame_tree.specs.Names.{Scope, is_known}
use Rattle.frame_tree.specs.Names as names
use Rattle.std.proofs.lemmas.Bool.{leb-true}
use Rattle.frame_text.specs.Reading.{◌>>=◌, Failure, fails, Tokens, TokenReading, same_bytes, misplaced, past}
use Rattle.frame_text.specs.Words.{number_at, number_within, period_at}
use Rattle.frame_text.specs.Messages.{send_at}
use Rattle.frame_text.specs.Conditions.{condition_at, condition_from, condition_of, condition_word, below_at, name_at, pair_at}
use Rattle.frame_text.specs.Frames.{Reader, frame_at, frame_from, frame_of, frame_word, frames_at, block_at, block_from, inner_at, else_at, label_at, call_at, main_at, fresh_name_at, definition_at, script_at}
use Rattle.frame_text.specs.declared.faults.Cause.TheVariants as cause
use Rattle.frame_text.specs.declared.keywords.ConditionWord.{ConditionWord}
use Rattle.frame_text.specs.declared.keywords.ConditionWord.TheVariants as key
use Rattle.frame_text.specs.declared.keywords.FrameWord.{FrameWord}
use Rattle.frame_text.specs.declared.keywords.FrameWord.TheVariants as word

-- what a reading that went well read first
pub bind_ok : {X Y : Type 0} (r : Result X Failure) (f : X → Result Y Failure) (y : Y) → (r >>= f) ≡ Ok y → (x : X) × (r ≡ Ok x) × (f x ≡ Ok y)
bind_ok (Ok x) f y e = (x, refl, e)
bind_ok (Err c) f y e = absurd (cc)

abbrev pub ok : {X : Type 0} → X → Result X Failure
ok x = Ok x

pub ok_is : {X : Type 0} (x y : X) → ok x ≡ ok y → x ≡ y
ok_is x y e = cc

chosen : {X : Type 0} (b : Bool) (x y : X) (c : Failure) → cond b (Ok x) (Err c) ≡ Ok y → (b ≡ true) × (x ≡ y)
chosen true x y c e = (refl, ok_is x y e)
chosen false x y c e = absurd (cc)

pub both_true : (low n high : ℕ) → (nat_le low n && nat_le n high) ≡ true → (low ≤ n) × (n ≤ high)
both_true low n high e = (grind (arith, nat_tests), grind (arith, nat_tests))

number_ok : (low high : ℕ) (ts : Tokens) (n : ℕ × Tokens) → number_within low high ts ≡ Ok n → (low ≤ n.0) × (n.0 ≤ high)
unfolding number_within
number_ok low high ts n e =
    let b = bind_ok (number_at ts) _ n e in
    let k = chosen (nat_le low b.0.0 && nat_le b.0.0 high) b.0 n (cause.Range, length ts) b.2 in
    let r = both_true low b.0.0 high k.0 in
    let i : b.0.0 ≡ n.0 = ap (λ m. m.0) k.1 in
    (omega (arith, r.0, i), omega (arith, r.1, i))

period_ok : (ts : Tokens) (n : ℕ × Tokens) → period_at ts ≡ Ok n → (1 ≤ n.0) × (n.0 ≤ 65535)
unfolding period_at
period_ok ts n e =
    let b = bind_ok (number_within 100 6553500 ts) _ n e in
    let r = number_ok 100 6553500 ts b.0 b.1 in
    let k = chosen (nat_eq (b.0.0 % 100) 0) (b.0.0 / 100, b.0.1) n (cause.Range, length ts) b.2 in
    let i : b.0.0 / 100 ≡ n.0 = ap (λ m. m.0) k.1 in
    (omega (arith, r.0, i), omega (arith, r.1, i))

-- a condition with at most so many operators above a test
abbrev IsWithin : ℕ → Condition → Type 0
IsWithin d c = operators c ≤ d

abbrev ConditionReader : Type 0
ConditionReader = Tokens → TokenReading Condition

abbrev ReadsWithin : ℕ → ConditionReader → Type 0
ReadsWithin d reader = (ts : Tokens) (c : Condition × Tokens) → reader ts ≡ Ok c → IsWithin d c.0

pair_ok : (d : ℕ) (reader : ConditionReader) → ReadsWithin d reader → (ts : Tokens) (x : (Condition × Condition) × Tokens) → pair_at reader ts ≡ Ok x → IsWithin d x.0.0 × IsWithin d x.0.1
unfolding pair_at
pair_ok d reader sound ts x e =
    let o = bind_ok (past (codes "(") ts) _ x e in
    let a = bind_ok (reader o.0) _ x o.2 in
    let b = bind_ok (reader a.0.1) _ x a.2 in
    let r = bind_ok (past (codes ")") b.0.1) _ x b.2 in
    let i : (a.0.0, b.0.0) ≡ x.0 = ap (λ z. z.0) (ok_is _ x r.2) in
    let P : Condition × Condition → Type 0 = λ p. IsWithin d p.0 × IsWithin d p.1 in
    subst P i (sound o.0 a.0 a.1, sound a.0.1 b.0 b.1)

one_more : (d : ℕ) (a b : Condition) → IsWithin d a × IsWithin d b → 1 + max (operators a) (operators b) ≤ suc d
one_more d a b h = omega (arith, h.0, h.1)

word_none : (k : ConditionWord) (w : List ℕ) (ts : Tokens) (c : Condition × Tokens) → condition_of (Err cause.Depth) k w ts ≡ Ok c → IsWithin 0 c.0
unfolding condition_of
word_none key.Fail w ts c e = subst (λ (x : Condition × Tokens). IsWithin 0 x.0) (ok_is _ c e) (omega arith)
word_none key.Silent w ts c e = subst (λ (x : Condition × Tokens). IsWithin 0 x.0) (ok_is _ c e) (omega arith)
word_none key.Bit w ts c e = let n = bind_ok (name_at ts) _ c e in subst (λ (x : Condition × Tokens). IsWithin 0 x.0) (ok_is _ c n.2) (omega arith)
word_none key.Not w ts c e = absurd (cc)
word_none key.All w ts c e = absurd (cc)
word_none key.Any w ts c e = absurd (cc)
word_none key.NoCondition w ts c e = absurd (cc)

word_some : (d : ℕ) (reader : ConditionReader) → ReadsWithin d reader → (k : ConditionWord) (w : List ℕ) (ts : Tokens) (c : Condition × Tokens) → condition_of (Ok reader) k w ts ≡ Ok c → IsWithin (suc d) c.0
unfolding condition_of
word_some d reader sound key.Fail w ts c e = subst (λ (x : Condition × Tokens). IsWithin (suc d) x.0) (ok_is _ c e) (omega arith)
word_some d reader sound key.Silent w ts c e = subst (λ (x : Condition × Tokens). IsWithin (suc d) x.0) (ok_is _ c e) (omega arith)
word_some d reader sound key.Bit w ts c e = let n = bind_ok (name_at ts) _ c e in subst (λ (x : Condition × Tokens). IsWithin (suc d) x.0) (ok_is _ c n.2) (omega arith)
word_some d reader sound key.Not w ts c e =
    let a = bind_ok (reader ts) _ c e in
    let s = sound ts a.0 a.1 in
    subst (λ (x : Condition × Tokens). IsWithin (suc d) x.0) (ok_is _ c a.2) (omega (arith, s))
word_some d reader sound key.All w ts c e =
    let x = bind_ok (pair_at reader ts) _ c e in
    subst (λ (x : Condition × Tokens). IsWithin (suc d) x.0) (ok_is _ c x.2) (one_more d _ _ (pair_ok d reader sound ts x.0 x.1))
word_some d reader sound key.Any w ts c e =
    let x = bind_ok (pair_at reader ts) _ c e in
    subst (λ (x : Condition × Tokens). IsWithin (suc d) x.0) (ok_is _ c x.2) (one_more d _ _ (pair_ok d reader sound ts x.0 x.1))
word_some d reader sound key.NoCondition w ts c e = absurd (cc)

pub condition_ok : (d : ℕ) → ReadsWithin d (condition_at d)
unfolding condition_from below_at
condition_ok d [] c e = absurd (cc)
condition_ok zero (w ∷ ts) c e = word_none (condition_word w) w ts c e
condition_ok (suc d) (w ∷ ts) c e = word_some d (condition_at d) (condition_ok d) (condition_word w) w ts c e

-- a tree with at most so many blocks in one another, its numbers in their ranges
abbrev IsTreeWithin : Scope ℕ → ℕ → Tree → Type 0
IsTreeWithin ds d t = (depth_in ds t ≤ d) × IsInRange t × CallsKnown ds t

abbrev ReadsTrees : Scope ℕ → ℕ → Reader → Type 0
ReadsTrees ds d reader = (ts : Tokens) (x : Tree × Tokens) → reader ts ≡ Ok x → IsTreeWithin ds d x.0

-- a reader of blocks, of which one may stand around each
abbrev ReadsBlocks : Scope ℕ → ℕ → Reader → Type 0
ReadsBlocks ds d reader = (ts : Tokens) (x : Tree × Tokens) → reader ts ≡ Ok x → (1 + depth_in ds x.0 ≤ d) × IsInRange x.0 × CallsKnown ds x.0

else_ok : (ds : Scope ℕ) (d : ℕ) (block : Reader) → ReadsBlocks ds d block → 1 ≤ d → ReadsBlocks ds d (else_at block)
unfolding else_at
else_ok ds d block sound h [] x e = subst (λ (z : Tree × Tokens). (1 + depth_in ds z.0 ≤ d) × IsInRange z.0 × CallsKnown ds z.0) (ok_is _ x e) (omega (arith, h), tt, tt)
else_ok ds d block sound h (w ∷ ts) x e = by (same_bytes w (codes "else")) e
  where
    by : (t : Bool) → cond t (block ts) (Ok (nothing, w ∷ ts)) ≡ Ok x → (1 + depth_in ds x.0 ≤ d) × IsInRange x.0 × CallsKnown ds x.0
    by true i = sound ts x i
    by false i = subst (λ (z : Tree × Tokens). (1 + depth_in ds z.0 ≤ d) × IsInRange z.0 × CallsKnown ds z.0) (ok_is _ x i) (omega (arith, h), tt, tt)

-- a call of a name in scope, whose body is not too deep
call_ok : (ds : Scope ℕ) (d : ℕ) (frame : Tokens) → ReadsTrees ds d (call_at ds d frame)
call_ok ds d frame ts x e =
    let n = bind_ok (label_at ts) _ x e in
    by n.0.0 n.0.1 (is_known ds n.0.0) (nat_le (names.meant_by 0 ds n.0.0) d) refl refl n.2
  where
    by : (n : List ℕ) (us : Tokens) (b k : Bool) → is_known ds n ≡ b → nat_le (names.meant_by 0 ds n) d ≡ k → cond b (cond k (Ok (call n, us)) (fails cause.Depth frame)) (fails cause.Name ts) ≡ Ok x → IsTreeWithin ds d x.0
    by n us true true p q i = subst (λ (z : Tree × Tokens). IsTreeWithin ds d z.0) (ok_is _ x i) (leb-true (names.meant_by 0 ds n) d q, tt, p)
    by n us true false p q i = absurd (cc)
    by n us false k p q i = absurd (cc)

word_ok : (ds : Scope ℕ) (d : ℕ) (calls : Tokens → Reader) (block : Reader) → ((frame : Tokens) → ReadsTrees ds d (calls frame)) → ReadsBlocks ds d block → (k : FrameWord) (w : List ℕ) (ts : Tokens) (x : Tree × Tokens) → frame_of calls block k w ts ≡ Ok x → IsTreeWithin ds d x.0
unfolding frame_of
word_ok ds d calls block known sound word.Send w ts x e =
    let m = bind_ok (send_at ts) _ x e in
    subst (λ (z : Tree × Tokens). IsTreeWithin ds d z.0) (ok_is _ x m.2) (omega arith, tt, tt)
word_ok ds d calls block known sound word.Retry w ts x e =
    let n = bind_ok (number_within 1 8 ts) _ x e in
    let u = bind_ok (past (codes "send") n.0.1) _ x n.2 in
    let m = bind_ok (send_at u.0) _ x u.2 in
    subst (λ (z : Tree × Tokens). IsTreeWithin ds d z.0) (ok_is _ x m.2) (omega arith, number_ok 1 8 ts n.0 n.1, tt)
word_ok ds d calls block known sound word.Gap w ts x e =
    let n = bind_ok (number_within 40 65535 ts) _ x e in
    subst (λ (z : Tree × Tokens). IsTreeWithin ds d z.0) (ok_is _ x n.2) (omega arith, number_ok 40 65535 ts n.0 n.1, tt)
word_ok ds d calls block known sound word.Repeat w ts x e =
    let n = bind_ok (number_within 1 10000 ts) _ x e in
    let b = bind_ok (block n.0.1) _ x n.2 in
    let s = sound n.0.1 b.0 b.1 in
    let r = number_ok 1 10000 ts n.0 n.1 in
    subst (λ (z : Tree × Tokens). IsTreeWithin ds d z.0) (ok_is _ x b.2) (s.0, (r.0, r.1, s.1), s.2)
word_ok ds d calls block known sound word.If w ts x e =
    let c = bind_ok (condition_at 16 ts) _ x e in
    let a = bind_ok (block c.0.1) _ x c.2 in
    let b = bind_ok (else_at block a.0.1) _ x a.2 in
    let s = sound c.0.1 a.0 a.1 in
    let u = else_ok ds d block sound (omega (arith, s.0)) a.0.1 b.0 b.1 in
    subst (λ (z : Tree × Tokens). IsTreeWithin ds d z.0) (ok_is _ x b.2) (omega (arith, s.0, u.0), (condition_ok 16 ts c.0 c.1, s.1, u.1), (s.2, u.2))
word_ok ds d calls block known sound word.Until w ts x e =
    let c = bind_ok (condition_at 16 ts) _ x e in
    let u = bind_ok (past (codes "at") c.0.1) _ x c.2 in
    let v = bind_ok (past (codes "most") u.0) _ x u.2 in
    let n = bind_ok (number_within 1 10000 v.0) _ x v.2 in
    let b = bind_ok (block n.0.1) _ x n.2 in
    let s = sound n.0.1 b.0 b.1 in
    let r = number_ok 1 10000 v.0 n.0 n.1 in
    subst (λ (z : Tree × Tokens). IsTreeWithin ds d z.0) (ok_is _ x b.2) (s.0, (condition_ok 16 ts c.0 c.1, r.0, r.1, s.1), s.2)
word_ok ds d calls block known sound word.Timed w ts x e =
    let n = bind_ok (period_at ts) _ x e in
    let b = bind_ok (block n.0.1) _ x n.2 in
    let s = sound n.0.1 b.0 b.1 in
    let r = period_ok ts n.0 n.1 in
    subst (λ (z : Tree × Tokens). IsTreeWithin ds d z.0) (ok_is _ x b.2) (s.0, (r.0, r.1, s.1), s.2)
word_ok ds d calls block known sound word.Call w ts x e = known (w ∷ ts) ts x e
word_ok ds d calls block known sound word.NoFrame w ts x e = absurd (cc)

frame_ok : (ds : Scope ℕ) (d : ℕ) (calls : Tokens → Reader) (block : Reader) → ((frame : Tokens) → ReadsTrees ds d (calls frame)) → ReadsBlocks ds d block → ReadsTrees ds d (frame_from calls block)
unfolding frame_from
frame_ok ds d calls block known sound [] x e = absurd (cc)
frame_ok ds d calls block known sound (w ∷ ts) x e = word_ok ds d calls block known sound (frame_word w) w ts x e

frames_ok : (ds : Scope ℕ) (d : ℕ) (frame : Reader) → ReadsTrees ds d frame → (n : ℕ) → ReadsTrees ds d (frames_at frame n)
unfolding frames_at
frames_ok ds d frame sound n [] x e = absurd (cc)
frames_ok ds d frame sound zero (w ∷ ts) x e = absurd (cc)
frames_ok ds d frame sound (suc n) (w ∷ ts) x e = by (same_bytes w (codes "}")) (λ us y i. frames_ok ds d frame sound n us y i) e
  where
    by : (t : Bool) → ReadsTrees ds d (frames_at frame n) → cond t (Ok (nothing, ts)) (frame (w ∷ ts) >>= (λ y. frames_at frame n y.1 >>= (λ z. Ok (chained y.0 z.0, z.1)))) ≡ Ok x → IsTreeWithin ds d x.0
    by true more i = subst (λ (z : Tree × Tokens). IsTreeWithin ds d z.0) (ok_is _ x i) (omega arith, tt, tt)
    by false more i =
        let a = bind_ok (frame (w ∷ ts)) _ x i in
        let b = bind_ok (frames_at frame n a.0.1) _ x a.2 in
        let s = sound (w ∷ ts) a.0 a.1 in
        let u = more a.0.1 b.0 b.1 in
        subst (λ (z : Tree × Tokens). IsTreeWithin ds d z.0) (ok_is _ x b.2) (omega (arith, s.0, u.0), (s.1, u.1), (s.2, u.2))

pub block_ok : (ds : Scope ℕ) (d : ℕ) → ReadsBlocks ds d (block_at ds d)
unfolding block_from inner_at
block_ok ds d [] x e = absurd (cc)
block_ok ds zero (w ∷ ts) x e = by (same_bytes w (codes "{")) e
  where
    by : (t : Bool) → cond t (fails cause.Depth (w ∷ ts)) (fails (misplaced w) (w ∷ ts)) ≡ Ok x → (1 + depth_in ds x.0 ≤ 0) × IsInRange x.0 × CallsKnown ds x.0
    by true i = absurd (cc)
    by false i = absurd (cc)
block_ok ds (suc d) (w ∷ ts) x e = by (same_bytes w (codes "{")) (λ us y i. block_ok ds d us y i) e
  where
    by : (t : Bool) → ReadsBlocks ds d (block_at ds d) → cond t (frames_at (frame_at ds d) (length ts) ts) (fails (misplaced w) (w ∷ ts)) ≡ Ok x → (1 + depth_in ds x.0 ≤ suc d) × IsInRange x.0 × CallsKnown ds x.0
    by true more i = let s = frames_ok ds d (frame_at ds d) (frame_ok ds d (call_at ds d) (block_at ds d) (call_ok ds d) more) (length ts) ts x i in (omega (arith, s.0), s.1, s.2)
    by false more i = absurd (cc)

main_ok : (ds : Scope ℕ) (n : ℕ) (ts : Tokens) (t : Tree) → main_at ds n ts ≡ Ok t → IsTreeWithin ds 16 t
unfolding main_at
main_ok ds n [] t e = subst (IsTreeWithin ds 16) (ok_is _ t e) (omega arith, tt, tt)
main_ok ds zero (w ∷ ts) t e = absurd (cc)
main_ok ds (suc n) (w ∷ ts) t e =
    let a = bind_ok (frame_at ds 16 (w ∷ ts)) _ t e in
    let b = bind_ok (main_at ds n a.0.1) _ t a.2 in
    let s = frame_ok ds 16 (call_at ds 16) (block_at ds 16) (call_ok ds 16) (block_ok ds 16) (w ∷ ts) a.0 a.1 in
    let u = main_ok ds n a.0.1 b.0 b.1 in
    subst (IsTreeWithin ds 16) (ok_is _ t b.2) (omega (arith, s.0, u.0), (s.1, u.1), (s.2, u.2))

-- the same names in scope
abbrev Alike : Scope ℕ → Scope ℕ → Type 0
Alike ds es = (n : List ℕ) → is_known ds n ≡ is_known es n

alike_known : (ds es : Scope ℕ) → Alike ds es → (t : Tree) → CallsKnown ds t → CallsKnown es t
alike_known ds es h (send l m) k = tt
alike_known ds es h (retry n l m) k = tt
alike_known ds es h (gap n) k = tt
alike_known ds es h (repeat n b) k = alike_known ds es h b k
alike_known ds es h (choose c a b) k = (alike_known ds es h a k.0, alike_known ds es h b k.1)
alike_known ds es h (until c n b) k = alike_known ds es h b k
alike_known ds es h (timed n b) k = alike_known ds es h b k
alike_known ds es h nothing k = tt
alike_known ds es h (chained a b) k = (alike_known ds es h a k.0, alike_known ds es h b k.1)
alike_known ds es h (call n) k = sym (h n) ∙ k
alike_known ds es h (define n b r) k = absurd k

defined_of : (ds : Scope ℕ) (t : Tree) → CallsKnown ds t → IsDefined ds t
defined_of ds (define n b r) k = absurd k
defined_of ds (send l m) k = k
defined_of ds (retry n l m) k = k
defined_of ds (gap n) k = k
defined_of ds (repeat n b) k = k
defined_of ds (choose c a b) k = k
defined_of ds (until c n b) k = k
defined_of ds (timed n b) k = k
defined_of ds nothing k = k
defined_of ds (chained a b) k = k
defined_of ds (call n) k = k

-- a script's tree: so many blocks in one another, numbers in range, definitions at the outside
abbrev IsScriptWithin : Scope ℕ → Scope ℕ → Tree → Type 0
IsScriptWithin ds es t = (depth_in ds t ≤ 16) × IsInRange t × IsDefined es t

main_within : (ds es : Scope ℕ) → Alike ds es → (n : ℕ) (ts : Tokens) (t : Tree) → main_at ds n ts ≡ Ok t → IsScriptWithin ds es t
main_within ds es h n ts t e = let s = main_ok ds n ts t e in (s.0, s.1, defined_of es t (alike_known ds es h t s.2))

pub definition_ok : (ds : Scope ℕ) (ts : Tokens) (x : (List ℕ × Tree) × Tokens) → definition_at ds ts ≡ Ok x → (is_known ds x.0.0 ≡ false) × (depth_in ds x.0.1 ≤ 16) × IsInRange x.0.1 × CallsKnown ds x.0.1
definition_ok ds ts x e =
    let n = bind_ok (fresh_name_at ds ts) _ x e in
    let m = bind_ok (label_at ts) _ n.0 n.1 in
    let b = bind_ok (block_at ds 17 n.0.1) _ x n.2 in
    let s = block_ok ds 17 n.0.1 b.0 b.1 in
    let unknown = by m.0 (is_known ds m.0.0) refl n.0 m.2 in
    subst (λ (z : (List ℕ × Tree) × Tokens). (is_known ds z.0.0 ≡ false) × (depth_in ds z.0.1 ≤ 16) × IsInRange z.0.1 × CallsKnown ds z.0.1) (ok_is _ x b.2) (unknown, omega (arith, s.0), s.1, s.2)
  where
    by : (m : List ℕ × Tokens) (b : Bool) → is_known ds m.0 ≡ b → ((n : List ℕ × Tokens) → cond b (fails cause.Name ts) (Ok m) ≡ Ok n → is_known ds n.0 ≡ false)
    by m true h n i = absurd (cc)
    by m false h n i = subst (λ (z : List ℕ × Tokens). is_known ds z.0 ≡ false) (ok_is m n i) h

script_ok : (k : ℕ) (ds es : Scope ℕ) → Alike ds es → length es + k ≤ 32 → (ts : Tokens) (t : Tree) → script_at k ds ts ≡ Ok t → IsScriptWithin ds es t
unfolding script_at
script_ok k ds es h few [] t e = subst (IsScriptWithin ds es) (ok_is _ t e) (omega arith, tt, tt)
script_ok zero ds es h few (w ∷ ts) t e = by (same_bytes w (codes "define")) e
  where
    by : (b : Bool) → cond b (fails cause.Definitions (w ∷ ts)) (main_at ds (length (w ∷ ts)) (w ∷ ts)) ≡ Ok t → IsScriptWithin ds es t
    by true i = absurd (cc)
    by false i = main_within ds es h (length (w ∷ ts)) (w ∷ ts) t i
script_ok (suc k) ds es h few (w ∷ ts) t e = by (same_bytes w (codes "define")) (λ x y f g us u i. script_ok k x y f g us u i) e
  where
    by : (b : Bool) → ((xs ys : Scope ℕ) → Alike xs ys → length ys + k ≤ 32 → (us : Tokens) (u : Tree) → script_at k xs us ≡ Ok u → IsScriptWithin xs ys u)
        → cond b (definition_at ds ts >>= (λ x. script_at k ((x.0.0, depth_in ds x.0.1) ∷ ds) x.1 >>= (λ t. Ok (define x.0.0 x.0.1 t)))) (main_at ds (length (w ∷ ts)) (w ∷ ts)) ≡ Ok t → IsScriptWithin ds es t
    by true more i =
        let x = bind_ok (definition_at ds ts) _ t i in
        let n = x.0.0.0 in
        let b = x.0.0.1 in
        let s = definition_ok ds ts x.0 x.1 in
        let u = bind_ok (script_at k ((n, depth_in ds b) ∷ ds) x.0.1) _ t x.2 in
        let below = more ((n, depth_in ds b) ∷ ds) ((n, length es) ∷ es) (λ m. ap (λ v. names.same_bytes n m || v) (h m)) (omega (arith, few)) x.0.1 u.0 u.1 in
        subst (IsScriptWithin ds es) (ok_is _ t u.2) (
          omega (arith, s.1, below.0),
          (s.2, below.1),
          (omega (arith, few), sym (h n) ∙ s.0, alike_known ds es h b s.3, below.2),
        )
    by false more i = main_within ds es h (length (w ∷ ts)) (w ∷ ts) t i

-- a tree that is read from tokens, with so few messages, is sound
pub script_is_sound : (ts : Tokens) (t : Tree) → script_at 32 [] ts ≡ Ok t → worst_messages t ≤ 1000000 → IsSound t
script_is_sound ts t e few = let s = script_ok 32 [] [] (λ n. refl) (omega arith) ts t e in record { shallow = s.0; in_range = s.1; bounded = few; defined = s.2 }

-- the body of a definition that was read is not too deep
pub body_low : (ds : Scope ℕ) (ts : Tokens) (x : Tree × Tokens) → block_at ds 17 ts ≡ Ok x → depth_in ds x.0 ≤ 16
body_low ds ts x e = let s = block_ok ds 17 ts x e in omega (arith, s.0)
