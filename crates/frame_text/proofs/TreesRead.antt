-- The print of a sound script is read as that script, and what is read of a text is a script.
use Rattle.std.proofs.Common.{◌≡◌, ℕ, zero, suc, Bool, true, false, cond, List, [], ◌∷◌, length, Ok, refl, sym, ap, ◌∙◌, subst, arith}
use Rattle.std.specs.Prelude.{codes, nat_le}
use Rattle.std.proofs.lemmas.Bool.{le-leb}
use Rattle.frame_tree.specs.Tree.{Tree, nothing, chained, call, define}
use Rattle.frame_tree.specs.Bounds.{IsSound, worst_messages, depth_in}
use Rattle.frame_tree.specs.Names.{is_name, Scope, meant_by, is_known}
use Rattle.frame_text.specs.Tokens.{lex, tokens}
use Rattle.frame_text.specs.Reading.{Tokens, fails, cause_alone, ◌>>=◌, same_bytes, misplaced, past}
use Rattle.frame_text.specs.Words.{number_within, period_at}
use Rattle.frame_text.specs.Messages.{send_at}
use Rattle.frame_text.specs.Conditions.{condition_at}
use Rattle.frame_text.specs.Frames.{Reader, frame_at, frame_from, frame_of, frame_word, frames_at, block_at, block_from, inner_at, else_at, label_at, call_at, main_at, fresh_name_at, definition_at, script_at, bounded, tree_of_text}
use Rattle.frame_text.specs.Printing.{printed}
use Rattle.frame_text.specs.Chains.{IsRead, IsScript}
use Rattle.frame_text.specs.declared.faults.Cause.TheVariants as cause
use Rattle.frame_text.specs.declared.keywords.FrameWord.{FrameWord}
use Rattle.frame_text.specs.declared.keywords.FrameWord.TheVariants as word
use Rattle.frame_text.proofs.Soundness.{bind_ok, ok_is}
use Rattle.frame_text.proofs.FormsRead.{send_ok}
use Rattle.frame_text.proofs.TreesBack.{script_of, tree_then, script_spells}
use Rattle.frame_text.proofs.ScriptsBack.{script_back}
use Rattle.std.proofs.lemmas.List.{append-nil}

-- what a reader reads is a chain of frames, or a frame
abbrev Reads : Bool → Reader → Type 0
Reads k reader = (ts : Tokens) (x : Tree × Tokens) → reader ts ≡ Ok x → IsRead k x.0

else_read : (block : Reader) → Reads true block → Reads true (else_at block)
unfolding else_at
else_read block reads [] x e = subst (λ (z : Tree × Tokens). IsRead true z.0) (ok_is _ x e) tt
else_read block reads (w ∷ ts) x e = by (same_bytes w (codes "else")) e
  where
    by : (t : Bool) → cond t (block ts) (Ok (nothing, w ∷ ts)) ≡ Ok x → IsRead true x.0
    by true i = reads ts x i
    by false i = subst (λ (z : Tree × Tokens). IsRead true z.0) (ok_is _ x i) tt

word_read : (calls : Tokens → Reader) (block : Reader) → ((frame : Tokens) → Reads false (calls frame)) → Reads true block → (k : FrameWord) (w : List ℕ) (ts : Tokens) (x : Tree × Tokens) → frame_of calls block k w ts ≡ Ok x → IsRead false x.0
unfolding frame_of
word_read calls block known reads word.Send w ts x e =
    let m = bind_ok (send_at ts) _ x e in
    subst (λ (z : Tree × Tokens). IsRead false z.0) (ok_is _ x m.2) (send_ok ts m.0 m.1)
word_read calls block known reads word.Retry w ts x e =
    let n = bind_ok (number_within 1 8 ts) _ x e in
    let u = bind_ok (past (codes "send") n.0.1) _ x n.2 in
    let m = bind_ok (send_at u.0) _ x u.2 in
    subst (λ (z : Tree × Tokens). IsRead false z.0) (ok_is _ x m.2) (send_ok u.0 m.0 m.1)
word_read calls block known reads word.Gap w ts x e =
    let n = bind_ok (number_within 40 65535 ts) _ x e in
    subst (λ (z : Tree × Tokens). IsRead false z.0) (ok_is _ x n.2) tt
word_read calls block known reads word.Repeat w ts x e =
    let n = bind_ok (number_within 1 10000 ts) _ x e in
    let b = bind_ok (block n.0.1) _ x n.2 in
    subst (λ (z : Tree × Tokens). IsRead false z.0) (ok_is _ x b.2) (reads n.0.1 b.0 b.1)
word_read calls block known reads word.If w ts x e =
    let c = bind_ok (condition_at 16 ts) _ x e in
    let a = bind_ok (block c.0.1) _ x c.2 in
    let b = bind_ok (else_at block a.0.1) _ x a.2 in
    subst (λ (z : Tree × Tokens). IsRead false z.0) (ok_is _ x b.2) (reads c.0.1 a.0 a.1, else_read block reads a.0.1 b.0 b.1)
word_read calls block known reads word.Until w ts x e =
    let c = bind_ok (condition_at 16 ts) _ x e in
    let u = bind_ok (past (codes "at") c.0.1) _ x c.2 in
    let v = bind_ok (past (codes "most") u.0) _ x u.2 in
    let n = bind_ok (number_within 1 10000 v.0) _ x v.2 in
    let b = bind_ok (block n.0.1) _ x n.2 in
    subst (λ (z : Tree × Tokens). IsRead false z.0) (ok_is _ x b.2) (reads n.0.1 b.0 b.1)
word_read calls block known reads word.Timed w ts x e =
    let n = bind_ok (period_at ts) _ x e in
    let b = bind_ok (block n.0.1) _ x n.2 in
    subst (λ (z : Tree × Tokens). IsRead false z.0) (ok_is _ x b.2) (reads n.0.1 b.0 b.1)
word_read calls block known reads word.Call w ts x e = known (w ∷ ts) ts x e
word_read calls block known reads word.NoFrame w ts x e = absurd (cc)

frame_read : (calls : Tokens → Reader) (block : Reader) → ((frame : Tokens) → Reads false (calls frame)) → Reads true block → Reads false (frame_from calls block)
unfolding frame_from
frame_read calls block known reads [] x e = absurd (cc)
frame_read calls block known reads (w ∷ ts) x e = word_read calls block known reads (frame_word w) w ts x e

label_read : (ts : Tokens) (n : List ℕ × Tokens) → label_at ts ≡ Ok n → is_name n.0 ≡ true
unfolding label_at
label_read [] n e = absurd (cc)
label_read (w ∷ ts) n e = by (is_name w) refl e
  where
    by : (b : Bool) → is_name w ≡ b → cond b (Ok (w, ts)) (fails (misplaced w) (w ∷ ts)) ≡ Ok n → is_name n.0 ≡ true
    by true h i = subst (λ (z : List ℕ × Tokens). is_name z.0 ≡ true) (ok_is _ n i) h
    by false h i = absurd (cc)

call_read : (ds : Scope ℕ) (d : ℕ) (frame : Tokens) → Reads false (call_at ds d frame)
call_read ds d frame ts x e =
    let n = bind_ok (label_at ts) _ x e in
    by n.0 (label_read ts n.0 n.1) (is_known ds n.0.0) (nat_le (meant_by 0 ds n.0.0) d) n.2
  where
    by : (n : List ℕ × Tokens) → is_name n.0 ≡ true → (b k : Bool) → cond b (cond k (Ok (call n.0, n.1)) (fails cause.Depth frame)) (fails cause.Name ts) ≡ Ok x → IsRead false x.0
    by n h true true i = subst (λ (z : Tree × Tokens). IsRead false z.0) (ok_is _ x i) h
    by n h true false i = absurd (cc)
    by n h false k i = absurd (cc)

frames_read : (frame : Reader) → Reads false frame → (n : ℕ) → Reads true (frames_at frame n)
unfolding frames_at
frames_read frame reads n [] x e = absurd (cc)
frames_read frame reads zero (w ∷ ts) x e = absurd (cc)
frames_read frame reads (suc n) (w ∷ ts) x e = by (same_bytes w (codes "}")) (λ us y i. frames_read frame reads n us y i) e
  where
    by : (t : Bool) → Reads true (frames_at frame n) → cond t (Ok (nothing, ts)) (frame (w ∷ ts) >>= (λ y. frames_at frame n y.1 >>= (λ z. Ok (chained y.0 z.0, z.1)))) ≡ Ok x → IsRead true x.0
    by true more i = subst (λ (z : Tree × Tokens). IsRead true z.0) (ok_is _ x i) tt
    by false more i =
        let a = bind_ok (frame (w ∷ ts)) _ x i in
        let b = bind_ok (frames_at frame n a.0.1) _ x a.2 in
        subst (λ (z : Tree × Tokens). IsRead true z.0) (ok_is _ x b.2) (reads (w ∷ ts) a.0 a.1, more a.0.1 b.0 b.1)

block_read : (ds : Scope ℕ) (d : ℕ) → Reads true (block_at ds d)
unfolding block_from inner_at
block_read ds d [] x e = absurd (cc)
block_read ds zero (w ∷ ts) x e = by (same_bytes w (codes "{")) e
  where
    by : (t : Bool) → cond t (fails cause.Depth (w ∷ ts)) (fails (misplaced w) (w ∷ ts)) ≡ Ok x → IsRead true x.0
    by true i = absurd (cc)
    by false i = absurd (cc)
block_read ds (suc d) (w ∷ ts) x e = by (same_bytes w (codes "{")) (λ us y i. block_read ds d us y i) e
  where
    by : (t : Bool) → Reads true (block_at ds d) → cond t (frames_at (frame_at ds d) (length ts) ts) (fails (misplaced w) (w ∷ ts)) ≡ Ok x → IsRead true x.0
    by true more i = frames_read (frame_at ds d) (frame_read (call_at ds d) (block_at ds d) (call_read ds d) more) (length ts) ts x i
    by false more i = absurd (cc)

main_read : (ds : Scope ℕ) (n : ℕ) (ts : Tokens) (t : Tree) → main_at ds n ts ≡ Ok t → IsRead true t
unfolding main_at
main_read ds n [] t e = subst (IsRead true) (ok_is _ t e) tt
main_read ds zero (w ∷ ts) t e = absurd (cc)
main_read ds (suc n) (w ∷ ts) t e =
    let a = bind_ok (frame_at ds 16 (w ∷ ts)) _ t e in
    let b = bind_ok (main_at ds n a.0.1) _ t a.2 in
    subst (IsRead true) (ok_is _ t b.2) (frame_read (call_at ds 16) (block_at ds 16) (call_read ds 16) (block_read ds 16) (w ∷ ts) a.0 a.1, main_read ds n a.0.1 b.0 b.1)

-- a script's tree
definition_read : (ds : Scope ℕ) (ts : Tokens) (x : (List ℕ × Tree) × Tokens) → definition_at ds ts ≡ Ok x → (is_name x.0.0 ≡ true) × IsRead true x.0.1
definition_read ds ts x e =
    let n = bind_ok (fresh_name_at ds ts) _ x e in
    let m = bind_ok (label_at ts) _ n.0 n.1 in
    let b = bind_ok (block_at ds 17 n.0.1) _ x n.2 in
    let name = by m.0 (label_read ts m.0 m.1) (is_known ds m.0.0) n.0 m.2 in
    subst (λ (z : (List ℕ × Tree) × Tokens). (is_name z.0.0 ≡ true) × IsRead true z.0.1) (ok_is _ x b.2) (name, block_read ds 17 n.0.1 b.0 b.1)
  where
    by : (m : List ℕ × Tokens) → is_name m.0 ≡ true → (b : Bool) → (n : List ℕ × Tokens) → cond b (fails cause.Name ts) (Ok m) ≡ Ok n → is_name n.0 ≡ true
    by m h true n i = absurd (cc)
    by m h false n i = subst (λ (z : List ℕ × Tokens). is_name z.0 ≡ true) (ok_is m n i) h

-- what is read of a whole text is a script
pub script_read : (k : ℕ) (ds : Scope ℕ) (ts : Tokens) (t : Tree) → script_at k ds ts ≡ Ok t → IsScript t
unfolding script_at
script_read k ds [] t e = subst IsScript (ok_is _ t e) tt
script_read zero ds (w ∷ ts) t e = by (same_bytes w (codes "define")) e
  where
    by : (b : Bool) → cond b (fails cause.Definitions (w ∷ ts)) (main_at ds (length (w ∷ ts)) (w ∷ ts)) ≡ Ok t → IsScript t
    by true i = absurd (cc)
    by false i = script_of t (main_read ds (length (w ∷ ts)) (w ∷ ts) t i)
script_read (suc k) ds (w ∷ ts) t e = by (same_bytes w (codes "define")) (λ xs us u i. script_read k xs us u i) e
  where
    by : (b : Bool) → ((xs : Scope ℕ) (us : Tokens) (u : Tree) → script_at k xs us ≡ Ok u → IsScript u)
        → cond b (definition_at ds ts >>= (λ x. script_at k ((x.0.0, depth_in ds x.0.1) ∷ ds) x.1 >>= (λ t. Ok (define x.0.0 x.0.1 t)))) (main_at ds (length (w ∷ ts)) (w ∷ ts)) ≡ Ok t → IsScript t
    by true more i =
        let x = bind_ok (definition_at ds ts) _ t i in
        let u = bind_ok (script_at k ((x.0.0.0, depth_in ds x.0.0.1) ∷ ds) x.0.1) _ t x.2 in
        let s = definition_read ds ts x.0 x.1 in
        subst IsScript (ok_is _ t u.2) (s.0, s.1, more ((x.0.0.0, depth_in ds x.0.0.1) ∷ ds) x.0.1 u.0 u.1)
    by false more i = script_of t (main_read ds (length (w ∷ ts)) (w ∷ ts) t i)

-- the tokens of a printed tree
printed_tokens : (t : Tree) → IsScript t → IsSound t → tokens (printed t) ≡ tree_then t []
unfolding lex
printed_tokens t r s = ap (lex false) (sym (append-nil (printed t))) ∙ (script_spells t r s.in_range).reads []

pub sound_back : (t : Tree) → IsScript t → IsSound t → tree_of_text (printed t) ≡ Ok t
sound_back t r s =
    ap (λ ts. cause_alone (script_at 32 [] ts >>= (λ u. bounded ts u))) (printed_tokens t r s)
    ∙ ap (λ z. cause_alone (z >>= (λ u. bounded (tree_then t []) u))) (script_back t 32 [] [] (λ n. refl) (omega arith) r s.in_range s.defined s.shallow)
    ∙ ap (λ b. cause_alone (cond b (Ok t) (fails cause.Messages (tree_then t [])))) (le-leb (worst_messages t) 1000000 s.bounded)
