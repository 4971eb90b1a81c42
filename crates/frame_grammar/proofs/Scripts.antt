-- What is read as a script is what the rules derive, within the limits.
use Rattle.std.proofs.Common.{◌≡◌, ℕ, zero, suc, ◌+◌, ◌-◌, ◌≤◌, Bool, true, false, cond, List, [], ◌∷◌, ◌++◌, length, Ok, Err, refl, sym, ap, ◌∙◌, subst, arith}
use Rattle.std.specs.Prelude.{codes, nat_le, ◌||◌}
use Rattle.std.proofs.lemmas.Bool.{le-leb, leb-true}
use Rattle.std.proofs.lemmas.List.{append-nil, length-append}
use Rattle.frame_tree.specs.Tree.{Tree, send, retry, gap, repeat, choose, until, timed, nothing, chained, call, define}
use Rattle.frame_tree.specs.Bounds.{depth_in, worst_messages, CallsKnown, IsDefined}
use Rattle.frame_tree.specs.Names as names
use Rattle.frame_tree.specs.Names.{is_name, Scope, is_known}
use Rattle.frame_text.specs.Tokens.{tokens}
use Rattle.frame_text.specs.Reading.{Tokens, fails, ◌>>=◌, same_bytes}
use Rattle.frame_text.specs.Frames.{frame_at, main_at, label_at, fresh_name_at, definition_at, block_at, script_at, whole_script, tree_of_text}
use Rattle.frame_text.specs.declared.faults.Cause.TheVariants as cause
use Rattle.frame_text.proofs.Soundness.{bind_ok, ok_is, script_is_sound}
use Rattle.frame_text.proofs.PrintedForms.{MayFollow}
use Rattle.frame_text.proofs.Scripts.{main_on, no_definition, defines}
use Rattle.frame_grammar.specs.Words.{braces}
use Rattle.frame_grammar.specs.Frames.{SpellFrames}
use Rattle.frame_grammar.specs.Scripts.{SpellScript, HasTree}
use Rattle.frame_grammar.specs.Laws.{ScriptsAreDerived, OneTree}
use Rattle.frame_grammar.proofs.Pieces.{same_is, answered_is, whole_ok, begun, behind}
use Rattle.frame_grammar.proofs.Words.{guarded}
use Rattle.frame_grammar.proofs.Frames.{braced, one_stands, block_stands, label_stands}
use Rattle.frame_grammar.proofs.FramesRead.{begins, follows, frame_read, frames_read, block_read}

-- frames up to the end
main_stands : (ds : Scope ℕ) (n : ℕ) (ts : Tokens) (t : Tree) → main_at ds n ts ≡ Ok t → SpellFrames ts t
unfolding main_at
main_stands ds n [] t e = subst (SpellFrames []) (ok_is nothing t e) SpellFrames.none
main_stands ds zero (w ∷ ts) t e = absurd (cc)
main_stands ds (suc n) (w ∷ ts) t e =
    let a = bind_ok (frame_at ds 16 (w ∷ ts)) _ t e in
    let b = bind_ok (main_at ds n a.0.1) _ t a.2 in
    let p = one_stands ds 16 (w ∷ ts) a.0 a.1 in
    let more : SpellFrames (p.0 ++ a.0.1) (chained a.0.0 b.0) = SpellFrames.more p.2 (main_stands ds n a.0.1 b.0 b.1) in
    subst (SpellFrames (w ∷ ts)) (ok_is _ t b.2) (subst (λ z. SpellFrames z (chained a.0.0 b.0)) (sym p.1) more)

-- a definition in front of the rest, behind its word
abbrev DefinitionStands : Tokens → (List ℕ × Tree) × Tokens → Type 0
DefinitionStands ts x = (ws : Tokens) × (ts ≡ x.0.0 ∷ (braces ws ++ x.1)) × (is_name x.0.0 ≡ true) × SpellFrames ws x.0.1

definition_stands : (ds : Scope ℕ) (ts : Tokens) (x : (List ℕ × Tree) × Tokens) → definition_at ds ts ≡ Ok x → DefinitionStands ts x
definition_stands ds ts x e =
    let n = bind_ok (fresh_name_at ds ts) _ x e in
    let m = bind_ok (label_at ts) _ n.0 n.1 in
    let b = bind_ok (block_at ds 17 n.0.1) _ x n.2 in
    let l = label_stands ts m.0 m.1 in
    let same_name : m.0 ≡ n.0 = by (is_known ds m.0.0) m.0 n.0 m.2 in
    let k = subst (λ (z : List ℕ × Tokens). (ts ≡ z.0 ∷ z.1) × (is_name z.0 ≡ true)) same_name l in
    let p = block_stands ds 17 n.0.1 b.0 b.1 in
    subst (DefinitionStands ts) (ok_is _ x b.2) (p.0, behind k.0 (p.1 ∙ sym (braced p.0 b.0.1)), k.1, p.2)
  where
    by : (b : Bool) (m n : List ℕ × Tokens) → cond b (fails cause.Name ts) (Ok m) ≡ Ok n → m ≡ n
    by true m n i = absurd (cc)
    by false m n i = ok_is m n i

script_stands : (k : ℕ) (ds : Scope ℕ) (ts : Tokens) (t : Tree) → script_at k ds ts ≡ Ok t → SpellScript ts t
unfolding script_at
script_stands k ds [] t e = subst (SpellScript []) (ok_is nothing t e) (SpellScript.main SpellFrames.none)
script_stands zero ds (w ∷ ts) t e = by (same_bytes w (codes "define")) e
  where
    by : (b : Bool) → cond b (fails cause.Definitions (w ∷ ts)) (main_at ds (length (w ∷ ts)) (w ∷ ts)) ≡ Ok t → SpellScript (w ∷ ts) t
    by true i = absurd (cc)
    by false i = SpellScript.main (main_stands ds (length (w ∷ ts)) (w ∷ ts) t i)
script_stands (suc k) ds (w ∷ ts) t e = by (same_bytes w (codes "define")) refl (λ es us u i. script_stands k es us u i) e
  where
    by : (b : Bool) → same_bytes w (codes "define") ≡ b → ((es : Scope ℕ) (us : Tokens) (u : Tree) → script_at k es us ≡ Ok u → SpellScript us u)
        → cond b (definition_at ds ts >>= (λ x. script_at k ((x.0.0, depth_in ds x.0.1) ∷ ds) x.1 >>= (λ t. Ok (define x.0.0 x.0.1 t)))) (main_at ds (length (w ∷ ts)) (w ∷ ts)) ≡ Ok t → SpellScript (w ∷ ts) t
    by true h more i =
        let x = bind_ok (definition_at ds ts) _ t i in
        let u = bind_ok (script_at k ((x.0.0.0, depth_in ds x.0.0.1) ∷ ds) x.0.1) _ t x.2 in
        let p = definition_stands ds ts x.0 x.1 in
        let all = begun (same_is w (codes "define") h) p.1 in
        let spelled : SpellScript (codes "define" ∷ x.0.0.0 ∷ braces p.0 ++ x.0.1) (define x.0.0.0 x.0.0.1 u.0) = SpellScript.define p.2 p.3 (more ((x.0.0.0, depth_in ds x.0.0.1) ∷ ds) x.0.1 u.0 u.1) in
        subst (SpellScript (w ∷ ts)) (ok_is _ t u.2) (subst (λ z. SpellScript z (define x.0.0.0 x.0.0.1 u.0)) (sym all) spelled)
    by false h more i = SpellScript.main (main_stands ds (length (w ∷ ts)) (w ∷ ts) t i)

-- frames up to the end are read
main_read : {ws : Tokens} {t : Tree} → SpellFrames ws t → (ds : Scope ℕ) → CallsKnown ds t → depth_in ds t ≤ 16 → (n : ℕ) → length ws ≤ n → main_at ds n ws ≡ Ok t
unfolding main_at
main_read (SpellFrames.none) ds w l n s = refl
main_read (SpellFrames.more {frame = frame} {frames = frames} p q) ds w l zero s = let g = begins p in absurd (omega (arith, s, ap (λ z. length (z ++ frames)) g.is))
main_read (SpellFrames.more {frame = frame} {frames = frames} {a = a} {b = b} p q) ds w l (suc n) s =
    let g = begins p in
    main_on ds n g.word (frame ++ frames) (g.more ++ frames) (ap (λ z. z ++ frames) g.is)
    ∙ ap (λ z. z >>= (λ x. main_at ds n x.1 >>= (λ t. Ok (chained x.0 t)))) (frame_read p ds 16 w.0 (omega (arith, l)) frames (subst MayFollow (append-nil frames) (follows q [] tt)))
    ∙ ap (λ z. z >>= (λ t. Ok (chained a t))) (main_read q ds w.1 (omega (arith, l)) n (omega (arith, s, ap (λ z. length (z ++ frames)) g.is, length-append g.more frames)))

-- no frame is a definition
no_definition_here : {ws : Tokens} {t : Tree} → SpellFrames ws t → (w : List ℕ) (ts : Tokens) → ws ≡ w ∷ ts → same_bytes w (codes "define") ≡ false
no_definition_here (SpellFrames.none) w ts e = absurd (cc)
no_definition_here (SpellFrames.more {frame = frame} {frames = frames} p q) w ts e =
    let g = begins p in
    let both : g.word ∷ (g.more ++ frames) ≡ w ∷ ts = sym (ap (λ z. z ++ frames) g.is) ∙ e in
    let first : g.word ≡ w = cc in
    ap (λ z. same_bytes z (codes "define")) (sym first) ∙ g.no_define

-- the same names in scope
abbrev Alike : Scope ℕ → Scope ℕ → Type 0
Alike ds es = (n : List ℕ) → is_known ds n ≡ is_known es n

alike_known : (ds es : Scope ℕ) → Alike ds es → (t : Tree) → CallsKnown es t → CallsKnown ds t
alike_known ds es h (send l m) k = tt
alike_known ds es h (retry n l m) k = tt
alike_known ds es h (gap n) k = tt
alike_known ds es h (repeat n b) k = alike_known ds es h b k
alike_known ds es h (choose c a b) k = (alike_known ds es h a k.0, alike_known ds es h b k.1)
alike_known ds es h (until c n b) k = alike_known ds es h b k
alike_known ds es h (timed n b) k = alike_known ds es h b k
alike_known ds es h nothing k = tt
alike_known ds es h (chained a b) k = (alike_known ds es h a k.0, alike_known ds es h b k.1)
alike_known ds es h (call n) k = h n ∙ k
alike_known ds es h (define n b r) k = absurd k

-- frames hold no definition
calls_known : {ws : Tokens} {t : Tree} → SpellFrames ws t → (es : Scope ℕ) → IsDefined es t → CallsKnown es t
calls_known (SpellFrames.none) es w = w
calls_known (SpellFrames.more p q) es w = w

definition_read : (ds : Scope ℕ) (n : List ℕ) (body ts : Tokens) (b : Tree) → is_name n ≡ true → is_known ds n ≡ false → SpellFrames body b → CallsKnown ds b → depth_in ds b ≤ 16
    → definition_at ds (n ∷ (braces body ++ ts)) ≡ Ok ((n, b), ts)
unfolding label_at
definition_read ds n body ts b r f p w l = ap (λ z. definition_at ds (n ∷ z)) (braced body ts) ∙ rw (r, f, block_read ds 16 body b (frames_read p ds 16 w l) ts) refl

-- a whole script
script_read : {ws : Tokens} {t : Tree} → SpellScript ws t → (k : ℕ) (ds es : Scope ℕ) → Alike ds es → length es + k ≡ 32 → IsDefined es t → depth_in ds t ≤ 16 → script_at k ds ws ≡ Ok t
script_read (SpellScript.define i p q) zero ds es a few w l = absurd (omega (arith, few, w.0))
script_read (SpellScript.define {label = n} {body = body} {script = rest} {b = b} {r = r} i p q) (suc k) ds es a few w l =
    let ts : Tokens = n ∷ (braces body ++ rest) in
    let less : suc k - 1 ≡ k = omega arith in
    defines (suc k) ds (codes "define") (codes "define" ∷ ts) ts refl refl (λ e. omega (arith, e))
    ∙ ap (λ z. z >>= (λ x. script_at (suc k - 1) ((x.0.0, depth_in ds x.0.1) ∷ ds) x.1 >>= (λ t. Ok (define x.0.0 x.0.1 t)))) (definition_read ds n body rest b i (a n ∙ w.1) p (alike_known ds es a b w.2) (omega (arith, l)))
    ∙ ap (λ j. script_at j ((n, depth_in ds b) ∷ ds) rest >>= (λ t. Ok (define n b t))) less
    ∙ ap (λ z. z >>= (λ t. Ok (define n b t))) (script_read q k ((n, depth_in ds b) ∷ ds) ((n, length es) ∷ es) (λ m. ap (λ v. names.same_bytes n m || v) (a m)) (omega (arith, few)) w.3 (omega (arith, l)))
script_read (SpellScript.main {frames = frames} {t = t} p) k ds es a few w l =
    no_definition k ds frames (no_definition_here p)
    ∙ main_read p ds (alike_known ds es a t (calls_known p es w)) l (length frames) (omega arith)

pub scripts_derived : ScriptsAreDerived
scripts_derived text t = (forth, back)
  where
    forth : tree_of_text text ≡ Ok t → HasTree text t
    forth e =
        let u = bind_ok (script_at 32 [] (tokens text)) _ t (whole_ok (whole_script text) t e) in
        let k = guarded (nat_le (worst_messages u.0) 1000000) u.0 t (cause.Messages, length (tokens text)) u.2 in
        let few = leb-true (worst_messages u.0) 1000000 k.0 in
        let sound = script_is_sound (tokens text) u.0 u.1 few in
        subst (HasTree text) k.1 (record { spelled = script_stands 32 [] (tokens text) u.0 u.1; shallow = sound.shallow; defined = sound.defined; bounded = few })

    back : HasTree text t → tree_of_text text ≡ Ok t
    back h = rw (script_read h.spelled 32 [] [] (λ n. refl) (omega arith) h.defined h.shallow, le-leb (worst_messages t) 1000000 h.bounded) refl

pub one_tree : OneTree
one_tree text t u h k = answered_is t u (sym ((scripts_derived text t).1 h) ∙ (scripts_derived text u).1 k)
