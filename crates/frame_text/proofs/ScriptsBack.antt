-- What is read of the tokens of a printed tree.
use Rattle.std.proofs.Common.{◌≡◌, ℕ, zero, suc, ◌+◌, ◌*◌, ◌-◌, ◌/◌, ◌%◌, ◌<◌, ◌≤◌, Bool, true, false, cond, List, [], ◌∷◌, length, Ok, refl, sym, ap, ◌∙◌, arith}
use Rattle.std.specs.Prelude.{codes, decimal, ◌&&◌, ◌||◌}
use Rattle.std.proofs.lemmas.Bool.{le-leb}
use Rattle.frame_tree.specs.Tree.{Condition, Tree, send, retry, gap, repeat, choose, until, timed, nothing, chained, call, define}
use Rattle.frame_tree.specs.Bounds.{depth_in, IsInRange, CallsKnown, IsDefined, operators}
use Rattle.frame_tree.specs.Names as names
use Rattle.frame_tree.specs.Names.{is_name, Scope, meant_by, is_known}
use Rattle.frame_text.specs.Reading.{Tokens, ◌>>=◌, same_bytes, past}
use Rattle.frame_text.specs.Words.{number_within, period_at}
use Rattle.frame_text.specs.Messages.{send_at}
use Rattle.frame_text.specs.Frames.{Reader, frame_at, frame_from, frame_of, frame_word, frames_at, block_at, block_from, inner_at, else_at, label_at, call_at, main_at, definition_at, script_at}
use Rattle.frame_text.specs.Printing.{is_empty}
use Rattle.frame_text.specs.Chains.{IsRead, IsScript}
use Rattle.frame_text.proofs.Scripts.{frames_on, main_on, no_definition, defines}
use Rattle.frame_text.proofs.PrintedForms.{MayFollow, send_then}
use Rattle.frame_text.proofs.FormsBack.{number_then, send_back}
use Rattle.frame_text.proofs.ConditionsBack.{condition_back}
use Rattle.frame_text.proofs.TreesBack.{tree_then, begins, follows, longer, number_spelled}

within_back : (low high n : ℕ) (ts : Tokens) → high ≤ 65535 → low ≤ n → n ≤ high → number_within low high (decimal n ∷ ts) ≡ Ok (n, ts)
unfolding number_within
within_back low high n ts k l h = rw (number_then n ts (number_spelled n high k h), le-leb low n l, le-leb n high h) refl

hundred_times : (h : ℕ) → (h * 100) % 100 ≡ 0
hundred_times h = omega arith

hundredth : (h : ℕ) → (h * 100) / 100 ≡ h
hundredth h = omega arith

period_back : (h : ℕ) (ts : Tokens) → 1 ≤ h → h ≤ 65535 → period_at (decimal (h * 100) ∷ ts) ≡ Ok (h, ts)
unfolding period_at number_within
period_back h ts l k =
    rw (number_then (h * 100) ts (omega (arith, k)), le-leb 100 (h * 100) (omega (arith, l)), le-leb (h * 100) 6553500 (omega (arith, k)), hundred_times h, hundredth h) refl

else_none : (block : Reader) (ts : Tokens) → MayFollow ts → else_at block ts ≡ Ok (nothing, ts)
unfolding else_at
else_none block [] f = refl
else_none block (w ∷ ts) f = rw f.1 refl

-- how a chain in a block, and a frame, read back with so many blocks allowed in one another
abbrev Back : Scope ℕ → Bool → ℕ → Tree → Type 0
Back ds false d t = (ts : Tokens) → MayFollow ts → frame_at ds d (tree_then t ts) ≡ Ok (t, ts)
Back ds true d t = (n : ℕ) (ts : Tokens) → length (tree_then t (codes "}" ∷ ts)) ≤ n → frames_at (frame_at ds d) n (tree_then t (codes "}" ∷ ts)) ≡ Ok (t, ts)

block_back : (ds : Scope ℕ) (d : ℕ) (t : Tree) (ts : Tokens) → Back ds true d t → block_at ds (suc d) (codes "{" ∷ tree_then t (codes "}" ∷ ts)) ≡ Ok (t, ts)
unfolding block_from inner_at
block_back ds d t ts back = back (length (tree_then t (codes "}" ∷ ts))) ts (omega arith)

frame_not_empty : (a : Tree) (e : Bool) → IsRead false a → (is_empty a && e) ≡ true → ⊥
frame_not_empty (send line m) e r i = absurd (cc)
frame_not_empty (retry n line m) e r i = absurd (cc)
frame_not_empty (gap n) e r i = absurd (cc)
frame_not_empty (repeat n b) e r i = absurd (cc)
frame_not_empty (choose c a b) e r i = absurd (cc)
frame_not_empty (until c n b) e r i = absurd (cc)
frame_not_empty (timed n b) e r i = absurd (cc)
frame_not_empty (call n) e r i = absurd (cc)
frame_not_empty (define n b k) e r i = r
frame_not_empty nothing e r i = r
frame_not_empty (chained a b) e r i = r

close_back : (frame : Reader) (n : ℕ) (ts : Tokens) → length (codes "}" ∷ ts) ≤ n → frames_at frame n (codes "}" ∷ ts) ≡ Ok (nothing, ts)
unfolding frames_at
close_back frame zero ts s = absurd (omega (arith, s))
close_back frame (suc n) ts s = refl

first_back : (frame : Reader) (n : ℕ) (w : List ℕ) (text us rest ts : Tokens) (a b : Tree) → text ≡ w ∷ us → same_bytes w (codes "}") ≡ false → length text ≤ n → length rest < length text
    → frame text ≡ Ok (a, rest) → ((m : ℕ) → length rest ≤ m → frames_at frame m rest ≡ Ok (b, ts)) → frames_at frame n text ≡ Ok (chained a b, ts)
first_back frame zero w text us rest ts a b is e s k one more = absurd (omega (arith, s, k))
first_back frame (suc n) w text us rest ts a b is e s k one more =
    frames_on frame n w text us is e
    ∙ ap (λ r. r >>= (λ x. frames_at frame n x.1 >>= (λ y. Ok (chained x.0 y.0, y.1)))) one
    ∙ ap (λ r. r >>= (λ y. Ok (chained a y.0, y.1))) (more n (omega (arith, s, k)))

empty_is : (t : Tree) → IsRead true t → is_empty t ≡ true → nothing ≡ t
empty_is nothing r e = refl
empty_is (chained a b) r e = absurd (frame_not_empty a (is_empty b) r.0 e)
empty_is (send line m) r e = absurd r
empty_is (retry n line m) r e = absurd r
empty_is (gap n) r e = absurd r
empty_is (repeat n b) r e = absurd r
empty_is (choose c a b) r e = absurd r
empty_is (until c n b) r e = absurd r
empty_is (timed n b) r e = absurd r
empty_is (call n) r e = absurd r
empty_is (define n b k) r e = absurd r

else_back : (ds : Scope ℕ) (d : ℕ) (b : Tree) (ts : Tokens) → IsRead true b → MayFollow ts → Back ds true d b → (e : Bool) → is_empty b ≡ e
    → else_at (block_at ds (suc d)) (cond e ts (codes "else" ∷ codes "{" ∷ tree_then b (codes "}" ∷ ts))) ≡ Ok (b, ts)
unfolding else_at
else_back ds d b ts r f q true e = else_none (block_at ds (suc d)) ts f ∙ ap (λ t. Ok (t, ts)) (empty_is b r e)
else_back ds d b ts r f q false e = block_back ds d b ts q

-- an if, of which the blocks read back
choose_back : (ds : Scope ℕ) (d : ℕ) (c : Condition) (a b : Tree) (ts : Tokens) → operators c ≤ 16 → IsRead true b → MayFollow ts → Back ds true d a → Back ds true d b
    → frame_at ds (suc d) (tree_then (choose c a b) ts) ≡ Ok (choose c a b, ts)
unfolding frame_from frame_of frame_word
choose_back ds d c a b ts o r f p q =
    let behind : Tokens = cond (is_empty b) ts (codes "else" ∷ codes "{" ∷ tree_then b (codes "}" ∷ ts)) in
    ap (λ z. z >>= (λ u. block_at ds (suc d) u.1 >>= (λ v. else_at (block_at ds (suc d)) v.1 >>= (λ w. Ok (choose u.0 v.0 w.0, w.1))))) (condition_back c 16 o (codes "{" ∷ tree_then a (codes "}" ∷ behind)))
    ∙ ap (λ z. z >>= (λ v. else_at (block_at ds (suc d)) v.1 >>= (λ w. Ok (choose c v.0 w.0, w.1)))) (block_back ds d a behind p)
    ∙ ap (λ z. z >>= (λ w. Ok (choose c a w.0, w.1))) (else_back ds d b ts r f q (is_empty b) refl)

-- an until, of which the block reads back
until_back : (ds : Scope ℕ) (d : ℕ) (c : Condition) (n : ℕ) (b : Tree) (ts : Tokens) → operators c ≤ 16 → 1 ≤ n → n ≤ 10000 → Back ds true d b
    → frame_at ds (suc d) (tree_then (until c n b) ts) ≡ Ok (until c n b, ts)
unfolding frame_from frame_of frame_word past
until_back ds d c n b ts o low high q =
    let body : Tokens = codes "{" ∷ tree_then b (codes "}" ∷ ts) in
    ap (λ z. z >>= (λ u. past (codes "at") u.1 >>= (λ us. past (codes "most") us >>= (λ vs. number_within 1 10000 vs >>= (λ k. block_at ds (suc d) k.1 >>= (λ x. Ok (until u.0 k.0 x.0, x.1)))))))
    (condition_back c 16 o (codes "at" ∷ codes "most" ∷ decimal n ∷ body))
    ∙ ap (λ z. z >>= (λ k. block_at ds (suc d) k.1 >>= (λ x. Ok (until c k.0 x.0, x.1)))) (within_back 1 10000 n body (omega arith) low high)
    ∙ ap (λ z. z >>= (λ x. Ok (until c n x.0, x.1))) (block_back ds d b ts q)

-- a frame with a period, of which the block reads back
timed_back : (ds : Scope ℕ) (d : ℕ) (n : ℕ) (b : Tree) (ts : Tokens) → 1 ≤ n → n ≤ 65535 → Back ds true d b → frame_at ds (suc d) (tree_then (timed n b) ts) ≡ Ok (timed n b, ts)
unfolding frame_from frame_of frame_word
timed_back ds d n b ts low high q =
    ap (λ z. z >>= (λ k. block_at ds (suc d) k.1 >>= (λ x. Ok (timed k.0 x.0, x.1)))) (period_back n (codes "{" ∷ tree_then b (codes "}" ∷ ts)) low high)
    ∙ ap (λ z. z >>= (λ x. Ok (timed n x.0, x.1))) (block_back ds d b ts q)

-- a call of a name in scope
call_back : (ds : Scope ℕ) (d : ℕ) (frame : Tokens) (n : List ℕ) (ts : Tokens) → is_name n ≡ true → is_known ds n ≡ true → meant_by 0 ds n ≤ d → call_at ds d frame (n ∷ ts) ≡ Ok (call n, ts)
unfolding label_at
call_back ds d frame n ts r w l = rw (r, w, le-leb (meant_by 0 ds n) d l) refl

-- a frame, and a chain of frames in a block
back : (ds : Scope ℕ) (k : Bool) (t : Tree) (d : ℕ) → IsRead k t → IsInRange t → CallsKnown ds t → depth_in ds t ≤ d → Back ds k d t
unfolding frame_from frame_of frame_word past
back ds false (send line m) d r h w l = λ ts f. ap (λ z. z >>= (λ x. Ok (send x.0.0 x.0.1, x.1))) (send_back line m r ts f)
back ds false (retry n line m) d r h w l = λ ts f.
    ap (λ z. z >>= (λ k. past (codes "send") k.1 >>= (λ us. send_at us >>= (λ x. Ok (retry k.0 x.0.0 x.0.1, x.1))))) (within_back 1 8 n (send_then line m ts) (omega arith) h.0 h.1)
    ∙ ap (λ z. z >>= (λ x. Ok (retry n x.0.0 x.0.1, x.1))) (send_back line m r ts f)
back ds false (gap n) d r h w l = λ ts f. ap (λ z. z >>= (λ k. Ok (gap k.0, k.1))) (within_back 40 65535 n ts (omega arith) h.0 h.1)
back ds false (repeat n b) zero r h w l = absurd (omega (arith, l))
back ds false (repeat n b) (suc d) r h w l = λ ts f.
    ap (λ z. z >>= (λ k. block_at ds (suc d) k.1 >>= (λ x. Ok (repeat k.0 x.0, x.1)))) (within_back 1 10000 n (codes "{" ∷ tree_then b (codes "}" ∷ ts)) (omega arith) h.0 h.1)
    ∙ ap (λ z. z >>= (λ x. Ok (repeat n x.0, x.1))) (block_back ds d b ts (back ds true b d r h.2 w (omega (arith, l))))
back ds false (choose c a b) zero r h w l = absurd (omega (arith, l))
back ds false (choose c a b) (suc d) r h w l = λ ts f.
    choose_back ds d c a b ts h.0 r.1 f (back ds true a d r.0 h.1 w.0 (omega (arith, l))) (back ds true b d r.1 h.2 w.1 (omega (arith, l)))
back ds false (until c n b) zero r h w l = absurd (omega (arith, l))
back ds false (until c n b) (suc d) r h w l = λ ts f. until_back ds d c n b ts h.0 h.1 h.2 (back ds true b d r h.3 w (omega (arith, l)))
back ds false (timed n b) zero r h w l = absurd (omega (arith, l))
back ds false (timed n b) (suc d) r h w l = λ ts f. timed_back ds d n b ts h.0 h.1 (back ds true b d r h.2 w (omega (arith, l)))
back ds false (call n) d r h w l = λ ts f. call_back ds d (codes "call" ∷ n ∷ ts) n ts r w l
back ds false (define n b k) d r h w l = absurd r
back ds false nothing d r h w l = absurd r
back ds false (chained a b) d r h w l = absurd r
back ds true nothing d r h w l = λ n ts s. close_back (frame_at ds d) n ts s
back ds true (chained a b) d r h w l = λ n ts s.
    let rest = tree_then b (codes "}" ∷ ts) in
    let after : MayFollow rest = follows b r.1 (codes "}" ∷ ts) (refl, refl) in
    let one = back ds false a d r.0 h.0 w.0 (omega (arith, l)) in
    let more = back ds true b d r.1 h.1 w.1 (omega (arith, l)) in
    let g = begins a r.0 rest in
    first_back (frame_at ds d) n g.word (tree_then a rest) g.more rest ts a b g.is g.goes s (longer a r.0 rest) (one rest after) (λ m k. more m ts k)
back ds true (send line m) d r h w l = absurd r
back ds true (retry n line m) d r h w l = absurd r
back ds true (gap n) d r h w l = absurd r
back ds true (repeat n b) d r h w l = absurd r
back ds true (choose c a b) d r h w l = absurd r
back ds true (until c n b) d r h w l = absurd r
back ds true (timed n b) d r h w l = absurd r
back ds true (call n) d r h w l = absurd r
back ds true (define n b k) d r h w l = absurd r

-- frames up to the end
main_back : (ds : Scope ℕ) (t : Tree) → IsRead true t → IsInRange t → CallsKnown ds t → depth_in ds t ≤ 16 → (n : ℕ) → length (tree_then t []) ≤ n → main_at ds n (tree_then t []) ≡ Ok t
unfolding main_at
main_back ds nothing r h w l n s = refl
main_back ds (chained a b) r h w l zero s = let k = longer a r.0 (tree_then b []) in absurd (omega (arith, s, k))
main_back ds (chained a b) r h w l (suc n) s =
    let rest = tree_then b [] in
    let k = longer a r.0 rest in
    let g = begins a r.0 rest in
    main_on ds n g.word (tree_then a rest) g.more g.is
    ∙ ap (λ z. z >>= (λ x. main_at ds n x.1 >>= (λ t. Ok (chained x.0 t)))) (back ds false a 16 r.0 h.0 w.0 (omega (arith, l)) rest (follows b r.1 [] tt))
    ∙ ap (λ z. z >>= (λ t. Ok (chained a t))) (main_back ds b r.1 h.1 w.1 (omega (arith, l)) n (omega (arith, s, k)))
main_back ds (send line m) r h w l n s = absurd r
main_back ds (retry k line m) r h w l n s = absurd r
main_back ds (gap k) r h w l n s = absurd r
main_back ds (repeat k b) r h w l n s = absurd r
main_back ds (choose c a b) r h w l n s = absurd r
main_back ds (until c k b) r h w l n s = absurd r
main_back ds (timed k b) r h w l n s = absurd r
main_back ds (call k) r h w l n s = absurd r
main_back ds (define k b q) r h w l n s = absurd r

-- the first token of a chain is no definition
first_word : (t : Tree) → IsRead true t → (w : List ℕ) (ts : Tokens) → tree_then t [] ≡ w ∷ ts → same_bytes w (codes "define") ≡ false
first_word nothing r w ts e = absurd (cc)
first_word (chained (send line m) b) r w ts e = let i : codes "send" ≡ w = cc in ap (λ z. same_bytes z (codes "define")) (sym i)
first_word (chained (retry n line m) b) r w ts e = let i : codes "retry" ≡ w = cc in ap (λ z. same_bytes z (codes "define")) (sym i)
first_word (chained (gap n) b) r w ts e = let i : codes "gap" ≡ w = cc in ap (λ z. same_bytes z (codes "define")) (sym i)
first_word (chained (repeat n a) b) r w ts e = let i : codes "repeat" ≡ w = cc in ap (λ z. same_bytes z (codes "define")) (sym i)
first_word (chained (choose c p q) b) r w ts e = let i : codes "if" ≡ w = cc in ap (λ z. same_bytes z (codes "define")) (sym i)
first_word (chained (until c n a) b) r w ts e = let i : codes "until" ≡ w = cc in ap (λ z. same_bytes z (codes "define")) (sym i)
first_word (chained (timed n a) b) r w ts e = let i : codes "frame" ≡ w = cc in ap (λ z. same_bytes z (codes "define")) (sym i)
first_word (chained (call n) b) r w ts e = let i : codes "call" ≡ w = cc in ap (λ z. same_bytes z (codes "define")) (sym i)
first_word (chained nothing b) r w ts e = absurd r.0
first_word (chained (chained p q) b) r w ts e = absurd r.0
first_word (chained (define n p q) b) r w ts e = absurd r.0
first_word (send line m) r w ts e = absurd r
first_word (retry k line m) r w ts e = absurd r
first_word (gap k) r w ts e = absurd r
first_word (repeat k b) r w ts e = absurd r
first_word (choose c a b) r w ts e = absurd r
first_word (until c k b) r w ts e = absurd r
first_word (timed k b) r w ts e = absurd r
first_word (call k) r w ts e = absurd r
first_word (define k b q) r w ts e = absurd r

-- the same names in scope
abbrev Alike : Scope ℕ → Scope ℕ → Type 0
Alike ds es = (n : List ℕ) → is_known ds n ≡ is_known es n

alike_known : (ds es : Scope ℕ) → Alike ds es → (t : Tree) → CallsKnown es t → CallsKnown ds t
alike_known ds es h (send l m) k = tt
alike_known ds es h (retry n l m) k = tt
alike_known ds es h (gap n) k = tt
alike_known ds es h (repeat n b) k = alike_known ds es h b k
alike_known ds es h (choose c a b) k = (alike_known ds es h a k.0, alike_known ds es h b k.1)
alike_known ds es h (until c n b) k = alike_known ds es h b k
alike_known ds es h (timed n b) k = alike_known ds es h b k
alike_known ds es h nothing k = tt
alike_known ds es h (chained a b) k = (alike_known ds es h a k.0, alike_known ds es h b k.1)
alike_known ds es h (call n) k = h n ∙ k
alike_known ds es h (define n b r) k = absurd k

-- a definition
definition_back : (ds : Scope ℕ) (n : List ℕ) (b : Tree) (ts : Tokens) → is_name n ≡ true → is_known ds n ≡ false → IsRead true b → IsInRange b → CallsKnown ds b → depth_in ds b ≤ 16
    → definition_at ds (n ∷ codes "{" ∷ tree_then b (codes "}" ∷ ts)) ≡ Ok ((n, b), ts)
unfolding label_at
definition_back ds n b ts r f q h w l = rw (r, f, block_back ds 16 b ts (back ds true b 16 q h w l)) refl

-- a whole script
pub script_back : (t : Tree) (k : ℕ) (ds es : Scope ℕ) → Alike ds es → length es + k ≡ 32 → IsScript t → IsInRange t → IsDefined es t → depth_in ds t ≤ 16 → script_at k ds (tree_then t []) ≡ Ok t
script_back (define n b r) zero ds es a few s h w l = absurd (omega (arith, few, w.0))
script_back (define n b r) (suc k) ds es a few s h w l =
    let rest = tree_then r [] in
    let ts : Tokens = n ∷ codes "{" ∷ tree_then b (codes "}" ∷ rest) in
    let less : suc k - 1 ≡ k = omega arith in
    defines (suc k) ds (codes "define") (codes "define" ∷ ts) ts refl refl (λ e. omega (arith, e))
    ∙ ap (λ z. z >>= (λ x. script_at (suc k - 1) ((x.0.0, depth_in ds x.0.1) ∷ ds) x.1 >>= (λ t. Ok (define x.0.0 x.0.1 t)))) (definition_back ds n b rest s.0 (a n ∙ w.1) s.1 h.0 (alike_known ds es a b w.2) (omega (arith, l)))
    ∙ ap (λ j. script_at j ((n, depth_in ds b) ∷ ds) rest >>= (λ t. Ok (define n b t))) less
    ∙ ap (λ z. z >>= (λ t. Ok (define n b t))) (script_back r k ((n, depth_in ds b) ∷ ds) ((n, length es) ∷ es) (λ m. ap (λ v. names.same_bytes n m || v) (a m)) (omega (arith, few)) s.2 h.1 w.3 (omega (arith, l)))
script_back nothing k ds es a few s h w l = no_definition k ds (tree_then nothing []) (first_word nothing s) ∙ main_back ds nothing s h (alike_known ds es a nothing w) l (length (tree_then nothing [])) (omega arith)
script_back (chained p q) k ds es a few s h w l = no_definition k ds (tree_then (chained p q) []) (first_word (chained p q) s) ∙ main_back ds (chained p q) s h (alike_known ds es a (chained p q) w) l (length (tree_then (chained p q) [])) (omega arith)
script_back (send line m) k ds es a few s h w l = absurd s
script_back (retry n line m) k ds es a few s h w l = absurd s
script_back (gap n) k ds es a few s h w l = absurd s
script_back (repeat n b) k ds es a few s h w l = absurd s
script_back (choose c p q) k ds es a few s h w l = absurd s
script_back (until c n b) k ds es a few s h w l = absurd s
script_back (timed n b) k ds es a few s h w l = absurd s
script_back (call n) k ds es a few s h w l = absurd s
