-- Reading frames one by one.
use Rattle.std.proofs.Common.{◌≡◌, ◌≢◌, ℕ, zero, suc, ◌-◌, ◌<◌, ◌≤◌, Bool, true, false, cond, List, [], ◌∷◌, ◌++◌, length, Result, Ok, Err, refl, sym, ap, ◌∙◌, subst, arith}
use Rattle.std.specs.Prelude.{codes, Some, None, if◌then◌else◌}
use Rattle.frame_tree.specs.Tree.{Tree, chain, nothing, chained, define}
use Rattle.frame_tree.specs.Bounds.{depth_in}
use Rattle.frame_tree.specs.Names.{is_name, Scope}
use Rattle.frame_text.specs.Reading.{◌>>=◌, Failure, fails, Tokens, TokenReading, same_bytes, misplaced, FailsReadingTokens, Breaks, IsFault}
use Rattle.frame_text.specs.Frames.{Reader, frame_at, frames_at, inner_at, label_at, main_at, definition_at, script_at}
use Rattle.frame_text.specs.declared.faults.Cause.{Cause}
use Rattle.frame_text.specs.declared.faults.Cause.TheVariants as cause
use Rattle.frame_text.specs.declared.faults.TextFault.{TextFault}
use Rattle.frame_text.specs.declared.faults.TextFault.TheVariants as fault

pub inner_some : (ds : Scope ℕ) (d : ℕ) → d ≢ 0 → inner_at ds d ≡ Ok (λ ts. frames_at (frame_at ds (d - 1)) (length ts) ts)
unfolding inner_at
inner_some ds zero h = absurd (h refl)
inner_some ds (suc d) h = let e : suc d - 1 ≡ d = omega arith in ap (λ k. Ok (λ ts. frames_at (frame_at ds k) (length ts) ts)) (sym e)

pub inner_none : (ds : Scope ℕ) (d : ℕ) → d ≡ 0 → inner_at ds d ≡ Err cause.Depth
unfolding inner_at
inner_none ds d e = ap (inner_at ds) e

-- trees in front of what was read
abbrev before : List Tree → Tree → Tree
before [] t = t
before (u ∷ us) t = chained u (before us t)

abbrev put_before : List Tree → TokenReading Tree → TokenReading Tree
put_before ts r = r >>= (λ x. Ok (before ts x.0, x.1))

abbrev pub onto : List Tree → TokenReading Tree → TokenReading Tree
onto us r = put_before us r

put_none : (r : TokenReading Tree) → r ≡ put_before [] r
put_none (Ok x) = refl
put_none (Err e) = refl

pub onto_none : (us : List Tree) (r : TokenReading Tree) → us ≡ [] → r ≡ onto us r
onto_none us r e = put_none r ∙ ap (λ vs. onto vs r) (sym e)

pub before_nothing : (ts : List Tree) → before ts nothing ≡ chain ts
before_nothing [] = refl
before_nothing (t ∷ ts) = ap (chained t) (before_nothing ts)

before_more : (ts : List Tree) (t u : Tree) → before ts (chained t u) ≡ before (ts ++ t ∷ []) u
before_more [] t u = refl
before_more (s ∷ ts) t u = ap (chained s) (before_more ts t u)

put_more : (ts : List Tree) (t : Tree) (r : TokenReading Tree) → put_before ts (r >>= (λ y. Ok (chained t y.0, y.1))) ≡ put_before (ts ++ t ∷ []) r
put_more ts t (Ok x) = ap (λ z. Ok (z, x.1)) (before_more ts t x.0)
put_more ts t (Err e) = refl

pub frames_end : (frame : Reader) (n : ℕ) (ts : Tokens) (fs : List Tree) (whole : TokenReading Tree) → ts ≡ [] → whole ≡ onto fs (frames_at frame n ts) → whole ≡ fails cause.End ts
unfolding frames_at
frames_end frame n ts fs whole h e = e ∙ ap (λ z. onto fs (frames_at frame n z)) h ∙ ap (λ z. Err (cause.End, length z)) (sym h)

abbrev goes : Reader → ℕ → List ℕ → Tokens → Bool → TokenReading Tree
goes frame n w ts b = cond b (Ok (nothing, ts)) (frame (w ∷ ts) >>= (λ x. frames_at frame n x.1 >>= (λ y. Ok (chained x.0 y.0, y.1))))

pub frames_close : (frame : Reader) (n : ℕ) (w : List ℕ) (text ts : Tokens) (fs : List Tree) (whole : TokenReading Tree) → text ≡ w ∷ ts → length text ≤ n → same_bytes w (codes "}") ≡ true → whole ≡ onto fs (frames_at frame n text) → whole ≡ Ok (chain fs, ts)
unfolding frames_at
frames_close frame zero w text ts fs whole is h b e = absurd (omega (arith, h, ap length is))
frames_close frame (suc n) w text ts fs whole is h b e =
    e ∙ ap (λ z. onto fs (frames_at frame (suc n) z)) is
    ∙ ap (λ t. onto fs (goes frame n w ts t)) b
    ∙ ap (λ t. Ok (t, ts)) (before_nothing fs)

pub frames_on : (frame : Reader) (n : ℕ) (w : List ℕ) (text ts : Tokens) → text ≡ w ∷ ts → same_bytes w (codes "}") ≡ false → frames_at frame (suc n) text ≡ (frame text >>= (λ x. frames_at frame n x.1 >>= (λ y. Ok (chained x.0 y.0, y.1))))
unfolding frames_at
frames_on frame n w text ts is b =
    ap (frames_at frame (suc n)) is ∙ ap (λ t. goes frame n w ts t) b
    ∙ ap (λ z. frame z >>= (λ x. frames_at frame n x.1 >>= (λ y. Ok (chained x.0 y.0, y.1)))) (sym is)

pub frames_more : (frame : Reader) (n : ℕ) (w : List ℕ) (text ts left : Tokens) (fs : List Tree) (f : Tree) (whole : TokenReading Tree) → text ≡ w ∷ ts → length text ≤ n → same_bytes w (codes "}") ≡ false
    → frame text ≡ Ok (f, left) → length left < length text → whole ≡ onto fs (frames_at frame n text) → (m : ℕ) × (length left ≤ m) × (whole ≡ onto (fs ++ f ∷ []) (frames_at frame m left))
frames_more frame zero w text ts left fs f whole is h b r s e = absurd (omega (arith, h, ap length is))
frames_more frame (suc n) w text ts left fs f whole is h b r s e = (
  n,
  omega (arith, h, s),
  e ∙ ap (onto fs) (frames_on frame n w text ts is b ∙ ap (λ z. z >>= (λ x. frames_at frame n x.1 >>= (λ y. Ok (chained x.0 y.0, y.1)))) r)
      ∙ put_more fs f (frames_at frame n left),
)

frames_fail : (frame : Reader) (n : ℕ) (w : List ℕ) (text ts : Tokens) (fs : List Tree) (c : Failure) (whole : TokenReading Tree) → text ≡ w ∷ ts → length text ≤ n → same_bytes w (codes "}") ≡ false → frame text ≡ Err c → whole ≡ onto fs (frames_at frame n text) → whole ≡ Err c
frames_fail frame zero w text ts fs c whole is h b r e = absurd (omega (arith, h, ap length is))
frames_fail frame (suc n) w text ts fs c whole is h b r e =
    e ∙ ap (onto fs) (frames_on frame n w text ts is b ∙ ap (λ z. z >>= (λ x. frames_at frame n x.1 >>= (λ y. Ok (chained x.0 y.0, y.1)))) r)

pub frames_refused : (R : Type 0) (f : TextFault) (frame : Reader) (n : ℕ) (w : List ℕ) (text ts : Tokens) (fs : List Tree) (whole : TokenReading Tree) → text ≡ w ∷ ts → length text ≤ n → same_bytes w (codes "}") ≡ false → Breaks R f (frame text) → whole ≡ onto fs (frames_at frame n text) → Breaks R f whole
frames_refused R (fault.Text c left) frame n w text ts fs whole is h b r e = frames_fail frame n w text ts fs (c, left) whole is h b r e
frames_refused R (fault.Memory left) frame n w text ts fs whole is h b r e = r

pub fails_with : (f : TextFault) (c : Cause) (ts : Tokens) {Y : Type 0} (read : Result Y Failure) → IsFault c ts f → read ≡ fails c ts → FailsReadingTokens f read
fails_with f c ts read h e = subst (λ g. FailsReadingTokens g read) (sym h) e

pub breaks_with : (R : Type 0) (f : TextFault) (c : Cause) (ts : Tokens) {Y : Type 0} (read : Result Y Failure) → IsFault c ts f → read ≡ fails c ts → Breaks R f read
breaks_with R f c ts read h e = subst (λ g. Breaks R g read) (sym h) e

abbrev pub onto_script : List Tree → Result Tree Failure → Result Tree Failure
onto_script fs r = r >>= (λ x. Ok (before fs x))

script_empty : (r : Result Tree Failure) → r ≡ (r >>= (λ x. Ok (before [] x)))
script_empty (Ok x) = refl
script_empty (Err e) = refl

pub script_none : (fs : List Tree) (r : Result Tree Failure) → fs ≡ [] → r ≡ onto_script fs r
script_none fs r e = script_empty r ∙ ap (λ us. onto_script us r) (sym e)

put_script_more : (ts : List Tree) (t : Tree) (r : Result Tree Failure) → ((r >>= (λ y. Ok (chained t y))) >>= (λ x. Ok (before ts x))) ≡ (r >>= (λ x. Ok (before (ts ++ t ∷ []) x)))
put_script_more ts t (Ok x) = ap Ok (before_more ts t x)
put_script_more ts t (Err e) = refl

pub main_on : (ds : Scope ℕ) (n : ℕ) (w : List ℕ) (text ts : Tokens) → text ≡ w ∷ ts → main_at ds (suc n) text ≡ (frame_at ds 16 text >>= (λ x. main_at ds n x.1 >>= (λ y. Ok (chained x.0 y))))
unfolding main_at
main_on ds n w text ts is = ap (main_at ds (suc n)) is ∙ ap (λ z. frame_at ds 16 z >>= (λ x. main_at ds n x.1 >>= (λ y. Ok (chained x.0 y)))) (sym is)

pub main_end : (ds : Scope ℕ) (n : ℕ) (text : Tokens) (fs : List Tree) (whole : Result Tree Failure) → text ≡ [] → whole ≡ onto_script fs (main_at ds n text) → whole ≡ Ok (chain fs)
unfolding main_at
main_end ds n text fs whole h e = e ∙ ap (λ z. onto_script fs (main_at ds n z)) h ∙ ap Ok (before_nothing fs)

pub main_more : (ds : Scope ℕ) (n : ℕ) (w : List ℕ) (text ts left : Tokens) (fs : List Tree) (f : Tree) (whole : Result Tree Failure) → text ≡ w ∷ ts → length text ≤ n
    → frame_at ds 16 text ≡ Ok (f, left) → length left < length text → whole ≡ onto_script fs (main_at ds n text) → (m : ℕ) × (length left ≤ m) × (whole ≡ onto_script (fs ++ f ∷ []) (main_at ds m left))
main_more ds zero w text ts left fs f whole is h r s e = absurd (omega (arith, h, ap length is))
main_more ds (suc n) w text ts left fs f whole is h r s e = (
  n,
  omega (arith, h, s),
  e ∙ ap (onto_script fs) (main_on ds n w text ts is ∙ ap (λ z. z >>= (λ x. main_at ds n x.1 >>= (λ y. Ok (chained x.0 y)))) r)
      ∙ put_script_more fs f (main_at ds n left),
)

main_fail : (ds : Scope ℕ) (n : ℕ) (w : List ℕ) (text ts : Tokens) (fs : List Tree) (c : Failure) (whole : Result Tree Failure) → text ≡ w ∷ ts → length text ≤ n → frame_at ds 16 text ≡ Err c → whole ≡ onto_script fs (main_at ds n text) → whole ≡ Err c
main_fail ds zero w text ts fs c whole is h r e = absurd (omega (arith, h, ap length is))
main_fail ds (suc n) w text ts fs c whole is h r e = e ∙ ap (onto_script fs) (main_on ds n w text ts is ∙ ap (λ z. z >>= (λ x. main_at ds n x.1 >>= (λ y. Ok (chained x.0 y)))) r)

pub main_refused : (R : Type 0) (f : TextFault) (ds : Scope ℕ) (n : ℕ) (w : List ℕ) (text ts : Tokens) (fs : List Tree) (whole : Result Tree Failure) → text ≡ w ∷ ts → length text ≤ n → Breaks R f (frame_at ds 16 text) → whole ≡ onto_script fs (main_at ds n text) → Breaks R f whole
main_refused R (fault.Text c left) ds n w text ts fs whole is h r e = main_fail ds n w text ts fs (c, left) whole is h r e
main_refused R (fault.Memory left) ds n w text ts fs whole is h r e = r

-- no definition here
pub no_definition : (k : ℕ) (ds : Scope ℕ) (text : Tokens) → ((w : List ℕ) (ts : Tokens) → text ≡ w ∷ ts → same_bytes w (codes "define") ≡ false) → script_at k ds text ≡ main_at ds (length text) text
unfolding script_at main_at
no_definition k ds [] h = refl
no_definition zero ds (w ∷ ts) h = ap (λ b. cond b (fails cause.Definitions (w ∷ ts)) (main_at ds (length (w ∷ ts)) (w ∷ ts))) (h w ts refl)
no_definition (suc k) ds (w ∷ ts) h =
    ap (λ b. cond b (definition_at ds ts >>= (λ x. script_at k ((x.0.0, depth_in ds x.0.1) ∷ ds) x.1 >>= (λ t. Ok (define x.0.0 x.0.1 t)))) (main_at ds (length (w ∷ ts)) (w ∷ ts))) (h w ts refl)

-- one too many
pub full : (k : ℕ) (ds : Scope ℕ) (w : List ℕ) (text ts : Tokens) → text ≡ w ∷ ts → same_bytes w (codes "define") ≡ true → k ≡ 0 → script_at k ds text ≡ fails cause.Definitions text
unfolding script_at
full k ds w text ts is h z =
    ap (λ j. script_at j ds text) z ∙ ap (script_at 0 ds) is ∙ ap (λ b. cond b (fails cause.Definitions (w ∷ ts)) (main_at ds (length (w ∷ ts)) (w ∷ ts))) h ∙ ap (λ z. Err (cause.Definitions, length z)) (sym is)

-- a definition, and what stands behind it
pub defines : (k : ℕ) (ds : Scope ℕ) (w : List ℕ) (text ts : Tokens) → text ≡ w ∷ ts → same_bytes w (codes "define") ≡ true → k ≢ 0
    → script_at k ds text ≡ (definition_at ds ts >>= (λ x. script_at (k - 1) ((x.0.0, depth_in ds x.0.1) ∷ ds) x.1 >>= (λ t. Ok (define x.0.0 x.0.1 t))))
unfolding script_at
defines zero ds w text ts is h z = absurd (z refl)
defines (suc k) ds w text ts is h z =
    let less : k ≡ suc k - 1 = omega arith in
    ap (script_at (suc k) ds) is
    ∙ ap (λ b. cond b (definition_at ds ts >>= (λ x. script_at k ((x.0.0, depth_in ds x.0.1) ∷ ds) x.1 >>= (λ t. Ok (define x.0.0 x.0.1 t)))) (main_at ds (length (w ∷ ts)) (w ∷ ts))) h
    ∙ ap (λ j. definition_at ds ts >>= (λ x. script_at j ((x.0.0, depth_in ds x.0.1) ∷ ds) x.1 >>= (λ t. Ok (define x.0.0 x.0.1 t)))) less

-- a token that is no name
none_is : (b : Bool) (w : List ℕ) → None ≡ cond b (Some w) None → b ≡ false
none_is true w e = absurd (cc)
none_is false w e = refl

pub no_label : (w : List ℕ) (text ts : Tokens) → text ≡ w ∷ ts → None ≡ (if is_name w then Some w else None) → label_at text ≡ fails (misplaced w) text
unfolding label_at
no_label w text ts is h = ap label_at is ∙ ap (λ b. cond b (Ok (w, ts)) (fails (misplaced w) (w ∷ ts))) (none_is (is_name w) w h) ∙ ap (λ z. Err (misplaced w, length z)) (sym is)

-- no definition where the text is at its end, or another word stands
pub none_here : (text : Tokens) → text ≡ [] → (w : List ℕ) (ts : Tokens) → text ≡ w ∷ ts → same_bytes w (codes "define") ≡ false
none_here text e w ts is = absurd (let no : [] ≡ w ∷ ts = sym e ∙ is in cc)

pub not_here : (text : Tokens) (v : List ℕ) (us : Tokens) → text ≡ v ∷ us → same_bytes v (codes "define") ≡ false → (w : List ℕ) (ts : Tokens) → text ≡ w ∷ ts → same_bytes w (codes "define") ≡ false
not_here text v us e h w ts is = let first : v ≡ w = (let both : v ∷ us ≡ w ∷ ts = sym e ∙ is in cc) in ap (λ z. same_bytes z (codes "define")) (sym first) ∙ h
