-- How a text begins, and its tokens.
use Rattle.std.proofs.Common.{◌≡◌, ℕ, zero, suc, ◌+◌, ◌<◌, ◌≤◌, Bool, true, false, cond, List, [], ◌∷◌, length, get_or, take, drop, refl, sym, ap, ap₂, ◌∙◌, subst, ⊎_elim, arith}
use Rattle.std.proofs.lemmas.Bool.{cases_lt}
use Rattle.std.specs.Prelude.{nat_eq, not, ◌&&◌}
use Rattle.std.proofs.lemmas.Bool.Decides.{nat_tests}
use Rattle.frame_text.specs.Tokens.{in_word, is_blank, goes_on, glued, lex, BeginsToken}
use Rattle.frame_text.specs.Starts.{from_token, first_of, behind_token, behind_tokens}

pub lex_end : (c : Bool) (bs : List ℕ) → length bs ≡ 0 → lex false bs ≡ lex c bs
unfolding lex
lex_end c [] e = refl
lex_end c (b ∷ bs) e = absurd (omega (arith, e))

pub lex_comment : (b : ℕ) (bs : List ℕ) → lex true (b ∷ bs) ≡ lex (not (nat_eq b 10)) bs
unfolding lex
lex_comment b bs = by (nat_eq b 10)
  where
    by : (t : Bool) → cond t (lex false bs) (lex true bs) ≡ lex (not t) bs
    by true = refl
    by false = refl

pub lex_hash : (b : ℕ) (bs : List ℕ) → b ≡ 35 → lex false (b ∷ bs) ≡ lex true bs
unfolding lex
lex_hash b bs e = ap (λ x. lex false (x ∷ bs)) e

pub lex_space : (b : ℕ) (bs : List ℕ) → is_blank b ≡ true → lex false (b ∷ bs) ≡ lex false bs
unfolding lex
lex_space b bs e = ap (λ t. cond t (lex false bs) (cond (nat_eq b 35) (lex true bs) (cond (in_word b && goes_on bs) (glued b (lex false bs)) ((b ∷ []) ∷ lex false bs)))) e

pub word_apart : (b : ℕ) → in_word b ≡ true → (is_blank b ≡ false) × (nat_eq b 35 ≡ false)
word_apart b h = (grind (arith, nat_tests), grind (arith, nat_tests))

-- at a token
pub lex_token : (b : ℕ) (bs : List ℕ) → is_blank b ≡ false → nat_eq b 35 ≡ false → lex false (b ∷ bs) ≡ cond (in_word b && goes_on bs) (glued b (lex false bs)) ((b ∷ []) ∷ lex false bs)
unfolding lex
lex_token b bs s h =
    ap (λ t. cond t (lex false bs) (cond (nat_eq b 35) (lex true bs) (cond (in_word b && goes_on bs) (glued b (lex false bs)) ((b ∷ []) ∷ lex false bs)))) s
    ∙ ap (λ t. cond t (lex true bs) (cond (in_word b && goes_on bs) (glued b (lex false bs)) ((b ∷ []) ∷ lex false bs))) h

pub lex_one : (b : ℕ) (bs : List ℕ) → is_blank b ≡ false → nat_eq b 35 ≡ false → in_word b ≡ false → lex false (b ∷ bs) ≡ (b ∷ []) ∷ lex false bs
lex_one b bs s h w = lex_token b bs s h ∙ ap (λ t. cond (t && goes_on bs) (glued b (lex false bs)) ((b ∷ []) ∷ lex false bs)) w

-- a word as long as it goes
pub lex_word : (n : ℕ) (bs : List ℕ) → n < length bs → ((k : ℕ) → k < n + 1 → in_word (get_or bs k 0) ≡ true) → goes_on (drop (suc n) bs) ≡ false → lex false bs ≡ take (suc n) bs ∷ lex false (drop (suc n) bs)
lex_word n [] h w e = absurd (omega (arith, h))
lex_word zero (b ∷ bs) h w e =
    let a = word_apart b (w 0 (omega arith)) in
    lex_token b bs a.0 a.1 ∙ ap (λ t. cond (in_word b && t) (glued b (lex false bs)) ((b ∷ []) ∷ lex false bs)) e ∙ ap (λ t. cond (t && false) (glued b (lex false bs)) ((b ∷ []) ∷ lex false bs)) (w 0 (omega arith))
lex_word (suc n) (b ∷ []) h w e = absurd (omega (arith, h))
lex_word (suc n) (b ∷ b' ∷ bs) h w e =
    let a = word_apart b (w 0 (omega arith)) in
    let more = lex_word n (b' ∷ bs) (omega (arith, h)) (λ k l. w (suc k) (omega (arith, l))) e in
    lex_token b (b' ∷ bs) a.0 a.1
    ∙ ap₂ (λ t u. cond (t && u) (glued b (lex false (b' ∷ bs))) ((b ∷ []) ∷ lex false (b' ∷ bs))) (w 0 (omega arith)) (w 1 (omega arith))
    ∙ ap (glued b) more

pub ends_there : (n : ℕ) (bs : List ℕ) → length bs ≤ n → goes_on (drop n bs) ≡ false
ends_there zero [] h = refl
ends_there zero (b ∷ bs) h = absurd (omega (arith, h))
ends_there (suc n) [] h = refl
ends_there (suc n) (b ∷ bs) h = ends_there n bs (omega (arith, h))

pub stops_there : (n : ℕ) (bs : List ℕ) → n < length bs → in_word (get_or bs n 0) ≡ false → goes_on (drop n bs) ≡ false
stops_there n [] h e = absurd (omega (arith, h))
stops_there zero (b ∷ bs) h e = e
stops_there (suc n) (b ∷ bs) h e = stops_there n bs (omega (arith, h)) e

pub begins : (text : List ℕ) (b : ℕ) (bs : List ℕ) → text ≡ b ∷ bs → BeginsToken text → (is_blank b ≡ false) × (nat_eq b 35 ≡ false)
begins text b bs e h = subst BeginsToken e h

pub word_at : (n : ℕ) (bs rest : List ℕ) → 1 ≤ n → n ≤ length bs → ((k : ℕ) → k < n → in_word (get_or bs k 0) ≡ true) → goes_on (drop n bs) ≡ false → rest ≡ drop n bs → lex false bs ≡ take n bs ∷ lex false rest
word_at zero bs rest one h w e r = absurd (omega (arith, one))
word_at (suc n) bs rest one h w e r = lex_word n bs (omega (arith, h)) (λ k l. w k (omega (arith, l))) e ∙ ap (λ x. take (suc n) bs ∷ lex false x) (sym r)

pub more_word : (bs : List ℕ) (n : ℕ) → ((k : ℕ) → k < n → in_word (get_or bs k 0) ≡ true) → in_word (get_or bs n 0) ≡ true → (k : ℕ) → k < n + 1 → in_word (get_or bs k 0) ≡ true
more_word bs n below here k h = ⊎_elim (λ lt. below k lt) (λ le. let same : k ≡ n = omega (arith, h, le) in ap (λ q. in_word (get_or bs q 0)) same ∙ here) (cases_lt k n)

pub one_byte : (text bs : List ℕ) (b : ℕ) → text ≡ b ∷ bs → BeginsToken text → in_word b ≡ false → lex false text ≡ take 1 text ∷ lex false bs
one_byte text bs b e h w = let a = begins text b bs e h in ap (lex false) e ∙ lex_one b bs a.0 a.1 w ∙ ap (λ z. take 1 z ∷ lex false bs) (sym e)

pub no_bytes : (bs : List ℕ) → length bs ≡ 0 → lex false bs ≡ []
unfolding lex
no_bytes [] e = refl
no_bytes (b ∷ bs) e = absurd (omega (arith, e))

-- the first token, byte by byte
pub from_end : (c : Bool) (bs : List ℕ) → length bs ≡ 0 → bs ≡ from_token c bs
unfolding from_token
from_end c [] e = refl
from_end c (b ∷ bs) e = absurd (omega (arith, e))

pub from_comment : (b : ℕ) (bs : List ℕ) → from_token true (b ∷ bs) ≡ from_token (not (nat_eq b 10)) bs
unfolding from_token
from_comment b bs = refl

pub from_hash : (b : ℕ) (bs : List ℕ) → b ≡ 35 → from_token false (b ∷ bs) ≡ from_token true bs
unfolding from_token
from_hash b bs e = ap (λ x. from_token false (x ∷ bs)) e

pub from_space : (b : ℕ) (bs : List ℕ) → is_blank b ≡ true → from_token false (b ∷ bs) ≡ from_token false bs
unfolding from_token
from_space b bs e = ap (λ t. cond t (from_token false bs) (cond (nat_eq b 35) (from_token true bs) (b ∷ bs))) e

pub from_here : (b : ℕ) (bs : List ℕ) → is_blank b ≡ false → nat_eq b 35 ≡ false → from_token false (b ∷ bs) ≡ b ∷ bs
unfolding from_token
from_here b bs s h = ap (λ t. cond t (from_token false bs) (cond (nat_eq b 35) (from_token true bs) (b ∷ bs))) s ∙ ap (λ t. cond t (from_token true bs) (b ∷ bs)) h

-- behind one token more
pub one_behind : (n : ℕ) (text rest after : List ℕ) → rest ≡ behind_tokens n text → after ≡ behind_token rest → after ≡ behind_tokens (n + 1) text
one_behind n text rest after e h = let more : suc n ≡ n + 1 = omega arith in h ∙ ap behind_token e ∙ ap (λ k. behind_tokens k text) more

-- the rest behind the first token
pub first_behind : (text from w rest : List ℕ) (ts : List (List ℕ)) → lex false text ≡ w ∷ ts → rest ≡ drop (length w) from → from ≡ from_token false text → rest ≡ behind_token text
first_behind text from w rest ts is e h = e ∙ ap (λ z. drop (length w) z) h ∙ ap (λ z. drop (length (first_of z)) (from_token false text)) (sym is)

pub none_behind : (text rest : List ℕ) → lex false text ≡ [] → rest ≡ from_token false text → rest ≡ behind_token text
none_behind text rest is e = e ∙ ap (λ z. drop (length (first_of z)) (from_token false text)) (sym is)
