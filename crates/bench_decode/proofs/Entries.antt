-- What is told of replies, one entry behind the other.
use Rattle.std.proofs.Common.{◌≡◌, ℕ, Bool, true, false, List, [], ◌∷◌, ◌++◌, refl, ap, sym, ◌∙◌, append_assoc}
use Rattle.std.specs.Prelude.{◌||◌}
use Rattle.bench_decode.specs.declared.line.Shown.{Shown}
use Rattle.bench_decode.specs.Columns.{Part, drawn}
use Rattle.bench_decode.specs.Waiting.{Waiting, drawn_on, no_lines}
use Rattle.bench_decode.specs.ReplyText.{is_any, listed, or_none, parting}
use Rattle.bench_decode.proofs.Drawing.{on-append}

pub or-true : (b : Bool) → (b || true) ≡ true
or-true true = refl
or-true false = refl

pub or-false : (b : Bool) → (b || false) ≡ b
or-false true = refl
or-false false = refl

listed-append : (before : Bool) (xs ys : List (List Part)) → listed before (xs ++ ys) ≡ listed before xs ++ listed (before || is_any xs) ys
unfolding listed
listed-append before [] ys = ap (λ (b : Bool). listed b ys) (sym (or-false before))
listed-append before (x ∷ xs) ys =
    ap (λ (l : List Part). parting before ++ (x ++ l)) (listed-append true xs ys)
    ∙ ap (λ (b : Bool). parting before ++ (x ++ (listed true xs ++ listed b ys))) (sym (or-true before))
    ∙ ap (λ (l : List Part). parting before ++ l) (sym (append_assoc x (listed true xs) (listed (before || true) ys)))
    ∙ sym (append_assoc (parting before) (x ++ listed true xs) (listed (before || true) ys))

any-append : (xs ys : List (List Part)) → is_any (xs ++ ys) ≡ (is_any xs || is_any ys)
any-append [] ys = refl
any-append (x ∷ xs) ys = refl

or-chain : (p q r s : Bool) → (p || (q || (r || s))) ≡ ((((false || p) || q) || r) || s)
or-chain true q r s = refl
or-chain false true r s = refl
or-chain false false true s = refl
or-chain false false false s = refl

-- four entries, or '-' where there is none
pub entries-put : (w s1 s2 s3 s4 s5 : Waiting) (a b c d : List (List Part)) (r1 r2 r3 r4 : Bool) → s1 ≡ drawn_on w (listed false a) → r1 ≡ (false || is_any a) → s2 ≡ drawn_on s1 (listed r1 b) → r2 ≡ (r1 || is_any b) → s3 ≡ drawn_on s2 (listed r2 c) → r3 ≡ (r2 || is_any c) → s4 ≡ drawn_on s3 (listed r3 d)
    → r4 ≡ (r3 || is_any d) → s5 ≡ drawn_on s4 (or_none r4) → s5 ≡ drawn_on w (listed false (a ++ (b ++ (c ++ d))) ++ or_none (is_any (a ++ (b ++ (c ++ d)))))
entries-put w s1 s2 s3 s4 s5 a b c d r1 r2 r3 r4 e1 f1 e2 f2 e3 f3 e4 f4 e5 =
    let any : is_any (a ++ (b ++ (c ++ d))) ≡ ((((false || is_any a) || is_any b) || is_any c) || is_any d) =
    any-append a (b ++ (c ++ d)) ∙ ap (λ (t : Bool). is_any a || t) (any-append b (c ++ d) ∙ ap (λ (t : Bool). is_any b || t) (any-append c d)) ∙ or-chain (is_any a) (is_any b) (is_any c) (is_any d) in
    let all : listed false (a ++ (b ++ (c ++ d))) ≡ listed false a ++ (listed (false || is_any a) b ++ (listed ((false || is_any a) || is_any b) c ++ listed (((false || is_any a) || is_any b) || is_any c) d)) =
    listed-append false a (b ++ (c ++ d)) ∙ ap (λ (l : List Part). listed false a ++ l) (listed-append (false || is_any a) b (c ++ d) ∙ ap (λ (l : List Part). listed (false || is_any a) b ++ l) (listed-append ((false || is_any a) || is_any b) c d)) in
    rw (e5, f4, e4, f3, e3, f2, e2, f1, e1, any, all) (simp on-append)

-- all the text, where nothing stood before
pub whole-text : (shown : Shown) (after : Waiting) (ps : List Part) → after ≡ drawn_on (no_lines shown) ps → after.text ≡ drawn shown 0 ps
unfolding drawn_on
whole-text shown after ps is = ap (λ (w : Waiting). w.text) is

pub whole-shown : (shown : Shown) (after : Waiting) (ps : List Part) → after ≡ drawn_on (no_lines shown) ps → after.shown ≡ shown
unfolding drawn_on
whole-shown shown after ps is = ap (λ (w : Waiting). w.shown) is
