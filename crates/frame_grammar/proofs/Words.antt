-- What is read as numbers and data words is what the rules derive.
use Rattle.std.proofs.Common.{◌≡◌, ℕ, zero, suc, ◌*◌, ◌/◌, ◌%◌, ◌<◌, ◌≤◌, Bool, true, false, cond, List, [], ◌∷◌, ◌++◌, length, take, Option, Some, None, Ok, Err, refl, sym, ap, ◌∙◌, subst, append_assoc, arith}
use Rattle.std.specs.Prelude.{codes, nat_eq, nat_le, ◌&&◌}
use Rattle.std.proofs.lemmas.Bool.{le-leb, eqb-true}
use Rattle.std.proofs.lemmas.List.{take_all}
use Rattle.numerals.specs.Numerals as numerals
use Rattle.frame_text.specs.Reading.{Tokens, Failure, ◌>>=◌, same_bytes, past}
use Rattle.numerals.specs.Numerals.{number_of, data_word_of}
use Rattle.frame_text.specs.Words.{number_at, number_within, period_at, words_at, counted, bracketed_at, optional_at, spelled}
use Rattle.frame_text.specs.declared.faults.Cause.TheVariants as cause
use Rattle.frame_text.proofs.Soundness.{bind_ok, ok_is, both_true}
use Rattle.frame_text.proofs.PrintedForms.{MayFollow}
use Rattle.frame_grammar.specs.Words.{SpellsNumber, SpellsWithin, SpellDataWords, SpellWords, MaySpellWords}
use Rattle.frame_grammar.proofs.Pieces.{same_is, past_ok, begun}

pub guarded : {X : Type 0} (b : Bool) (x y : X) (c : Failure) → cond b (Ok x) (Err c) ≡ Ok y → (b ≡ true) × (x ≡ y)
guarded true x y c e = (refl, ok_is x y e)
guarded false x y c e = absurd (cc)

-- a word in front of the rest, which spells a number
abbrev pub NumberStands : (List ℕ → ℕ → Type 0) → Tokens → ℕ × Tokens → Type 0
NumberStands Spells ts x = (w : List ℕ) × (ts ≡ w ∷ x.1) × Spells w x.0

pub number_stands : (ts : Tokens) (x : ℕ × Tokens) → number_at ts ≡ Ok x → NumberStands SpellsNumber ts x
unfolding number_at
number_stands [] x e = absurd (cc)
number_stands (w ∷ ts) x e = by (number_of w) refl e
  where
    by : (o : Option ℕ) → number_of w ≡ o → (spelled w ts o >>= (λ n. Ok (n, ts))) ≡ Ok x → NumberStands SpellsNumber (w ∷ ts) x
    by (Some n) h i = subst (NumberStands SpellsNumber (w ∷ ts)) (ok_is (n, ts) x i) (w, refl, h)
    by None h i = absurd (cc)

pub within_stands : (low high : ℕ) (ts : Tokens) (x : ℕ × Tokens) → number_within low high ts ≡ Ok x → NumberStands (SpellsWithin low high) ts x
unfolding number_within
within_stands low high ts x e =
    let b = bind_ok (number_at ts) _ x e in
    let k = guarded (nat_le low b.0.0 && nat_le b.0.0 high) b.0 x (cause.Range, length ts) b.2 in
    let r = both_true low b.0.0 high k.0 in
    let n = number_stands ts b.0 b.1 in
    subst (NumberStands (SpellsWithin low high) ts) k.1 (n.0, n.1, record { number = n.2; not_under = r.0; not_over = r.1 })

hundred : (n : ℕ) → n % 100 ≡ 0 → n ≡ n / 100 * 100
hundred n e = omega (arith, e)

abbrev SpellsPeriod : List ℕ → ℕ → Type 0
SpellsPeriod word h = SpellsWithin 100 6553500 word (h * 100)

pub period_stands : (ts : Tokens) (x : ℕ × Tokens) → period_at ts ≡ Ok x → NumberStands SpellsPeriod ts x
unfolding period_at
period_stands ts x e =
    let b = bind_ok (number_within 100 6553500 ts) _ x e in
    let k = guarded (nat_eq (b.0.0 % 100) 0) (b.0.0 / 100, b.0.1) x (cause.Range, length ts) b.2 in
    let n = within_stands 100 6553500 ts b.0 b.1 in
    subst (NumberStands SpellsPeriod ts) k.1 (n.0, n.1, subst (SpellsWithin 100 6553500 n.0) (hundred b.0.0 (eqb-true (b.0.0 % 100) 0 k.0)) n.2)

pub number_read : (w : List ℕ) (n : ℕ) → SpellsNumber w n → (ts : Tokens) → number_at (w ∷ ts) ≡ Ok (n, ts)
unfolding number_at
number_read w n h ts = ap (λ o. spelled w ts o >>= (λ k. Ok (k, ts))) h

pub within_read : {low high : ℕ} {w : List ℕ} {n : ℕ} → SpellsWithin low high w n → (ts : Tokens) → number_within low high (w ∷ ts) ≡ Ok (n, ts)
unfolding number_within
within_read {low = low} {high = high} {w = w} {n = n} h ts = rw (number_read w n h.number ts, le-leb low n h.not_under, le-leb n high h.not_over) refl

hundred_times : (h : ℕ) → (h * 100) % 100 ≡ 0
hundred_times h = omega arith

hundredth : (h : ℕ) → (h * 100) / 100 ≡ h
hundredth h = omega arith

pub period_read : {w : List ℕ} {n : ℕ} → SpellsPeriod w n → (ts : Tokens) → period_at (w ∷ ts) ≡ Ok (n, ts)
unfolding period_at
period_read {n = n} h ts = rw (within_read h ts, hundred_times n, hundredth n) refl

-- data words and the closing bracket, in front of the rest
abbrev DataWordsStand : Tokens → List ℕ × Tokens → Type 0
DataWordsStand ts x = (ws : Tokens) × (ts ≡ ws ++ codes "]" ∷ x.1) × SpellDataWords ws x.0

data_words_stand : (ts : Tokens) (x : List ℕ × Tokens) → words_at ts ≡ Ok x → DataWordsStand ts x
unfolding words_at
data_words_stand [] x e = absurd (cc)
data_words_stand (w ∷ ts) x e = by (same_bytes w (codes "]")) refl (λ y i. data_words_stand ts y i) e
  where
    one : (o : Option ℕ) → data_word_of w ≡ o → ((y : List ℕ × Tokens) → words_at ts ≡ Ok y → DataWordsStand ts y) → (spelled w ts o >>= (λ n. words_at ts >>= (λ ns. Ok (n ∷ ns.0, ns.1)))) ≡ Ok x → DataWordsStand (w ∷ ts) x
    one (Some n) h below i =
        let r = bind_ok (words_at ts) _ x i in
        let p = below r.0 r.1 in
        subst (DataWordsStand (w ∷ ts)) (ok_is (n ∷ r.0.0, r.0.1) x r.2) (w ∷ p.0, ap (λ z. w ∷ z) p.1, SpellDataWords.more h p.2)
    one None h below i = absurd (cc)

    by : (b : Bool) → same_bytes w (codes "]") ≡ b → ((y : List ℕ × Tokens) → words_at ts ≡ Ok y → DataWordsStand ts y) → cond b (Ok ([], ts)) (spelled w ts (data_word_of w) >>= (λ n. words_at ts >>= (λ ns. Ok (n ∷ ns.0, ns.1)))) ≡ Ok x → DataWordsStand (w ∷ ts) x
    by true h below i = subst (DataWordsStand (w ∷ ts)) (ok_is ([], ts) x i) ([], ap (λ z. z ∷ ts) (same_is w (codes "]") h), SpellDataWords.none)
    by false h below i = one (data_word_of w) refl below i

-- what is cut to fewer is not cut
uncut : (n : ℕ) (xs : List ℕ) → length (take n xs) < n → take n xs ≡ xs
uncut zero xs h = absurd (omega (arith, h))
uncut (suc n) [] h = refl
uncut (suc n) (x ∷ xs) h = ap (λ z. x ∷ z) (uncut n xs (omega (arith, h)))

-- words in front of the rest
abbrev pub WordsStand : Tokens → List ℕ × Tokens → Type 0
WordsStand ts x = (ws : Tokens) × (ts ≡ ws ++ x.1) × SpellWords ws x.0

counted_stand : (w : List ℕ) (ts : Tokens) (x : List ℕ × Tokens) → w ≡ codes "[" → counted (words_at ts) ≡ Ok x → length x.0 ≤ 32 → WordsStand (w ∷ ts) x
counted_stand w ts x h e few =
    let r = bind_ok (words_at ts) _ x e in
    let p = data_words_stand ts r.0 r.1 in
    let same_bytes : (take 33 r.0.0, r.0.1) ≡ x = ok_is _ x r.2 in
    let cut : take 33 r.0.0 ≡ x.0 = ap (λ z. z.0) same_bytes in
    let short : length (take 33 r.0.0) ≤ 32 = subst (λ z. length z ≤ 32) (sym cut) few in
    let whole : r.0.0 ≡ x.0 = sym (uncut 33 r.0.0 (omega (arith, short))) ∙ cut in
    let rest : r.0.1 ≡ x.1 = ap (λ z. z.1) same_bytes in (
      codes "[" ∷ p.0 ++ codes "]" ∷ [],
      begun h (p.1 ∙ ap (λ z. p.0 ++ codes "]" ∷ z) rest ∙ sym (append_assoc p.0 (codes "]" ∷ []) x.1)),
      SpellWords.bracketed (subst (SpellDataWords p.0) whole p.2),
    )

pub words_stand : (ts : Tokens) (x : List ℕ × Tokens) → bracketed_at ts ≡ Ok x → length x.0 ≤ 32 → WordsStand ts x
unfolding bracketed_at
words_stand ts x e few =
    let o = bind_ok (past (codes "[") ts) _ x e in
    subst (λ z. WordsStand z x) (sym (past_ok (codes "[") ts o.0 o.1)) (counted_stand (codes "[") o.0 x refl o.2 few)

-- at most 32 data words
abbrev pub AreFew : Option (List ℕ) → Type 0
AreFew None = Unit {0}
AreFew (Some ns) = length ns ≤ 32

abbrev pub WordsMayStand : Tokens → Option (List ℕ) × Tokens → Type 0
WordsMayStand ts x = (ws : Tokens) × (ts ≡ ws ++ x.1) × MaySpellWords ws x.0

pub words_may_stand : (ts : Tokens) (x : Option (List ℕ) × Tokens) → optional_at ts ≡ Ok x → AreFew x.0 → WordsMayStand ts x
unfolding optional_at
words_may_stand [] x e few = subst (WordsMayStand []) (ok_is (None, []) x e) ([], refl, MaySpellWords.none)
words_may_stand (w ∷ ts) x e few = by (same_bytes w (codes "[")) refl e
  where
    by : (b : Bool) → same_bytes w (codes "[") ≡ b → cond b (counted (words_at ts) >>= (λ ns. Ok (Some ns.0, ns.1))) (Ok (None, w ∷ ts)) ≡ Ok x → WordsMayStand (w ∷ ts) x
    by true h i =
        let r = bind_ok (counted (words_at ts)) _ x i in
        let same_bytes : (Some r.0.0, r.0.1) ≡ x = ok_is _ x r.2 in
        let short : length r.0.0 ≤ 32 = subst (λ (z : Option (List ℕ) × Tokens). AreFew z.0) (sym same_bytes) few in
        let p = counted_stand w ts r.0 (same_is w (codes "[") h) r.1 short in
        subst (WordsMayStand (w ∷ ts)) same_bytes (p.0, p.1, MaySpellWords.some p.2)
    by false h i = subst (WordsMayStand (w ∷ ts)) (ok_is (None, w ∷ ts) x i) ([], refl, MaySpellWords.none)

-- a data word is no bracket
no_bracket : (w : List ℕ) (n : ℕ) → data_word_of w ≡ Some n → same_bytes w (codes "]") ≡ false
unfolding numerals.spelled
no_bracket w n e = by (same_bytes w (codes "]")) refl
  where
    by : (b : Bool) → same_bytes w (codes "]") ≡ b → b ≡ false
    by true h = let i : data_word_of (codes "]") ≡ Some n = subst (λ z. data_word_of z ≡ Some n) (same_is w (codes "]") h) e in absurd (cc)
    by false h = refl

data_words_read : {ws : Tokens} {ns : List ℕ} → SpellDataWords ws ns → (rest : Tokens) → words_at (ws ++ codes "]" ∷ rest) ≡ Ok (ns, rest)
unfolding words_at
data_words_read (SpellDataWords.none) rest = refl
data_words_read (SpellDataWords.more {word = word} {n = n} h p) rest = rw (no_bracket word n h, h, data_words_read p rest) refl

pub words_read : {ws : Tokens} {ns : List ℕ} → SpellWords ws ns → length ns ≤ 32 → (rest : Tokens) → bracketed_at (ws ++ rest) ≡ Ok (ns, rest)
unfolding bracketed_at past
words_read (SpellWords.bracketed {words = words} {ns = ns} p) few rest =
    ap (λ z. counted (words_at z)) (append_assoc words (codes "]" ∷ []) rest)
    ∙ ap counted (data_words_read p rest) ∙ ap (λ xs. Ok (xs, rest)) (take_all 33 ns (omega (arith, few)))

pub words_may_read : {ws : Tokens} {o : Option (List ℕ)} → MaySpellWords ws o → AreFew o → (rest : Tokens) → MayFollow rest → optional_at (ws ++ rest) ≡ Ok (o, rest)
unfolding optional_at
words_may_read (MaySpellWords.none) few [] f = refl
words_may_read (MaySpellWords.none) few (w ∷ ts) f = rw f.0 refl
words_may_read (MaySpellWords.some p) few rest f = opened p few rest
  where
    opened : {ws : Tokens} {ns : List ℕ} → SpellWords ws ns → length ns ≤ 32 → (rest : Tokens) → optional_at (ws ++ rest) ≡ Ok (Some ns, rest)
    opened (SpellWords.bracketed {words = words} {ns = ns} p) few rest =
        ap (λ z. counted (words_at z) >>= (λ ns. Ok (Some ns.0, ns.1))) (append_assoc words (codes "]" ∷ []) rest)
        ∙ ap (λ z. counted z >>= (λ ns. Ok (Some ns.0, ns.1))) (data_words_read p rest) ∙ ap (λ xs. Ok (Some xs, rest)) (take_all 33 ns (omega (arith, few)))
