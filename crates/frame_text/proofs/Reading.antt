-- Reading data words one by one.
use Rattle.std.proofs.Common.{◌≡◌, ℕ, zero, suc, ◌++◌, true, false, cond, List, [], ◌∷◌, length, take, Some, None, Ok, Err, refl, sym, ap, ◌∙◌, subst, append_assoc}
use Rattle.std.proofs.lemmas.List.{append-nil}
use Rattle.std.specs.Prelude.{codes}
use Rattle.frame_text.specs.Reading.{Tokens, fails, TokenReading, ◌>>=◌, same_bytes, FailsReadingTokens, IsFault}
use Rattle.frame_text.specs.declared.faults.TextFault.{TextFault}
use Rattle.numerals.specs.Numerals.{data_word_of}
use Rattle.frame_text.specs.Words.{words_at, counted, spelled, unspelled}
use Rattle.frame_text.specs.declared.faults.Cause.{Cause}
use Rattle.frame_text.specs.declared.faults.Cause.TheVariants as cause

-- words in front of those that were read
abbrev pub put_words : List ℕ → TokenReading (List ℕ) → TokenReading (List ℕ)
put_words all r = r >>= (λ x. Ok (all ++ x.0, x.1))

pub put_none : (r : TokenReading (List ℕ)) → r ≡ put_words [] r
put_none (Ok x) = refl
put_none (Err e) = refl

put_more : (all : List ℕ) (n : ℕ) (r : TokenReading (List ℕ)) → put_words all (r >>= (λ ns. Ok (n ∷ ns.0, ns.1))) ≡ put_words (all ++ n ∷ []) r
put_more all n (Ok x) = ap (λ z. Ok (z, x.1)) (sym (append_assoc all (n ∷ []) x.0))
put_more all n (Err e) = refl

pub words_more : (all : List ℕ) (n : ℕ) (w : List ℕ) (text ts : Tokens) (whole : TokenReading (List ℕ)) → text ≡ w ∷ ts → same_bytes w (codes "]") ≡ false → Some n ≡ data_word_of w → whole ≡ put_words all (words_at text) → whole ≡ put_words (all ++ n ∷ []) (words_at ts)
unfolding words_at
words_more all n w text ts whole is ne v e =
    e ∙ ap (λ z. put_words all (words_at z)) is
    ∙ ap (λ b. put_words all (cond b (Ok ([], ts)) (spelled w ts (data_word_of w) >>= (λ n. words_at ts >>= (λ ns. Ok (n ∷ ns.0, ns.1)))))) ne
    ∙ ap (λ o. put_words all (spelled w ts o >>= (λ n. words_at ts >>= (λ ns. Ok (n ∷ ns.0, ns.1))))) (sym v)
    ∙ put_more all n (words_at ts)

pub words_close : (all : List ℕ) (w : List ℕ) (text ts : Tokens) (whole : TokenReading (List ℕ)) → text ≡ w ∷ ts → same_bytes w (codes "]") ≡ true → whole ≡ put_words all (words_at text) → whole ≡ Ok (all ++ [], ts)
unfolding words_at
words_close all w text ts whole is h e =
    e ∙ ap (λ z. put_words all (words_at z)) is
    ∙ ap (λ b. put_words all (cond b (Ok ([], ts)) (spelled w ts (data_word_of w) >>= (λ n. words_at ts >>= (λ ns. Ok (n ∷ ns.0, ns.1)))))) h

pub words_wrong : (all : List ℕ) (w : List ℕ) (text ts : Tokens) (whole : TokenReading (List ℕ)) → text ≡ w ∷ ts → same_bytes w (codes "]") ≡ false → None ≡ data_word_of w → whole ≡ put_words all (words_at text) → whole ≡ fails (unspelled w) text
unfolding words_at
words_wrong all w text ts whole is ne v e =
    e ∙ ap (λ z. put_words all (words_at z)) is
    ∙ ap (λ b. put_words all (cond b (Ok ([], ts)) (spelled w ts (data_word_of w) >>= (λ n. words_at ts >>= (λ ns. Ok (n ∷ ns.0, ns.1)))))) ne
    ∙ ap (λ o. put_words all (spelled w ts o >>= (λ n. words_at ts >>= (λ ns. Ok (n ∷ ns.0, ns.1))))) (sym v)
    ∙ ap (λ z. Err (unspelled w, length z)) (sym is)

pub words_end : (all : List ℕ) (text : Tokens) (whole : TokenReading (List ℕ)) → text ≡ [] → whole ≡ put_words all (words_at text) → whole ≡ fails cause.End text
unfolding words_at
words_end all text whole is e = e ∙ ap (λ z. put_words all (words_at z)) is ∙ ap (λ z. Err (cause.End, length z)) (sym is)

-- cutting once more at the same length changes nothing
pub take_again : (n : ℕ) (xs ys : List ℕ) → take n (take n xs ++ ys) ≡ take n (xs ++ ys)
take_again zero xs ys = refl
take_again (suc n) [] ys = refl
take_again (suc n) (x ∷ xs) ys = ap (λ z. x ∷ z) (take_again n xs ys)

pub close_counted : (all items : List ℕ) (whole : TokenReading (List ℕ)) (ts : Tokens) → items ≡ take 33 all → whole ≡ Ok (all ++ [], ts) → counted whole ≡ Ok (items, ts)
close_counted all items whole ts i e = ap counted e ∙ ap (λ xs. Ok (take 33 xs, ts)) (append-nil all) ∙ ap (λ xs. Ok (xs, ts)) (sym i)

pub wrong_counted : (f : TextFault) (c : Cause) (ts : Tokens) (whole : TokenReading (List ℕ)) → IsFault c ts f → whole ≡ fails c ts → FailsReadingTokens f (counted whole)
wrong_counted f c ts whole h e = subst (λ g. FailsReadingTokens g (counted whole)) (sym h) (ap counted e)
