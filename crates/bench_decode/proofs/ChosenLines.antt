-- The lines of chosen messages, one behind the other.
use Rattle.std.proofs.Common.{◌≡◌, ℕ, suc, ◌+◌, ◌≤◌, Bool, true, false, cond, List, [], ◌∷◌, ◌++◌, length, reverse, filter, refl, ap, sym, ◌∙◌, arith, append_assoc, append-nil, length-append}
use Rattle.std.proofs.lemmas.List.{reverse-append, length-reverse}
use Rattle.bench_select.specs.Viewed.{Viewed}
use Rattle.bench_select.specs.declared.selection.Selection.{Selection}
use Rattle.bench_decode.specs.declared.printing.Output.{Output}
use Rattle.bench_decode.specs.ByTime.{Told, chosen, is_chosen, told}
use Rattle.bench_decode.specs.RecordingText.{chosen_next, line_of, lines_behind, lines_next, names_behind, place_of, told_next}

-- one more message, which is chosen or not
pub one_chosen : (s : Selection) (earlier : List Viewed) (h : Viewed) → chosen s (h ∷ earlier) ≡ chosen s earlier ++ chosen_next s earlier (h ∷ [])
one_chosen s earlier h = by (is_chosen s (told_next earlier h))
  where
    before : List Told
    before = filter (is_chosen s) (told earlier)

    by : (b : Bool) → reverse (cond b (told_next earlier h ∷ before) before) ≡ reverse before ++ cond b (told_next earlier h ∷ []) []
    by true = reverse-append (told_next earlier h ∷ []) before
    by false = sym (append-nil (reverse before))

-- those of more messages are told one behind the other
pub next_then : (s : Selection) (earlier later : List Viewed) (h : Viewed) → chosen_next s earlier (h ∷ later) ≡ chosen_next s earlier (h ∷ []) ++ chosen_next s (h ∷ earlier) later
next_then s earlier later h = by (is_chosen s (told_next earlier h))
  where
    others : List Told
    others = chosen_next s (h ∷ earlier) later

    by : (b : Bool) → cond b (told_next earlier h ∷ others) others ≡ cond b (told_next earlier h ∷ []) [] ++ others
    by true = refl
    by false = refl

-- the newest of later messages comes last
pub turned : (earlier later : List Viewed) (h : Viewed) → reverse (h ∷ later) ++ earlier ≡ reverse later ++ (h ∷ earlier)
turned earlier later h = ap (λ (hs : List Viewed). hs ++ earlier) (reverse-append (h ∷ []) later) ∙ append_assoc (reverse later) (h ∷ []) earlier

pub more_chosen : (s : Selection) (earlier later : List Viewed) → chosen s (reverse later ++ earlier) ≡ chosen s earlier ++ chosen_next s earlier later
more_chosen s earlier [] = sym (append-nil (chosen s earlier))
more_chosen s earlier (h ∷ later) =
    ap (chosen s) (turned earlier later h)
    ∙ more_chosen s (h ∷ earlier) later
    ∙ ap (λ (ts : List Told). ts ++ chosen_next s (h ∷ earlier) later) (one_chosen s earlier h)
    ∙ append_assoc (chosen s earlier) (chosen_next s earlier (h ∷ [])) (chosen_next s (h ∷ earlier) later)
    ∙ ap (λ (ts : List Told). chosen s earlier ++ ts) (sym (next_then s earlier later h))

-- no more are chosen than there are
few_told : (s : Selection) (history : List Viewed) → length (filter (is_chosen s) (told history)) ≤ length history
few_told s [] = omega arith
few_told s (h ∷ earlier) = one_more (is_chosen s (told_next earlier h)) (told_next earlier h) (filter (is_chosen s) (told earlier)) (length earlier) (few_told s earlier)
  where
    one_more : (b : Bool) (t : Told) (before : List Told) (most : ℕ) → length before ≤ most → length (cond b (t ∷ before) before) ≤ suc most
    one_more true t before most few = omega (arith, few)
    one_more false t before most few = omega (arith, few)

pub few_chosen : (s : Selection) (history : List Viewed) → length (chosen s history) ≤ length history
few_chosen s history = omega (arith, length-reverse (filter (is_chosen s) (told history)), few_told s history)

pub lines_both : (o : Output) (count : ℕ) (ts us : List Told) → lines_behind o count (ts ++ us) ≡ lines_behind o count ts ++ lines_behind o (count + length ts) us
lines_both o count [] us = ap (λ (n : ℕ). lines_behind o n us) (let none : count ≡ count + 0 = omega arith in none)
lines_both o count (t ∷ ts) us =
    let line : List ℕ = line_of o (place_of t) t.message in
    let first : List ℕ = lines_behind o (count + 1) ts in
    let then : List ℕ = lines_behind o (count + 1 + length ts) us in
    let same : count + 1 + length ts ≡ count + length (t ∷ ts) = omega arith in
    ap (λ (l : List ℕ). names_behind o count ++ (line ++ l)) (lines_both o (count + 1) ts us)
    ∙ ap (λ (l : List ℕ). names_behind o count ++ l) (sym (append_assoc line first then))
    ∙ sym (append_assoc (names_behind o count) (line ++ first) then)
    ∙ ap (λ (n : ℕ). lines_behind o count (t ∷ ts) ++ lines_behind o n us) same

-- how many there are behind one more
pub count_then : (s : Selection) (earlier : List Viewed) (h : Viewed) → length (chosen s earlier) + length (chosen_next s earlier (h ∷ [])) ≡ length (chosen s (h ∷ earlier))
count_then s earlier h = sym (ap length (one_chosen s earlier h) ∙ length-append (chosen s earlier) (chosen_next s earlier (h ∷ [])))

pub lines_then : (o : Output) (earlier later : List Viewed) (h : Viewed) → lines_next o earlier (h ∷ later) ≡ lines_next o earlier (h ∷ []) ++ lines_next o (h ∷ earlier) later
lines_then o earlier later h =
    ap (lines_behind o (length (chosen o.selection earlier))) (next_then o.selection earlier later h)
    ∙ lines_both o (length (chosen o.selection earlier)) (chosen_next o.selection earlier (h ∷ [])) (chosen_next o.selection (h ∷ earlier) later)
    ∙ ap (λ (n : ℕ). lines_next o earlier (h ∷ []) ++ lines_behind o n (chosen_next o.selection (h ∷ earlier) later)) (count_then o.selection earlier h)

-- the lines of all so far, and then those of the next
pub text_then : (o : Output) (earlier later : List Viewed) → lines_behind o 0 (chosen o.selection (reverse later ++ earlier)) ≡ lines_behind o 0 (chosen o.selection earlier) ++ lines_next o earlier later
text_then o earlier later =
    ap (lines_behind o 0) (more_chosen o.selection earlier later) ∙ lines_both o 0 (chosen o.selection earlier) (chosen_next o.selection earlier later)
    ∙ ap (λ (n : ℕ). lines_behind o 0 (chosen o.selection earlier) ++ lines_behind o n (chosen_next o.selection earlier later)) (let same : 0 + length (chosen o.selection earlier) ≡ length (chosen o.selection earlier) = omega arith in same)

-- a message that is chosen, and one that is not
pub next_chosen : (s : Selection) (earlier : List Viewed) (h : Viewed) → is_chosen s (told_next earlier h) ≡ true → chosen_next s earlier (h ∷ []) ≡ told_next earlier h ∷ []
next_chosen s earlier h is = ap (λ (b : Bool). cond b (told_next earlier h ∷ []) []) is

pub next_left_out : (s : Selection) (earlier : List Viewed) (h : Viewed) → is_chosen s (told_next earlier h) ≡ false → chosen_next s earlier (h ∷ []) ≡ []
next_left_out s earlier h is = ap (λ (b : Bool). cond b (told_next earlier h ∷ []) []) is
