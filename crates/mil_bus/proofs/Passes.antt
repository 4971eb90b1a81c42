-- What one more word makes of the counts of a talk.
use Rattle.std.proofs.Common.{◌≡◌, ℕ, ◌+◌, ◌<◌, ◌≤◌, ◌==◌, nat_lt, cond, Bool, true, false, ◌||◌, List, [], ◌∷◌, ◌++◌, take, length, get_or, zero, suc, refl, sym, ap, ◌∙◌, arith, append_assoc, append-nil, length-append, Some}
use Rattle.std.specs.Prelude.{if◌then◌else◌, not, ◌&&◌}
use Rattle.std.specs.List.{list_any}
use Rattle.std.specs.Option.{is_none}
use Rattle.std.proofs.lemmas.List.Elements.{filter-append}
use Rattle.std.proofs.lemmas.List.Folds.{list_any-append}
use Rattle.std.proofs.lemmas.List.{take_more}
use Rattle.std.proofs.lemmas.Bool.Decides.{nat_tests}
use Rattle.mil_word.specs.Wave.{word_of}
use Rattle.mil_bus.specs.declared.talks.Sent.{Sent}
use Rattle.mil_bus.specs.Counts.{run_of, came_of, takes_command, differs, is_any_other_sync, is_broken, is_any_broken, counts_of}
use Rattle.mil_bus.specs.Pass.{noted, one_more, words_in, place_in, breaks}

words_in-came_of : (ws : List Sent) → words_in (came_of ws) ≡ length ws
words_in-came_of [] = refl
words_in-came_of (w ∷ ws) = omega arith

came_of-push : (b : Bool) (ws : List Sent) (w : Sent) → came_of (ws ++ (if b then w ∷ [] else [])) ≡ (if b then one_more (came_of ws) w.gap (word_of w.wave) else came_of ws)
came_of-push true [] w = refl
came_of-push false [] w = refl
came_of-push true (v ∷ ws) w = ap (λ n. Some (record { gap = v.gap; first = word_of v.wave; count = n + 1 })) (length-append ws (w ∷ []))
came_of-push false (v ∷ ws) w = ap (λ n. Some (record { gap = v.gap; first = word_of v.wave; count = n + 1 })) (length-append ws [] ∙ omega arith)

length-push_if : (b : Bool) (ws : List Sent) (w : Sent) → length (ws ++ (if b then w ∷ [] else [])) ≡ (if b then length ws + 1 else length ws)
length-push_if true ws w = length-append ws (w ∷ [])
length-push_if false ws w = length-append ws [] ∙ omega arith

pub or_false : (a : Bool) → (a || false) ≡ a
or_false true = refl
or_false false = refl

or_assoc : (a b c : Bool) → (a || (b || c)) ≡ ((a || b) || c)
or_assoc true b c = refl
or_assoc false b c = refl

list_any-push : {X : Type 0} (p : X → Bool) (xs : List X) (x : X) → list_any p (xs ++ x ∷ []) ≡ (list_any p xs || p x)
list_any-push p xs x = list_any-append p xs (x ∷ []) ∙ ap (λ b. list_any p xs || b) (or_false (p x))

length-filter_push : (run : ℕ) (xs : List Sent) (w : Sent) → run_of run (xs ++ w ∷ []) ≡ run_of run xs ++ (if w.run == run then w ∷ [] else [])
length-filter_push run xs w = filter-append (λ v. v.run == run) xs (w ∷ [])

other_sync-push : (commands due : ℕ) (before xs : List Sent) (w : Sent)
    → is_any_other_sync commands due before (xs ++ w ∷ []) ≡ (is_any_other_sync commands due before xs || differs (takes_command commands due w.run (length (run_of w.run (before ++ xs)))) (word_of w.wave))
other_sync-push commands due before [] w = rw append-nil (or_false (differs (takes_command commands due w.run (length (run_of w.run before))) (word_of w.wave)))
other_sync-push commands due before (x ∷ xs) w =
    let here = differs (takes_command commands due x.run (length (run_of x.run before))) (word_of x.wave) in
    let last = differs (takes_command commands due w.run (length (run_of w.run (before ++ x ∷ xs)))) (word_of w.wave) in
    let rest : is_any_other_sync commands due (before ++ x ∷ []) (xs ++ w ∷ []) ≡ (is_any_other_sync commands due (before ++ x ∷ []) xs || last) =
    other_sync-push commands due (before ++ x ∷ []) xs w ∙ ap (λ ys. is_any_other_sync commands due (before ++ x ∷ []) xs || differs (takes_command commands due w.run (length (run_of w.run ys))) (word_of w.wave)) (append_assoc before (x ∷ []) xs) in
    ap (λ b. here || b) rest ∙ or_assoc here (is_any_other_sync commands due (before ++ x ∷ []) xs) last

third : (k n : ℕ) → n ≤ 2 → nat_lt (suc (suc k)) n ≡ false
third k n h = grind (arith, nat_tests)

-- beyond the second reply no place takes command sync, so that its number does not matter
takes_command-place : (commands due : ℕ) → due ≤ 2 → (xs : List Sent) (run : ℕ) → takes_command commands due run (length (run_of run xs)) ≡ takes_command commands due run (place_in (counts_of commands due xs) run)
unfolding counts_of
takes_command-place commands due few xs zero = refl
takes_command-place commands due few xs (suc zero) = ap (λ n. takes_command commands due 1 n) (sym (words_in-came_of (run_of 1 xs)))
takes_command-place commands due few xs (suc (suc zero)) = ap (λ n. takes_command commands due 2 n) (sym (words_in-came_of (run_of 2 xs)))
takes_command-place commands due few xs (suc (suc (suc k))) = let e : nat_lt (suc (suc k)) (due) ≡ false = third k due few in rw e refl

-- ---- words behind a pause

pub and_false : (b : Bool) → (b && false) ≡ false
and_false true = refl
and_false false = refl

and_true : (b : Bool) → (b && true) ≡ b
and_true true = refl
and_true false = refl

or_swap : (a b : Bool) → (a || b) ≡ (b || a)
or_swap true true = refl
or_swap true false = refl
or_swap false true = refl
or_swap false false = refl

some_less : (n : ℕ) → nat_lt 0 (suc n) ≡ true
some_less n = grind (arith, nat_tests)

broken-push : (ws : List Sent) (w : Sent) → is_broken (ws ++ w ∷ []) ≡ (is_broken ws || (not (w.gap == 20) && nat_lt 0 (length ws)))
broken-push [] w = sym (and_false (not (w.gap == 20)))
broken-push (v ∷ ws) w =
    list_any-push (λ (x : Sent). not (x.gap == 20)) ws w ∙ ap (λ b. list_any (λ (x : Sent). not (x.gap == 20)) ws || b) (sym (ap (λ t. not (w.gap == 20) && t) (some_less (length ws)) ∙ and_true (not (w.gap == 20))))

broken-push_if : (b : Bool) (ws : List Sent) (w : Sent)
    → is_broken (ws ++ (if b then w ∷ [] else [])) ≡ (is_broken ws || (b && (not (w.gap == 20) && nat_lt 0 (length ws))))
broken-push_if true ws w = broken-push ws w
broken-push_if false ws w = ap is_broken (append-nil ws) ∙ sym (or_false (is_broken ws))

-- the tests of the three runs, where the word is of the controller's, of the first reply, of the second, of another
of_zero : (a x d b e c : Bool) → ((a || x) || ((d && (b || false)) || (e && (c || false)))) ≡ ((a || ((d && b) || (e && c))) || x)
of_zero true x d b e c = refl
of_zero false x d b e c =
    ap (λ y. x || ((d && y) || (e && (c || false)))) (or_false b) ∙ ap (λ y. x || ((d && b) || (e && y))) (or_false c) ∙ or_swap x ((d && b) || (e && c))

of_one : (a d b g p r : Bool) → (a || ((d && (b || (g && p))) || r)) ≡ ((a || ((d && b) || r)) || (g && (d && p)))
of_one true d b g p r = refl
of_one false false b g p r = sym (ap (λ y. r || y) (and_false g) ∙ or_false r)
of_one false true true g p r = refl
of_one false true false g p r = or_swap (g && p) r

of_two : (a m d b g p : Bool) → (a || (m || (d && (b || (g && p))))) ≡ ((a || (m || (d && b))) || (g && (d && p)))
of_two true m d b g p = refl
of_two false true d b g p = refl
of_two false false false b g p = sym (and_false g)
of_two false false true true g p = refl
of_two false false true false g p = refl

of_none : (a d b e c g : Bool) → ((a || false) || ((d && (b || false)) || (e && (c || false)))) ≡ ((a || ((d && b) || (e && c))) || (g && false))
of_none a d b e c g =
    ap (λ y. y || ((d && (b || false)) || (e && (c || false)))) (or_false a)
    ∙ ap (λ y. a || ((d && y) || (e && (c || false)))) (or_false b) ∙ ap (λ y. a || ((d && b) || (e && y))) (or_false c)
    ∙ sym (ap (λ y. (a || ((d && b) || (e && c))) || y) (and_false g) ∙ or_false (a || ((d && b) || (e && c))))

of_another : (a d b e c g p k0 k1 k2 past x0 x1 x2 : Bool) → k0 ≡ false → k1 ≡ false → k2 ≡ false → past ≡ true
    → ((a || (k0 && x0)) || ((d && (b || (k1 && x1))) || (e && (c || (k2 && x2))))) ≡ ((a || ((d && b) || (e && c))) || (g && (not past && p)))
of_another a d b e c g p k0 k1 k2 past x0 x1 x2 e0 e1 e2 ep = rw (e0, e1, e2, ep) (of_none a d b e c g)

none_less : (due : ℕ) → nat_lt due 0 ≡ false
none_less due = grind (arith, nat_tests)

one_due : (due : ℕ) → not (nat_lt due 1) ≡ nat_lt 0 due
one_due due = grind (arith, nat_tests)

two_due : (due : ℕ) → not (nat_lt due 2) ≡ nat_lt 1 due
two_due due = grind (arith, nat_tests)

past_due : (k due : ℕ) → due ≤ 2 → nat_lt due (suc (suc (suc k))) ≡ true
past_due k due few = grind (arith, nat_tests)

pub not_zero : (k : ℕ) → (suc (suc (suc k)) == 0) ≡ false
not_zero k = grind (arith, nat_tests)

pub not_one : (k : ℕ) → (suc (suc (suc k)) == 1) ≡ false
not_one k = grind (arith, nat_tests)

pub not_two : (k : ℕ) → (suc (suc (suc k)) == 2) ≡ false
not_two k = grind (arith, nat_tests)

breaks-by_run : (due : ℕ) → due ≤ 2 → (run : ℕ) (g a b c : Bool) (n0 n1 n2 : ℕ)
    → ((a || ((run == 0) && (g && nat_lt 0 n0))) || ((nat_lt 0 due && (b || ((run == 1) && (g && nat_lt 0 n1)))) || (nat_lt 1 due && (c || ((run == 2) && (g && nat_lt 0 n2))))))
    ≡ ((a || ((nat_lt 0 due && b) || (nat_lt 1 due && c))) || (g && (not (nat_lt due run) && nat_lt 0 (if run == 0 then n0 else (if run == 1 then n1 else n2)))))
breaks-by_run due few zero g a b c n0 n1 n2 =
    of_zero a (g && nat_lt 0 n0) (nat_lt 0 due) b (nat_lt 1 due) c
    ∙ ap (λ y. (a || ((nat_lt 0 due && b) || (nat_lt 1 due && c))) || (g && (not y && nat_lt 0 n0))) (sym (none_less due))
breaks-by_run due few (suc zero) g a b c n0 n1 n2 =
    ap (λ y. y || ((nat_lt 0 due && (b || (g && nat_lt 0 n1))) || (nat_lt 1 due && (c || false)))) (or_false a)
    ∙ ap (λ y. a || ((nat_lt 0 due && (b || (g && nat_lt 0 n1))) || (nat_lt 1 due && y))) (or_false c)
    ∙ of_one a (nat_lt 0 due) b g (nat_lt 0 n1) (nat_lt 1 due && c)
    ∙ ap (λ y. (a || ((nat_lt 0 due && b) || (nat_lt 1 due && c))) || (g && (y && nat_lt 0 n1))) (sym (one_due due))
breaks-by_run due few (suc (suc zero)) g a b c n0 n1 n2 =
    ap (λ y. y || ((nat_lt 0 due && (b || false)) || (nat_lt 1 due && (c || (g && nat_lt 0 n2))))) (or_false a)
    ∙ ap (λ y. a || ((nat_lt 0 due && y) || (nat_lt 1 due && (c || (g && nat_lt 0 n2))))) (or_false b)
    ∙ of_two a (nat_lt 0 due && b) (nat_lt 1 due) c g (nat_lt 0 n2)
    ∙ ap (λ y. (a || ((nat_lt 0 due && b) || (nat_lt 1 due && c))) || (g && (y && nat_lt 0 n2))) (sym (two_due due))
breaks-by_run due few (suc (suc (suc k))) g a b c n0 n1 n2 =
    let run = suc (suc (suc k)) in
    of_another a (nat_lt 0 due) b (nat_lt 1 due) c g (nat_lt 0 (if run == 0 then n0 else (if run == 1 then n1 else n2))) (run == 0) (run == 1) (run == 2) (nat_lt due run)
    (g && nat_lt 0 n0) (g && nat_lt 0 n1) (g && nat_lt 0 n2) (not_zero k) (not_one k) (not_two k) (past_due k due few)

broken-more : (commands due : ℕ) → due ≤ 2 → (xs : List Sent) (w : Sent) → is_any_broken due (xs ++ w ∷ []) ≡ (is_any_broken due xs || breaks due (counts_of commands due xs) w)
unfolding counts_of
broken-more commands due few xs w =
    let g = not (w.gap == 20) in
    let zero_th = ap is_broken (length-filter_push 0 xs w) ∙ broken-push_if (w.run == 0) (run_of 0 xs) w in
    let first = ap is_broken (length-filter_push 1 xs w) ∙ broken-push_if (w.run == 1) (run_of 1 xs) w in
    let second = ap is_broken (length-filter_push 2 xs w) ∙ broken-push_if (w.run == 2) (run_of 2 xs) w in
    let a = is_broken (run_of 0 xs) in
    let b = is_broken (run_of 1 xs) in
    let c = is_broken (run_of 2 xs) in
    ap (λ x. x || ((nat_lt 0 due && is_broken (run_of 1 (xs ++ w ∷ []))) || (nat_lt 1 due && is_broken (run_of 2 (xs ++ w ∷ []))))) zero_th
    ∙ ap (λ x. (a || ((w.run == 0) && (g && nat_lt 0 (length (run_of 0 xs))))) || ((nat_lt 0 due && x) || (nat_lt 1 due && is_broken (run_of 2 (xs ++ w ∷ []))))) first
    ∙ ap (λ x. (a || ((w.run == 0) && (g && nat_lt 0 (length (run_of 0 xs))))) || ((nat_lt 0 due && (b || ((w.run == 1) && (g && nat_lt 0 (length (run_of 1 xs)))))) || (nat_lt 1 due && x))) second
    ∙ breaks-by_run due few w.run g a b c (length (run_of 0 xs)) (length (run_of 1 xs)) (length (run_of 2 xs))
    ∙ ap (λ n. is_any_broken due xs || (g && (not (nat_lt due w.run) && nat_lt 0 (if w.run == 0 then length (run_of 0 xs) else (if w.run == 1 then n else length (run_of 2 xs)))))) (sym (words_in-came_of (run_of 1 xs)))
    ∙ ap (λ n. is_any_broken due xs || (g && (not (nat_lt due w.run) && nat_lt 0 (if w.run == 0 then length (run_of 0 xs) else (if w.run == 1 then words_in (came_of (run_of 1 xs)) else n))))) (sym (words_in-came_of (run_of 2 xs)))

pub counts_of-push : (commands due : ℕ) → due ≤ 2 → (xs : List Sent) (w : Sent) → counts_of commands due (xs ++ w ∷ []) ≡ noted commands due (counts_of commands due xs) w
unfolding counts_of
counts_of-push commands due few xs w =
    let zero_th = ap length (length-filter_push 0 xs w) ∙ length-push_if (w.run == 0) (run_of 0 xs) w in
    let first = ap came_of (length-filter_push 1 xs w) ∙ came_of-push (w.run == 1) (run_of 1 xs) w in
    let second = ap came_of (length-filter_push 2 xs w) ∙ came_of-push (w.run == 2) (run_of 2 xs) w in
    let far = list_any-push (λ (v : Sent). nat_lt (due) v.run) xs w in
    let unsound = list_any-push (λ (v : Sent). is_none (word_of v.wave)) xs w in
    let sync = other_sync-push commands due [] xs w ∙ ap (λ b. is_any_other_sync commands due [] xs || differs b (word_of w.wave)) (takes_command-place commands due few xs w.run) in
    let broken = broken-more commands due few xs w in
    cc

pub counts_of-more : (commands due : ℕ) → due ≤ 2 → (xs : List Sent) (i : ℕ) (d : Sent) → i < length xs → counts_of commands due (take (i + 1) xs) ≡ noted commands due (counts_of commands due (take i xs)) (get_or xs i d)
counts_of-more commands due few xs i d lt = ap (counts_of commands due) (take_more xs i d lt) ∙ counts_of-push commands due few (take i xs) (get_or xs i d)

few_more : (b : Bool) (x : Sent) (ws xs : List Sent) → length ws ≤ length xs → length (cond b (x ∷ ws) ws) ≤ length (x ∷ xs)
few_more true x ws xs h = omega arith
few_more false x ws xs h = omega arith

length-run_of : (run : ℕ) (xs : List Sent) → length (run_of run xs) ≤ length xs
length-run_of run [] = omega arith
length-run_of run (x ∷ xs) = few_more (x.run == run) x (run_of run xs) xs (length-run_of run xs)

pub controllers-few : (commands due : ℕ) (xs : List Sent) → (counts_of commands due xs).controllers ≤ length xs
unfolding counts_of
controllers-few commands due xs = length-run_of 0 xs

pub one-few : (commands due : ℕ) (xs : List Sent) → words_in (counts_of commands due xs).one ≤ length xs
unfolding counts_of
one-few commands due xs = omega (arith, length-run_of 1 xs, words_in-came_of (run_of 1 xs))

pub two-few : (commands due : ℕ) (xs : List Sent) → words_in (counts_of commands due xs).two ≤ length xs
unfolding counts_of
two-few commands due xs = omega (arith, length-run_of 2 xs, words_in-came_of (run_of 2 xs))
