-- Runs that are kept as a whole, by the values of their words.
use Rattle.std.proofs.Common.{◌≡◌, ℕ, zero, suc, ◌+◌, ◌-◌, ◌*◌, ◌<◌, ◌≤◌, ◌==◌, ◌^◌, Bool, true, false, cond, List, [], ◌∷◌, ◌++◌, map, take, drop, length, get_or, refl, sym, ap, ◌∙◌, arith, append_assoc, append-nil, length-append, length-drop}
use Rattle.std.proofs.lemmas.List.{take_all, take-append-drop, length-map, drop_more, drop-drop}
use Rattle.mil_word.specs.declared.Sync.TheVariants.{CommandSync, DataSync}
use Rattle.mil_word.specs.Wave.{raw_of}
use Rattle.mil_word.specs.Words.{command_wave, data_wave}
use Rattle.mil_word.proofs.WaveLemmas.{raw_of-wave}
use Rattle.mil_terminal.specs.Runs.{AreSmall}
use Rattle.mil_terminal.proofs.Runs.{first_small, rest_small}
use Rattle.mil_bus.specs.declared.talks.Source.{Source}
use Rattle.mil_bus.specs.declared.talks.Sent.{Sent}
use Rattle.mil_bus.specs.declared.wholes.Whole.{Whole}
use Rattle.mil_bus.specs.RunWords.{contiguous_run}
use Rattle.mil_bus.specs.DataRuns.{gap_at}
use Rattle.mil_bus.specs.Times.{lasting, end_from, is_last_or}
use Rattle.mil_bus.specs.Wholes.{run_waves, value_waves, whole_words, all_words, words_in, AreSome}

-- ---- how many words there are

pub words_of-length : (n : ℕ) (s : Source) (g : ℕ) (ws : List ℕ) → length (contiguous_run n s g ws) ≡ length ws
words_of-length n s g [] = refl
words_of-length n s g (w ∷ ws) = omega (arith, words_of-length n s 20 ws)

pub run_waves-length : (cs vs : List ℕ) → length (run_waves cs vs) ≡ length cs + length vs
run_waves-length cs vs = omega (arith, length-append (map command_wave cs) (map data_wave vs), length-map cs command_wave, length-map vs data_wave)

pub parts-length : (c : ℕ) (vs : List ℕ) → length (take c vs) + length (drop c vs) ≡ length vs
parts-length c vs = sym (length-append (take c vs) (drop c vs)) ∙ ap length (take-append-drop c vs)

pub value_waves-length : (c : ℕ) (vs : List ℕ) → length (value_waves c vs) ≡ length vs
value_waves-length c vs = run_waves-length (take c vs) (drop c vs) ∙ parts-length c vs

pub whole_words-length : (r : Whole) (vs : List ℕ) → length (whole_words r vs) ≡ length vs
whole_words-length r vs =
    words_of-length r.number r.source r.gap (run_waves (take r.commands vs) (drop r.commands vs)) ∙ run_waves-length (take r.commands vs) (drop r.commands vs) ∙ parts-length r.commands vs

cut-front : (n : ℕ) (vs ws : List ℕ) → n ≤ length vs → take n (vs ++ ws) ≡ take n vs
cut-front zero vs ws le = refl
cut-front (suc n) [] ws le = absurd (omega (arith, le))
cut-front (suc n) (v ∷ vs) ws le = ap (λ xs. v ∷ xs) (cut-front n vs ws (omega (arith, le)))

cut-back : (n : ℕ) (vs ws : List ℕ) → n ≤ length vs → drop n (vs ++ ws) ≡ drop n vs ++ ws
cut-back zero vs ws le = refl
cut-back (suc n) [] ws le = absurd (omega (arith, le))
cut-back (suc n) (v ∷ vs) ws le = cut-back n vs ws (omega (arith, le))

pub front-length : (n : ℕ) (vs : List ℕ) → n ≤ length vs → length (take n vs) ≡ n
front-length zero vs le = refl
front-length (suc n) [] le = absurd (omega (arith, le))
front-length (suc n) (v ∷ vs) le = omega (arith, front-length n vs (omega (arith, le)))

pub all_words-length : (rs : List Whole) (vs : List ℕ) → words_in rs ≡ length vs → length (all_words rs vs) ≡ length vs
all_words-length [] vs total = total
all_words-length (r ∷ rs) vs total =
    let few : r.count ≤ length vs = omega (arith, total) in
    let rest : words_in rs ≡ length (drop r.count vs) = omega (arith, total, length-drop r.count vs) in
    omega (arith, length-append (whole_words r (take r.count vs)) (all_words rs (drop r.count vs)), whole_words-length r (take r.count vs), front-length r.count vs few, all_words-length rs (drop r.count vs) rest, length-drop r.count vs, few)

-- ---- one run more

pub words_in-push : (rs : List Whole) (r : Whole) → words_in (rs ++ r ∷ []) ≡ words_in rs + r.count
words_in-push [] r = omega arith
words_in-push (q ∷ qs) r = omega (arith, words_in-push qs r)

pub all_words-push : (rs : List Whole) (vs : List ℕ) (r : Whole) (ws : List ℕ) → words_in rs ≡ length vs → r.count ≡ length ws
    → all_words (rs ++ r ∷ []) (vs ++ ws) ≡ all_words rs vs ++ whole_words r ws
all_words-push [] [] r ws total count = append-nil (whole_words r (take r.count ws)) ∙ ap (whole_words r) (take_all r.count ws (omega (arith, count)))
all_words-push [] (v ∷ vs) r ws total count = absurd (omega (arith, total))
all_words-push (q ∷ qs) vs r ws total count =
    let few : q.count ≤ length vs = omega (arith, total) in
    let rest : words_in qs ≡ length (drop q.count vs) = omega (arith, total, length-drop q.count vs) in
    ap (λ xs. whole_words q xs ++ all_words (qs ++ r ∷ []) (drop q.count (vs ++ ws))) (cut-front q.count vs ws few)
    ∙ ap (λ xs. whole_words q (take q.count vs) ++ all_words (qs ++ r ∷ []) xs) (cut-back q.count vs ws few)
    ∙ ap (λ xs. whole_words q (take q.count vs) ++ xs) (all_words-push qs (drop q.count vs) r ws rest count)
    ∙ sym (append_assoc (whole_words q (take q.count vs)) (all_words qs (drop q.count vs)) (whole_words r ws))

pub some-push : (rs : List Whole) (r : Whole) → AreSome rs → 0 < r.count → AreSome (rs ++ r ∷ [])
some-push [] r some one zero d lt = one
some-push [] r some one (suc k) d lt = absurd (omega (arith, lt))
some-push (q ∷ qs) r some one zero d lt = some zero d (omega arith)
some-push (q ∷ qs) r some one (suc k) d lt = some-push qs r (λ j e less. some (suc j) e (omega (arith, less))) one k d (omega (arith, lt))

one_small : (v : ℕ) (vs : List ℕ) → v < 2 ^ 16 → AreSmall vs → AreSmall (v ∷ vs)
one_small v vs small rest zero d lt = small
one_small v vs small rest (suc k) d lt = rest k d (omega (arith, lt))

pub small-append : (xs ys : List ℕ) → AreSmall xs → AreSmall ys → AreSmall (xs ++ ys)
small-append [] ys a b = b
small-append (x ∷ xs) ys a b = one_small x (xs ++ ys) (first_small x xs a) (small-append xs ys (rest_small x xs a) b)

-- ---- the words of a run one by one

gap_at-same : (place : ℕ) → gap_at place 20 ≡ 20
gap_at-same zero = refl
gap_at-same (suc place) = refl

words_of-at : (n : ℕ) (s : Source) (g : ℕ) (ws : List ℕ) (k : ℕ) (d : Sent) (e : ℕ) → k < length ws
    → get_or (contiguous_run n s g ws) k d ≡ record { wave = get_or ws k e; gap = gap_at k g; run = n; source = s }
words_of-at n s g [] k d e lt = absurd (omega (arith, lt))
words_of-at n s g (w ∷ ws) zero d e lt = refl
words_of-at n s g (w ∷ ws) (suc k) d e lt =
    words_of-at n s 20 ws k d e (omega (arith, lt)) ∙ ap (λ gap. let x : Sent = record { wave = get_or ws k e; gap = gap; run = n; source = s } in x) (gap_at-same k)

at-command : (c : ℕ) (vs : List ℕ) (k e v : ℕ) → k < c → k < length vs → get_or (run_waves (take c vs) (drop c vs)) k e ≡ command_wave (get_or vs k v)
at-command zero vs k e v le lt = absurd (omega (arith, le))
at-command (suc c) [] k e v le lt = absurd (omega (arith, lt))
at-command (suc c) (x ∷ xs) zero e v le lt = refl
at-command (suc c) (x ∷ xs) (suc k) e v le lt = at-command c xs k e v (omega (arith, le)) (omega (arith, lt))

at-data : (c : ℕ) (vs : List ℕ) (k e v : ℕ) → c ≤ k → k < length vs → get_or (run_waves (take c vs) (drop c vs)) k e ≡ data_wave (get_or vs k v)
at-data c [] k e v le lt = absurd (omega (arith, lt))
at-data zero (x ∷ xs) zero e v le lt = refl
at-data zero (x ∷ xs) (suc k) e v le lt = at-data zero xs k e v (omega arith) (omega (arith, lt))
at-data (suc c) (x ∷ xs) zero e v le lt = absurd (omega (arith, le))
at-data (suc c) (x ∷ xs) (suc k) e v le lt = at-data c xs k e v (omega (arith, le)) (omega (arith, lt))

pub word-at : (r : Whole) (vs : List ℕ) (k : ℕ) (d : Sent) (v wave : ℕ) (command : Bool) → k < length vs → v ≡ get_or vs k v
    → (command ≡ true → k < r.commands) → (command ≡ false → r.commands ≤ k) → wave ≡ cond command (command_wave v) (data_wave v)
    → get_or (whole_words r vs) k d ≡ record { wave = wave; gap = gap_at k r.gap; run = r.number; source = r.source }
word-at r vs k d v wave true lt value below above is =
    let waves = run_waves (take r.commands vs) (drop r.commands vs) in
    words_of-at r.number r.source r.gap waves k d wave (omega (arith, run_waves-length (take r.commands vs) (drop r.commands vs), parts-length r.commands vs, lt))
    ∙ ap (λ w. let x : Sent = record { wave = w; gap = gap_at k r.gap; run = r.number; source = r.source } in x) (at-command r.commands vs k wave v (below refl) lt ∙ ap command_wave (sym value) ∙ sym is)
word-at r vs k d v wave false lt value below above is =
    let waves = run_waves (take r.commands vs) (drop r.commands vs) in
    words_of-at r.number r.source r.gap waves k d wave (omega (arith, run_waves-length (take r.commands vs) (drop r.commands vs), parts-length r.commands vs, lt))
    ∙ ap (λ w. let x : Sent = record { wave = w; gap = gap_at k r.gap; run = r.number; source = r.source } in x) (at-data r.commands vs k wave v (above refl) lt ∙ ap data_wave (sym value) ∙ sym is)

-- ---- when they end

end-rest : (place tick n : ℕ) (s : Source) (ws : List ℕ) (more : List Sent) → end_from (suc place) tick (contiguous_run n s 20 ws ++ more) ≡ end_from (suc place + length ws) (tick + 200 * length ws) more
end-rest place tick n s [] more =
    let p : suc place ≡ suc place + 0 = omega arith in
    let t : tick ≡ tick + 200 * 0 = omega arith in
    ap (λ k. end_from k tick more) p ∙ ap (λ k. end_from (suc place + 0) k more) t
end-rest place tick n s (w ∷ ws) more =
    let p : suc (suc place) + length ws ≡ suc place + length (w ∷ ws) = omega arith in
    let t : tick + 200 + 200 * length ws ≡ tick + 200 * length (w ∷ ws) = omega arith in
    end-rest (suc place) (tick + 200) n s ws more ∙ ap (λ k. end_from k (tick + 200 + 200 * length ws) more) p ∙ ap (λ k. end_from (suc place + length (w ∷ ws)) k more) t

end-run : (place tick n : ℕ) (s : Source) (gap : ℕ) (ws : List ℕ) (more : List Sent) → 0 < length ws
    → end_from place tick (contiguous_run n s gap ws ++ more) ≡ end_from (place + length ws) (tick + (lasting place gap + 200 * (length ws - 1))) more
end-run place tick n s gap [] more some = absurd (omega (arith, some))
end-run place tick n s gap (w ∷ ws) more some =
    let p : suc place + length ws ≡ place + length (w ∷ ws) = omega arith in
    let t : tick + lasting place gap + 200 * length ws ≡ tick + (lasting place gap + 200 * (length (w ∷ ws) - 1)) = omega arith in
    end-rest place (tick + lasting place gap) n s ws more ∙ ap (λ k. end_from k (tick + lasting place gap + 200 * length ws) more) p ∙ ap (λ k. end_from (place + length (w ∷ ws)) k more) t

pub end-whole : (place tick : ℕ) (r : Whole) (vs : List ℕ) (more : List Sent) (ticks : ℕ) → length vs ≡ r.count → 0 < r.count → ticks ≡ lasting place r.gap + 200 * (r.count - 1)
    → end_from place tick (whole_words r vs ++ more) ≡ end_from (place + r.count) (tick + ticks) more
end-whole place tick r vs more ticks long some is =
    let waves = run_waves (take r.commands vs) (drop r.commands vs) in
    let many : length waves ≡ r.count = run_waves-length (take r.commands vs) (drop r.commands vs) ∙ parts-length r.commands vs ∙ long in
    end-run place tick r.number r.source r.gap waves more (omega (arith, many, some))
    ∙ ap (λ n. end_from (place + n) (tick + (lasting place r.gap + 200 * (n - 1))) more) many ∙ ap (λ t. end_from (place + r.count) (tick + t) more) (sym is)

-- ---- whose the last is

last-run : (b : Bool) (n : ℕ) (s : Source) (g w : ℕ) (ws : List ℕ) (more : List Sent) → is_last_or b (contiguous_run n s g (w ∷ ws) ++ more) ≡ is_last_or (n == 0) more
last-run b n s g w [] more = refl
last-run b n s g w (v ∷ vs) more = last-run (n == 0) n s 20 v vs more

last-some : (b : Bool) (n : ℕ) (s : Source) (g : ℕ) (ws : List ℕ) (more : List Sent) → 0 < length ws → is_last_or b (contiguous_run n s g ws ++ more) ≡ is_last_or (n == 0) more
last-some b n s g [] more some = absurd (omega (arith, some))
last-some b n s g (w ∷ ws) more some = last-run b n s g w ws more

pub last-whole : (b : Bool) (r : Whole) (vs : List ℕ) (more : List Sent) → 0 < length vs → is_last_or b (whole_words r vs ++ more) ≡ is_last_or (r.number == 0) more
last-whole b r vs more some =
    last-some b r.number r.source r.gap (run_waves (take r.commands vs) (drop r.commands vs)) more (omega (arith, run_waves-length (take r.commands vs) (drop r.commands vs), parts-length r.commands vs, some))

pub last-all : (b : Bool) (rs : List Whole) (vs : List ℕ) (r : Whole) (more : List Sent) → words_in rs ≡ length vs → AreSome rs → 0 < length rs → get_or rs (length rs - 1) r ≡ r
    → is_last_or b (all_words rs vs ++ more) ≡ is_last_or (r.number == 0) more
last-all b [] vs r more total some one is = absurd (omega (arith, one))
last-all b (q ∷ []) vs r more total some one is =
    let own = take q.count vs in
    let long : length own ≡ q.count = front-length q.count vs (omega (arith, total)) in
    ap (λ xs. is_last_or b (xs ++ more)) (append-nil (whole_words q own))
    ∙ last-whole b q own more (omega (arith, long, some 0 q (omega arith)))
    ∙ ap (λ (x : Whole). is_last_or (x.number == 0) more) is
last-all b (q ∷ p ∷ ps) vs r more total some one is =
    let own = take q.count vs in
    let rest = all_words (p ∷ ps) (drop q.count vs) in
    let long : length own ≡ q.count = front-length q.count vs (omega (arith, total)) in
    let back : words_in (p ∷ ps) ≡ length (drop q.count vs) = omega (arith, total, length-drop q.count vs) in
    let place : suc (length (p ∷ ps) - 1) ≡ length (q ∷ p ∷ ps) - 1 = omega arith in
    ap (is_last_or b) (append_assoc (whole_words q own) rest more)
    ∙ last-whole b q own (rest ++ more) (omega (arith, long, some 0 q (omega arith)))
    ∙ last-all (q.number == 0) (p ∷ ps) (drop q.count vs) r more back (λ k d lt. some (suc k) d (omega (arith, lt))) (omega arith) (ap (λ n. get_or (q ∷ p ∷ ps) n r) place ∙ is)

pub last-none : (rs : List Whole) (vs : List ℕ) (more : List Sent) → length rs ≡ 0 → is_last_or true (all_words rs vs ++ more) ≡ is_last_or true more
last-none [] vs more none = refl
last-none (r ∷ rs) vs more none = absurd (omega (arith, none))

-- ---- what is recorded of them

raw-data : (n : ℕ) (s : Source) (g : ℕ) (vs : List ℕ) → AreSmall vs → map (λ (w : Sent). raw_of w.wave) (contiguous_run n s g (map data_wave vs)) ≡ vs
raw-data n s g [] small = refl
raw-data n s g (v ∷ vs) small =
    let first = raw_of-wave (record { sync = DataSync; value = v }) (first_small v vs small) in
    let rest = raw-data n s 20 vs (rest_small v vs small) in
    cc

raw-run : (n : ℕ) (s : Source) (g c : ℕ) (vs : List ℕ) → AreSmall vs → map (λ (w : Sent). raw_of w.wave) (contiguous_run n s g (run_waves (take c vs) (drop c vs))) ≡ vs
raw-run n s g zero vs small = raw-data n s g vs small
raw-run n s g (suc c) [] small = refl
raw-run n s g (suc c) (v ∷ vs) small =
    let first = raw_of-wave (record { sync = CommandSync; value = v }) (first_small v vs small) in
    let rest = raw-run n s 20 c vs (rest_small v vs small) in
    cc

small-front : (n : ℕ) (vs : List ℕ) → AreSmall vs → AreSmall (take n vs)
small-front zero vs small = λ k d lt. absurd (omega (arith, lt))
small-front (suc n) [] small = λ k d lt. absurd (omega (arith, lt))
small-front (suc n) (v ∷ vs) small = one_small v (take n vs) (first_small v vs small) (small-front n vs (rest_small v vs small))

small-back : (n : ℕ) (vs : List ℕ) → AreSmall vs → AreSmall (drop n vs)
small-back zero vs small = small
small-back (suc n) [] small = λ k d lt. absurd (omega (arith, lt))
small-back (suc n) (v ∷ vs) small = small-back n vs (rest_small v vs small)

map-both : (xs ys : List Sent) → map (λ (w : Sent). raw_of w.wave) (xs ++ ys) ≡ map (λ (w : Sent). raw_of w.wave) xs ++ map (λ (w : Sent). raw_of w.wave) ys
map-both [] ys = refl
map-both (x ∷ xs) ys = ap (λ zs. raw_of x.wave ∷ zs) (map-both xs ys)

pub raw-all : (rs : List Whole) (vs : List ℕ) → words_in rs ≡ length vs → AreSmall vs → map (λ (w : Sent). raw_of w.wave) (all_words rs vs) ≡ vs
raw-all [] [] total small = refl
raw-all [] (v ∷ vs) total small = absurd (omega (arith, total))
raw-all (r ∷ rs) vs total small =
    let rest : words_in rs ≡ length (drop r.count vs) = omega (arith, total, length-drop r.count vs) in
    let first = raw-run r.number r.source r.gap r.commands (take r.count vs) (small-front r.count vs small) in
    let others = raw-all rs (drop r.count vs) rest (small-back r.count vs small) in
    map-both (whole_words r (take r.count vs)) (all_words rs (drop r.count vs))
    ∙ ap (λ xs. xs ++ map (λ (w : Sent). raw_of w.wave) (all_words rs (drop r.count vs))) first ∙ ap (λ xs. take r.count vs ++ xs) others ∙ take-append-drop r.count vs

pub get-same : (xs : List ℕ) (k d e : ℕ) → k < length xs → get_or xs k d ≡ get_or xs k e
get-same [] k d e lt = absurd (omega (arith, lt))
get-same (x ∷ xs) zero d e lt = refl
get-same (x ∷ xs) (suc k) d e lt = get-same xs k d e (omega (arith, lt))

-- ---- a step over one run

pub runs-step : (rs : List Whole) (i : ℕ) (r : Whole) → i < length rs → r ≡ get_or rs i r → drop i rs ≡ r ∷ drop (i + 1) rs
runs-step rs i r lt is = drop_more rs i r lt ∙ ap (λ q. q ∷ drop (i + 1) rs) (sym is)

pub count-step : (rs : List Whole) (i : ℕ) (r : Whole) → i < length rs → r ≡ get_or rs i r → words_in (drop i rs) ≡ r.count + words_in (drop (i + 1) rs)
count-step rs i r lt is = ap words_in (runs-step rs i r lt is)

pub words-step : (rs : List Whole) (vs : List ℕ) (i from : ℕ) (r : Whole) → i < length rs → r ≡ get_or rs i r
    → all_words (drop i rs) (drop from vs) ≡ whole_words r (take r.count (drop from vs)) ++ all_words (drop (i + 1) rs) (drop (from + r.count) vs)
words-step rs vs i from r lt is =
    ap (λ qs. all_words qs (drop from vs)) (runs-step rs i r lt is)
    ∙ ap (λ xs. whole_words r (take r.count (drop from vs)) ++ all_words (drop (i + 1) rs) xs) (drop-drop r.count from vs)

pub own-length : (vs : List ℕ) (from n : ℕ) → from + n ≤ length vs → length (take n (drop from vs)) ≡ n
own-length vs from n le = front-length n (drop from vs) (omega (arith, le, length-drop from vs))

-- what stands before a run, with it, and what stands behind it
pub more-words : (old new : List Sent) (rs : List Whole) (vs : List ℕ) (i from : ℕ) (r : Whole) (all : List Sent) → i < length rs → r ≡ get_or rs i r
    → new ≡ old ++ whole_words r (take r.count (drop from vs)) → old ++ all_words (drop i rs) (drop from vs) ≡ all
    → new ++ all_words (drop (i + 1) rs) (drop (from + r.count) vs) ≡ all
more-words old new rs vs i from r all lt is e whole =
    ap (λ xs. xs ++ all_words (drop (i + 1) rs) (drop (from + r.count) vs)) e
    ∙ append_assoc old (whole_words r (take r.count (drop from vs))) (all_words (drop (i + 1) rs) (drop (from + r.count) vs))
    ∙ ap (λ xs. old ++ xs) (sym (words-step rs vs i from r lt is)) ∙ whole

pub put-is : (front words each all : List Sent) → length each ≡ 0 → front ++ each ≡ all → (front ++ words) ++ each ≡ all ++ words
put-is front words [] all none is = append-nil (front ++ words) ∙ ap (λ xs. xs ++ words) (sym (append-nil front) ∙ is)
put-is front words (w ∷ ws) all none is = absurd (omega (arith, none))

pub front-is : (front each all : List Sent) → length each ≡ 0 → front ++ each ≡ all → front ≡ all
front-is front [] all none is = sym (append-nil front) ∙ is
front-is front (w ∷ ws) all none is = absurd (omega (arith, none))
