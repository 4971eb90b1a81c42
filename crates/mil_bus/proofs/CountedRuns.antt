-- What runs that are kept as a whole make of the counts of a talk.
use Rattle.std.proofs.Common.{◌≡◌, ℕ, zero, suc, ◌+◌, ◌<◌, ◌≤◌, ◌^◌, nat_lt, Bool, true, false, cond, ◌||◌, List, ◌++◌, take, drop, length, get_or, refl, sym, ap, ◌∙◌, arith, Option, Some, None, ◌-◌, ◌==◌, ◌&&◌, [], ◌∷◌, subst}
use Rattle.std.specs.Prelude.{not}
use Rattle.std.specs.Option.{is_none, is_some}
use Rattle.std.proofs.lemmas.Bool.Decides.{nat_tests}
use Rattle.std.proofs.lemmas.List.{get_or-drop, get_or_append_left, drop-drop, drop_at}
use Rattle.mil_word.specs.declared.Sync.TheVariants.{CommandSync, DataSync}
use Rattle.mil_word.specs.Wave.{word_of}
use Rattle.mil_word.specs.Words.{command_wave, data_wave}
use Rattle.mil_word.proofs.Reading.{word_of-wave}
use Rattle.mil_terminal.specs.Runs.{AreSmall}
use Rattle.mil_bus.specs.declared.talks.Source.{Source}
use Rattle.mil_bus.specs.declared.talks.Sent.{Sent}
use Rattle.mil_bus.specs.declared.counts.Came.{Came}
use Rattle.mil_bus.specs.declared.counts.TalkCounts.{TalkCounts}
use Rattle.mil_bus.specs.declared.wholes.Whole.{Whole}
use Rattle.mil_bus.specs.Counts.{counts_of, differs}
use Rattle.mil_bus.specs.DataRuns.{gap_at}
use Rattle.mil_bus.specs.Pass.{noted, one_more, words_in as came_words}
use Rattle.mil_bus.specs.Lengthened.{is_data, AreLike, goes_on, lengthened}
use Rattle.mil_bus.specs.Wholes.{whole_words, all_words}
use Rattle.mil_bus.proofs.Passes.{or_false, and_false, counts_of-more}
use Rattle.mil_bus.proofs.Lengthening.{not_longer, counts_of-like}
use Rattle.mil_bus.proofs.KeptRuns.{word-at, get-same, whole_words-length, words-step, own-length}

-- the words of a run stand from a place on
abbrev pub Stands : List Sent → ℕ → Whole → List ℕ → Type 0
Stands xs from r own = (k : ℕ) (d : Sent) → k < length own → get_or xs (from + k) d ≡ get_or (whole_words r own) k d

or_true : (b : Bool) → (b || true) ≡ true
or_true true = refl
or_true false = refl

none_before : (due : ℕ) → nat_lt due 0 ≡ false
none_before due = grind (arith, nat_tests)

-- a word behind the first of a run that is kept as a whole follows the one before at once
gap_later : (place gap : ℕ) → 0 < place → gap_at place gap ≡ 20
gap_later zero gap some = absurd (omega (arith, some))
gap_later (suc place) gap some = refl

no_pause : (place gap : ℕ) → (not (gap_at place gap == 20) && nat_lt 0 place) ≡ false
no_pause zero gap = and_false (not (gap == 20))
no_pause (suc place) gap = refl

fits : (b : Bool) (value : ℕ) → differs b (Some (record { sync = cond b CommandSync DataSync; value = value })) ≡ false
fits true value = refl
fits false value = refl

sound : (b : Bool) (v : ℕ) → v < 2 ^ 16 → word_of (cond b (command_wave v) (data_wave v)) ≡ Some (record { sync = cond b CommandSync DataSync; value = v })
sound true v small = word_of-wave (record { sync = CommandSync; value = v }) small
sound false v small = word_of-wave (record { sync = DataSync; value = v }) small

-- a word of the controller that has the sync of its place
note_in_place : (b : Bool) (commands due n : ℕ) (s : TalkCounts) (wave gap : ℕ) (source : Source) (value : ℕ) → nat_lt n commands ≡ b → s.controllers ≡ 0 → (not (gap == 20) && nat_lt 0 n) ≡ false
    → word_of wave ≡ Some (record { sync = cond b CommandSync DataSync; value = value })
    → noted commands due (lengthened s 0 n) (record { wave = wave; gap = gap; run = 0; source = source }) ≡ lengthened s 0 (n + 1)
note_in_place b commands due n s wave gap source value at front calm is =
    let place : s.controllers + n ≡ n = omega (arith, front) in
    let takes : nat_lt (s.controllers + n) commands ≡ b = ap (λ k. nat_lt k commands) place ∙ at in
    let none : (s.unsound || is_none (word_of wave)) ≡ s.unsound = ap (λ o. s.unsound || is_none o) is ∙ or_false s.unsound in
    let sync : (s.other_sync || differs (nat_lt (s.controllers + n) commands) (word_of wave)) ≡ s.other_sync =
    ap (λ t. s.other_sync || differs t (word_of wave)) takes ∙ ap (λ o. s.other_sync || differs b o) is ∙ ap (λ x. s.other_sync || x) (fits b value) ∙ or_false s.other_sync in
    let more : s.controllers + n + 1 ≡ s.controllers + (n + 1) = omega arith in
    let far : (s.beyond || nat_lt due 0) ≡ s.beyond = ap (λ x. s.beyond || x) (none_before due) ∙ or_false s.beyond in
    let pause : (s.paused || (not (gap == 20) && (not (nat_lt due 0) && nat_lt 0 (s.controllers + n)))) ≡ s.paused =
    ap (λ x. s.paused || (not (gap == 20) && (not x && nat_lt 0 (s.controllers + n)))) (none_before due)
    ∙ ap (λ k. s.paused || (not (gap == 20) && nat_lt 0 k)) place ∙ ap (λ x. s.paused || x) calm ∙ or_false s.paused in
    λ i. record { controllers = more i; one = s.one; two = s.two; beyond = far i; unsound = none i; other_sync = sync i; paused = pause i }

below : (n a b : ℕ) → a ≡ b → nat_lt n b ≡ true → n < a
below n a b e h = grind (arith, nat_tests)

above : (n a b : ℕ) → a ≡ b → nat_lt n b ≡ false → a ≤ n
above n a b e h = grind (arith, nat_tests)

-- the words of the controller's run, where it has as many commands as are sent
pub counts-front : (commands due : ℕ) → due ≤ 2 → (xs : List Sent) (from n : ℕ) (r : Whole) (own : List ℕ) → r.number ≡ 0 → r.commands ≡ commands
    → (counts_of commands due (take from xs)).controllers ≡ 0 → from + length own ≤ length xs → n ≤ length own → AreSmall own → Stands xs from r own
    → counts_of commands due (take (from + n) xs) ≡ lengthened (counts_of commands due (take from xs)) 0 n
counts-front commands due few xs from zero r own number same front within le small there =
    ap (λ k. counts_of commands due (take k xs)) (omega arith) ∙ not_longer (counts_of commands due (take from xs)) 0
counts-front commands due few xs from (suc n) r own number same front within le small there =
    let s = counts_of commands due (take from xs) in
    let v = get_or own n 0 in
    let lt : n < length own = omega (arith, le) in
    let b = nat_lt n commands in
    let wave = cond b (command_wave v) (data_wave v) in
    let w : Sent = record { wave = wave; gap = gap_at n r.gap; run = r.number; source = r.source } in
    let at : get_or xs (from + n) w ≡ w = there n w lt ∙ word-at r own n w v wave b lt (get-same own n 0 v lt) (below n r.commands commands same) (above n r.commands commands same) refl in
    let next : from + suc n ≡ (from + n) + 1 = omega arith in
    let up : n + 1 ≡ suc n = omega arith in
    ap (λ k. counts_of commands due (take k xs)) next
    ∙ counts_of-more commands due few xs (from + n) w (omega (arith, within, le))
    ∙ ap (noted commands due (counts_of commands due (take (from + n) xs))) at
    ∙ ap (λ t. noted commands due t w) (counts-front commands due few xs from n r own number same front within (omega (arith, le)) small there)
    ∙ ap (λ k. noted commands due (lengthened s 0 n) (record { wave = wave; gap = gap_at n r.gap; run = k; source = r.source })) number
    ∙ note_in_place b commands due n s wave (gap_at n r.gap) r.source v refl front (no_pause n r.gap) (sound b v (small n 0 lt))
    ∙ ap (lengthened s 0) up

-- the data words of a run
pub data-like : (r : Whole) (own : List ℕ) (xs : List Sent) (from j more : ℕ) → r.commands ≤ j → 0 < j → j + more ≤ length own → AreSmall own → Stands xs from r own
    → AreLike r.number more (drop (from + j) xs)
data-like r own xs from j more behind later fit small there = λ k d lt.
    let place : j + k < length own = omega (arith, lt, fit) in
    let v = get_or own (j + k) 0 in
    let w : Sent = record { wave = data_wave v; gap = gap_at (j + k) r.gap; run = r.number; source = r.source } in
    let e : from + j + k ≡ from + (j + k) = omega arith in
    let at : get_or (drop (from + j) xs) k d ≡ w =
    get_or-drop (from + j) xs k d ∙ ap (λ m. get_or xs m d) e ∙ there (j + k) d place
    ∙ word-at r own (j + k) d v (data_wave v) false place (get-same own (j + k) 0 v place) (λ h. absurd (false-not-true h)) (λ h. omega (arith, behind)) refl in
    let word : is_data (word_of (data_wave v)) ≡ true = ap is_data (word_of-wave (record { sync = DataSync; value = v }) (small (j + k) 0 place)) in
    (ap (λ (x : Sent). x.run) at, ap (λ (x : Sent). is_data (word_of x.wave)) at ∙ word, ap (λ (x : Sent). x.gap) at ∙ gap_later (j + k) r.gap (omega (arith, later)))
  where
    false-not-true : false ≡ true → ⊥
    false-not-true h = cc

-- the words of the first reply, where it is due and has a status word
reply-begun : (commands due : ℕ) (s : TalkCounts) (wave gap : ℕ) (source : Source) (value : ℕ) → 0 < due → s.one ≡ None → word_of wave ≡ Some (record { sync = CommandSync; value = value })
    → noted commands due s (record { wave = wave; gap = gap; run = 1; source = source }) ≡ record s { one = Some (record { gap = gap; first = Some (record { sync = CommandSync; value = value }); count = 1 }) }
reply-begun commands due s wave gap source value some before is =
    let takes : nat_lt 0 due ≡ true = grind (arith, nat_tests) in
    let over : nat_lt due 1 ≡ false = grind (arith, nat_tests) in
    let far : (s.beyond || nat_lt due 1) ≡ s.beyond = ap (λ x. s.beyond || x) over ∙ or_false s.beyond in
    let none : (s.unsound || is_none (word_of wave)) ≡ s.unsound = ap (λ o. s.unsound || is_none o) is ∙ or_false s.unsound in
    let place : (nat_lt 0 due && came_words s.one == 0) ≡ true = rw (takes, before) refl in
    let sync : (s.other_sync || differs (nat_lt 0 due && came_words s.one == 0) (word_of wave)) ≡ s.other_sync =
    ap (λ t. s.other_sync || differs t (word_of wave)) place ∙ ap (λ o. s.other_sync || differs true o) is ∙ or_false s.other_sync in
    let one : one_more s.one gap (word_of wave) ≡ Some (record { gap = gap; first = Some (record { sync = CommandSync; value = value }); count = 1 }) =
    ap (λ o. one_more o gap (word_of wave)) before ∙ ap (λ w. Some (record { gap = gap; first = w; count = 1 })) is in
    let pause : (s.paused || (not (gap == 20) && (not (nat_lt due 1) && nat_lt 0 (came_words s.one)))) ≡ s.paused =
    ap (λ o. s.paused || (not (gap == 20) && (not (nat_lt due 1) && nat_lt 0 (came_words o)))) before
    ∙ ap (λ x. s.paused || (not (gap == 20) && x)) (and_false (not (nat_lt due 1))) ∙ ap (λ x. s.paused || x) (and_false (not (gap == 20))) ∙ or_false s.paused in
    λ i. record { controllers = s.controllers; one = one i; two = s.two; beyond = far i; unsound = none i; other_sync = sync i; paused = pause i }

goes_on-begun : (commands due : ℕ) (s : TalkCounts) (c : Came) → 0 < due → c.count ≡ 1 → goes_on commands due (record s { one = Some c }) 1 ≡ true
goes_on-begun commands due s c some one =
    let over : nat_lt due 1 ≡ false = grind (arith, nat_tests) in
    rw (one, over) (or_true s.beyond)

pub counts-reply : (commands due : ℕ) → due ≤ 2 → (xs : List Sent) (from : ℕ) (r : Whole) (own : List ℕ) (v : ℕ) → r.number ≡ 1 → r.commands ≡ 1 → 0 < due
    → (counts_of commands due (take from xs)).one ≡ None → from + length own ≤ length xs → 0 < length own → AreSmall own → Stands xs from r own → v ≡ get_or own 0 v
    → counts_of commands due (take (from + length own) xs)
    ≡ record (counts_of commands due (take from xs)) { one = Some (record { gap = r.gap; first = Some (record { sync = CommandSync; value = v }); count = length own }) }
counts-reply commands due few xs from r own v number single some before within more small there value =
    let s = counts_of commands due (take from xs) in
    let w : Sent = record { wave = command_wave v; gap = r.gap; run = r.number; source = r.source } in
    let zero_th : from + 0 ≡ from = omega arith in
    let at : get_or xs from w ≡ w =
    ap (λ k. get_or xs k w) (sym zero_th) ∙ there 0 w more ∙ word-at r own 0 w v (command_wave v) true more value (λ h. omega (arith, single)) (λ h. absurd (true-not-false h)) refl in
    let word : word_of (command_wave v) ≡ Some (record { sync = CommandSync; value = v }) = word_of-wave (record { sync = CommandSync; value = v }) (omega (arith, small 0 v more, value)) in
    let came : Came = record { gap = r.gap; first = Some (record { sync = CommandSync; value = v }); count = 1 } in
    let first : counts_of commands due (take (from + 1) xs) ≡ record s { one = Some came } =
    counts_of-more commands due few xs from w (omega (arith, within, more)) ∙ ap (noted commands due s) at
    ∙ ap (λ k. noted commands due s (record { wave = command_wave v; gap = r.gap; run = k; source = r.source })) number
    ∙ reply-begun commands due s (command_wave v) r.gap r.source v some before word in
    let n = length own - 1 in
    let on : goes_on commands due (counts_of commands due (take (from + 1) xs)) 1 ≡ true = ap (λ t. goes_on commands due t 1) first ∙ goes_on-begun commands due s came some refl in
    let like : AreLike 1 n (drop (from + 1) xs) = subst (λ k. AreLike k n (drop (from + 1) xs)) number (data-like r own xs from 1 n (omega (arith, single)) (omega arith) (omega (arith, more)) small there) in
    let all : from + length own ≡ from + 1 + n = omega (arith, more) in
    let count : 1 + n ≡ length own = omega (arith, more) in
    ap (λ k. counts_of commands due (take k xs)) all ∙ counts_of-like commands due few xs (from + 1) 1 n (omega (arith, within, more)) on like
    ∙ ap (λ t. lengthened t 1 n) first ∙ ap (λ k. let t : TalkCounts = record s { one = Some (record { gap = r.gap; first = Some (record { sync = CommandSync; value = v }); count = k }) } in t) count
  where
    true-not-false : true ≡ false → ⊥
    true-not-false h = cc

-- the words of one of the runs stand where they should
pub run-stands : (rs : List Whole) (vs : List ℕ) (xs : List Sent) (i from : ℕ) (r : Whole) (own : List ℕ) → i < length rs → r ≡ get_or rs i r
    → drop from xs ≡ all_words (drop i rs) (drop from vs) → own ≡ take r.count (drop from vs) → Stands xs from r own
run-stands rs vs xs i from r own lt at rest is = λ k d less.
    sym (get_or-drop from xs k d) ∙ ap (λ ys. get_or ys k d) (rest ∙ words-step rs vs i from r lt at ∙ ap (λ ws. whole_words r ws ++ all_words (drop (i + 1) rs) (drop (from + r.count) vs)) (sym is))
    ∙ get_or_append_left (whole_words r own) (all_words (drop (i + 1) rs) (drop (from + r.count) vs)) d k (omega (arith, less, whole_words-length r own))

pub rest-step : (rs : List Whole) (vs : List ℕ) (xs : List Sent) (i from : ℕ) (r : Whole) → i < length rs → r ≡ get_or rs i r → from + r.count ≤ length vs
    → drop from xs ≡ all_words (drop i rs) (drop from vs) → drop (from + r.count) xs ≡ all_words (drop (i + 1) rs) (drop (from + r.count) vs)
rest-step rs vs xs i from r lt at le rest =
    let own = take r.count (drop from vs) in
    let later = all_words (drop (i + 1) rs) (drop (from + r.count) vs) in
    sym (drop-drop r.count from xs) ∙ ap (drop r.count) (rest ∙ words-step rs vs i from r lt at)
    ∙ drop_at (whole_words r own) later r.count (whole_words-length r own ∙ own-length vs from r.count le)

pub none_is : (o : Option Came) → is_some o ≡ false → o ≡ None
none_is None h = refl
none_is (Some c) h = cc
