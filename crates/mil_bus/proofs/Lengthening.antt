-- What further data words of a run make of the counts of a talk.
use Rattle.std.proofs.Common.{◌≡◌, ℕ, ◌+◌, ◌<◌, ◌≤◌, ◌==◌, nat_lt, Bool, true, false, ◌||◌, ◌&&◌, List, take, drop, length, get_or, zero, suc, refl, sym, ap, ◌∙◌, arith, Option, Some, None}
use Rattle.std.specs.Prelude.{not}
use Rattle.std.specs.Option.{is_none}
use Rattle.std.proofs.lemmas.Bool.{and_parts, false≢true}
use Rattle.std.proofs.lemmas.Bool.Decides.{nat_tests}
use Rattle.std.proofs.lemmas.List.{get_or-drop}
use Rattle.mil_word.specs.declared.Sync.{Sync}
use Rattle.mil_word.specs.declared.Sync.TheVariants.{CommandSync, DataSync}
use Rattle.mil_word.specs.declared.Word.{Word}
use Rattle.mil_word.specs.Wave.{word_of}
use Rattle.mil_word.specs.Words.{is_command_sync, same_bool}
use Rattle.mil_bus.specs.declared.talks.Source.TheVariants.{Controller}
use Rattle.mil_bus.specs.declared.talks.Sent.{Sent}
use Rattle.mil_bus.specs.declared.counts.Came.{Came}
use Rattle.mil_bus.specs.declared.counts.TalkCounts.{TalkCounts}
use Rattle.mil_bus.specs.Counts.{counts_of, differs}
use Rattle.mil_bus.specs.Pass.{noted, one_more, words_in}
use Rattle.mil_bus.specs.Lengthened.{is_data, AreLike, longer, goes_on, lengthened}
use Rattle.mil_bus.proofs.Passes.{or_false, and_false, not_zero, not_one, not_two, counts_of-more}

data_sync : (s : Sync) → not (is_command_sync s) ≡ true → not (same_bool (is_command_sync s) false) ≡ false
data_sync CommandSync h = cc
data_sync DataSync h = refl

sound : (o : Option Word) → is_data o ≡ true → is_none o ≡ false
sound None h = cc
sound (Some w) h = refl

in_place : (o : Option Word) → is_data o ≡ true → differs false o ≡ false
in_place None h = cc
in_place (Some w) h = data_sync w.sync h

beyond_stays : (b x : Bool) → (b || not x) ≡ true → (b || x) ≡ b
beyond_stays true x h = refl
beyond_stays false true h = cc
beyond_stays false false h = refl

reply_more : (o : Option Came) (more gap : ℕ) (word : Option Word) → nat_lt 0 (words_in o) ≡ true → one_more (longer o more) gap word ≡ longer o (more + 1)
reply_more None more gap word h = cc
reply_more (Some c) more gap word h = ap (λ n. Some (record { gap = c.gap; first = c.first; count = n })) (omega arith)

reply_place : (o : Option Came) (more : ℕ) → nat_lt 0 (words_in o) ≡ true → (words_in (longer o more) == 0) ≡ false
reply_place None more h = cc
reply_place (Some c) more h = grind (arith, nat_tests)

-- the fields that a data word in its place leaves as they were
unsound_stays : (b : Bool) (o : Option Word) → is_data o ≡ true → (b || is_none o) ≡ b
unsound_stays b o h = ap (λ x. b || x) (sound o h) ∙ or_false b

sync_stays : (b takes : Bool) (o : Option Word) → takes ≡ false → is_data o ≡ true → (b || differs takes o) ≡ b
sync_stays b takes o e h = ap (λ t. b || differs t o) e ∙ ap (λ x. b || x) (in_place o h) ∙ or_false b

pause_stays : (b : Bool) (gap : ℕ) (counts : Bool) → gap ≡ 20 → (b || (not (gap == 20) && counts)) ≡ b
pause_stays b gap counts h = ap (λ g. b || (not (g == 20) && counts)) h ∙ or_false b

none_before : (due : ℕ) → nat_lt due 0 ≡ false
none_before due = grind (arith, nat_tests)

note_zero : (commands due more : ℕ) (s : TalkCounts) (w : Sent) → w.run ≡ 0 → is_data (word_of w.wave) ≡ true → w.gap ≡ 20 → goes_on commands due s 0 ≡ true
    → noted commands due (lengthened s 0 more) w ≡ lengthened s 0 (more + 1)
note_zero commands due more s w is kind once on =
    let here : nat_lt (s.controllers + more) commands ≡ false = grind (arith, nat_tests) in
    let count : s.controllers + more + 1 ≡ s.controllers + (more + 1) = omega arith in
    let beyond = ap (λ b. s.beyond || b) (none_before due) ∙ or_false s.beyond in
    let unsound = unsound_stays s.unsound (word_of w.wave) kind in
    let sync = sync_stays s.other_sync (nat_lt (s.controllers + more) commands) (word_of w.wave) here kind in
    let pause = pause_stays s.paused w.gap (not (nat_lt due 0) && nat_lt 0 (s.controllers + more)) once in
    rw is (λ i. record { controllers = count i; one = s.one; two = s.two; beyond = beyond i; unsound = unsound i; other_sync = sync i; paused = pause i })

note_one : (commands due more : ℕ) (s : TalkCounts) (w : Sent) → w.run ≡ 1 → is_data (word_of w.wave) ≡ true → w.gap ≡ 20 → goes_on commands due s 1 ≡ true
    → noted commands due (lengthened s 1 more) w ≡ lengthened s 1 (more + 1)
note_one commands due more s w is kind once on =
    let parts = and_parts (nat_lt 0 (words_in s.one)) (s.beyond || not (nat_lt due 1)) on in
    let reply = reply_more s.one more w.gap (word_of w.wave) parts.0 in
    let beyond = beyond_stays s.beyond (nat_lt due 1) parts.1 in
    let takes : (nat_lt 0 due && (words_in (longer s.one more) == 0)) ≡ false = ap (λ b. nat_lt 0 due && b) (reply_place s.one more parts.0) ∙ and_false (nat_lt 0 due) in
    let unsound = unsound_stays s.unsound (word_of w.wave) kind in
    let sync = sync_stays s.other_sync (nat_lt 0 due && (words_in (longer s.one more) == 0)) (word_of w.wave) takes kind in
    let pause = pause_stays s.paused w.gap (not (nat_lt due 1) && nat_lt 0 (words_in (longer s.one more))) once in
    rw is (λ i. record { controllers = s.controllers; one = reply i; two = s.two; beyond = beyond i; unsound = unsound i; other_sync = sync i; paused = pause i })

note_two : (commands due more : ℕ) (s : TalkCounts) (w : Sent) → w.run ≡ 2 → is_data (word_of w.wave) ≡ true → w.gap ≡ 20 → goes_on commands due s 2 ≡ true
    → noted commands due (lengthened s 2 more) w ≡ lengthened s 2 (more + 1)
note_two commands due more s w is kind once on =
    let parts = and_parts (nat_lt 0 (words_in s.two)) (s.beyond || not (nat_lt due 2)) on in
    let reply = reply_more s.two more w.gap (word_of w.wave) parts.0 in
    let beyond = beyond_stays s.beyond (nat_lt due 2) parts.1 in
    let takes : (nat_lt 1 due && (words_in (longer s.two more) == 0)) ≡ false = ap (λ b. nat_lt 1 due && b) (reply_place s.two more parts.0) ∙ and_false (nat_lt 1 due) in
    let unsound = unsound_stays s.unsound (word_of w.wave) kind in
    let sync = sync_stays s.other_sync (nat_lt 1 due && (words_in (longer s.two more) == 0)) (word_of w.wave) takes kind in
    let pause = pause_stays s.paused w.gap (not (nat_lt due 2) && nat_lt 0 (words_in (longer s.two more))) once in
    rw is (λ i. record { controllers = s.controllers; one = s.one; two = reply i; beyond = beyond i; unsound = unsound i; other_sync = sync i; paused = pause i })

note_like : (commands due run more : ℕ) (s : TalkCounts) (w : Sent) → w.run ≡ run → is_data (word_of w.wave) ≡ true → w.gap ≡ 20 → goes_on commands due s run ≡ true
    → noted commands due (lengthened s run more) w ≡ lengthened s run (more + 1)
note_like commands due zero more s w is kind once on = note_zero commands due more s w is kind once on
note_like commands due (suc zero) more s w is kind once on = note_one commands due more s w is kind once on
note_like commands due (suc (suc zero)) more s w is kind once on = note_two commands due more s w is kind once on
note_like commands due (suc (suc (suc k))) more s w is kind once on =
    let zero_th = not_zero k in
    let first = not_one k in
    let second = not_two k in
    let no : goes_on commands due s (suc (suc (suc k))) ≡ false = rw (zero_th, first, second) refl in
    absurd (false≢true (sym no ∙ on))

longer_none : (o : Option Came) → o ≡ longer o 0
longer_none None = refl
longer_none (Some c) = ap (λ n. Some (record { gap = c.gap; first = c.first; count = n })) (omega arith)

pub not_longer : (s : TalkCounts) (run : ℕ) → s ≡ lengthened s run 0
not_longer s zero = let e : s.controllers ≡ s.controllers + 0 = omega arith in λ i. record { controllers = e i; one = s.one; two = s.two; beyond = s.beyond; unsound = s.unsound; other_sync = s.other_sync; paused = s.paused }
not_longer s (suc zero) = λ i. record { controllers = s.controllers; one = longer_none s.one i; two = s.two; beyond = s.beyond; unsound = s.unsound; other_sync = s.other_sync; paused = s.paused }
not_longer s (suc (suc zero)) = λ i. record { controllers = s.controllers; one = s.one; two = longer_none s.two i; beyond = s.beyond; unsound = s.unsound; other_sync = s.other_sync; paused = s.paused }
not_longer s (suc (suc (suc k))) = rw (not_zero k, not_one k, not_two k) refl

-- the counts after further data words of a run
pub counts_of-like : (commands due : ℕ) → due ≤ 2 → (xs : List Sent) (i run n : ℕ) → i + n ≤ length xs → goes_on commands due (counts_of commands due (take i xs)) run ≡ true
    → AreLike run n (drop i xs) → counts_of commands due (take (i + n) xs) ≡ lengthened (counts_of commands due (take i xs)) run n
counts_of-like commands due few xs i run zero le on like =
    ap (λ k. counts_of commands due (take k xs)) (omega arith) ∙ not_longer (counts_of commands due (take i xs)) run
counts_of-like commands due few xs i run (suc n) le on like =
    let s = counts_of commands due (take i xs) in
    let d : Sent = get_or (drop i xs) n (record { wave = 0; gap = 20; run = 0; source = Controller }) in
    let w : Sent = get_or xs (i + n) d in
    let there : get_or (drop i xs) n d ≡ w = get_or-drop i xs n d in
    let here = like n d (omega arith) in
    let before = counts_of-like commands due few xs i run n (omega arith) on (λ k e lt. like k e (omega arith)) in
    let next : i + suc n ≡ (i + n) + 1 = omega arith in
    let up : n + 1 ≡ suc n = omega arith in
    ap (λ k. counts_of commands due (take k xs)) next
    ∙ counts_of-more commands due few xs (i + n) d (omega arith)
    ∙ ap (λ t. noted commands due t w) before
    ∙ note_like commands due run n s w (ap (λ (v : Sent). v.run) (sym there) ∙ here.0) (ap (λ (v : Sent). is_data (word_of v.wave)) (sym there) ∙ here.1) (ap (λ (v : Sent). v.gap) (sym there) ∙ here.2) on
    ∙ ap (lengthened s run) up

-- the counts after one word more
pub one_noted : (commands due : ℕ) → due ≤ 2 → (xs : List Sent) (i : ℕ) (before s : TalkCounts) (w : Sent) → i < length xs → before ≡ counts_of commands due (take i xs) → s ≡ noted commands due before w
    → w ≡ get_or xs i w → s ≡ counts_of commands due (take (i + 1) xs)
one_noted commands due few xs i before s w lt was is at =
    is ∙ ap (λ t. noted commands due t w) was ∙ ap (noted commands due (counts_of commands due (take i xs))) at ∙ sym (counts_of-more commands due few xs i w lt)
