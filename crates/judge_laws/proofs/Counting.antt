-- What a bus monitor counts of the words of a message that nothing is wrong with.
use Rattle.std.proofs.Common.{◌≡◌, ℕ, zero, suc, ◌+◌, ◌<◌, ◌≤◌, ◌^◌, ◌==◌, Bool, true, false, ◌&&◌, ◌||◌, List, [], ◌∷◌, ◌++◌, map, take, drop, length, get_or, refl, sym, ap, ◌∙◌, arith, length-append, append_assoc, Option, Some, None}
use Rattle.std.specs.Prelude.{nat_lt, not}
use Rattle.std.proofs.lemmas.List.{take_at, drop_at, take_all, length-map}
use Rattle.std.proofs.lemmas.Bool.Decides.{nat_tests}
use Rattle.mil_word.specs.declared.Sync.TheVariants.{CommandSync, DataSync}
use Rattle.mil_word.specs.Wave.{word_of}
use Rattle.mil_word.specs.Words.{command_wave, data_wave}
use Rattle.mil_word.proofs.Reading.{word_of-wave}
use Rattle.mil_bus.specs.declared.talks.Source.{Source}
use Rattle.mil_bus.specs.declared.talks.Source.TheVariants.{Controller, Terminal}
use Rattle.mil_bus.specs.declared.talks.Sent.{Sent}
use Rattle.mil_bus.specs.declared.counts.Came.{Came}
use Rattle.mil_bus.specs.declared.counts.TalkCounts.{TalkCounts}
use Rattle.mil_bus.specs.Counts.{counts_of}
use Rattle.mil_bus.specs.Pass.{noted}
use Rattle.mil_bus.specs.Lengthened.{is_data, goes_on, lengthened}
use Rattle.mil_bus.specs.Exchange.{contiguous_run}
use Rattle.mil_bus.proofs.Passes.{and_false, counts_of-push}
use Rattle.mil_bus.proofs.Lengthening.{counts_of-like}
use Rattle.judge_laws.proofs.Words.{AreSmall}

like-run : (run : ℕ) (source : Source) (values : List ℕ) → AreSmall values → (k : ℕ) (d : Sent) → k < length values
    → ((get_or (contiguous_run run source 20 (map data_wave values)) k d).run ≡ run) × (is_data (word_of (get_or (contiguous_run run source 20 (map data_wave values)) k d).wave) ≡ true)
    × ((get_or (contiguous_run run source 20 (map data_wave values)) k d).gap ≡ 20)
like-run run source [] small k d lt = absurd (omega (arith, lt))
like-run run source (v ∷ vs) small zero d lt = (refl, rw (word_of-wave (record { sync = DataSync; value = v }) small.0) refl, refl)
like-run run source (v ∷ vs) small (suc k) d lt = like-run run source vs small.1 k d (omega (arith, lt))

run-long : (run : ℕ) (source : Source) (gap : ℕ) (waves : List ℕ) → length (contiguous_run run source gap waves) ≡ length waves
run-long run source gap [] = refl
run-long run source gap (w ∷ ws) = ap suc (run-long run source 20 ws)

-- data words behind others of their run
pub counts-data : (commands due : ℕ) → due ≤ 2 → (xs : List Sent) (run : ℕ) (source : Source) (values : List ℕ) → AreSmall values → goes_on commands due (counts_of commands due xs) run ≡ true
    → counts_of commands due (xs ++ contiguous_run run source 20 (map data_wave values)) ≡ lengthened (counts_of commands due xs) run (length values)
counts-data commands due few xs run source values small on =
    let ys = contiguous_run run source 20 (map data_wave values) in
    let n = length values in
    let long : length ys ≡ n = run-long run source 20 (map data_wave values) ∙ length-map values data_wave in
    let front : take (length xs) (xs ++ ys) ≡ xs = take_at xs ys (length xs) refl in
    let back : drop (length xs) (xs ++ ys) ≡ ys = drop_at xs ys (length xs) refl in
    let whole : take (length xs + n) (xs ++ ys) ≡ xs ++ ys = take_all (length xs + n) (xs ++ ys) (omega (arith, length-append xs ys, long)) in
    ap (counts_of commands due) (sym whole)
    ∙ counts_of-like commands due few (xs ++ ys) (length xs) run n (omega (arith, length-append xs ys, long)) (ap (λ zs. goes_on commands due (counts_of commands due zs) run) front ∙ on)
    (λ k d lt. rw back (like-run run source values small k d lt))
    ∙ ap (λ zs. lengthened (counts_of commands due zs) run n) front

pub none-below : (due : ℕ) → nat_lt due 0 ≡ false
none-below due = grind (arith, nat_tests)

abbrev pub nothing_wrong : ℕ → Option Came → Option Came → TalkCounts
nothing_wrong controllers one two = record { controllers = controllers; one = one; two = two; beyond = false; unsound = false; other_sync = false; paused = false }

-- the same, where this is known of pauses
abbrev pub nothing_but : Bool → ℕ → Option Came → Option Came → TalkCounts
nothing_but paused controllers one two = record { controllers = controllers; one = one; two = two; beyond = false; unsound = false; other_sync = false; paused = paused }

pub neither : (a b : Bool) → ((a && false) || (b && false)) ≡ false
neither a b = ap (λ x. x || (b && false)) (and_false a) ∙ and_false b

abbrev first_word : ℕ → ℕ → Sent
first_word g c = record { wave = command_wave c; gap = g; run = 0; source = Controller }

counts-but : (due g c : ℕ) → c < 2 ^ 16 → counts_of 1 due (first_word g c ∷ []) ≡ nothing_but ((nat_lt 0 due && false) || (nat_lt 1 due && false)) 1 None None
unfolding counts_of
counts-but due g c small = rw (word_of-wave (record { sync = CommandSync; value = c }) small, none-below due) refl

counts-first : (due g c : ℕ) → c < 2 ^ 16 → counts_of 1 due (first_word g c ∷ []) ≡ nothing_wrong 1 None None
counts-first due g c small = counts-but due g c small ∙ ap (λ b. nothing_but b 1 None None) (neither (nat_lt 0 due) (nat_lt 1 due))

-- a command and its data words
pub counts-controller : (due g c : ℕ) (values : List ℕ) → due ≤ 2 → c < 2 ^ 16 → AreSmall values
    → counts_of 1 due (contiguous_run 0 Controller g (command_wave c ∷ map data_wave values)) ≡ nothing_wrong (1 + length values) None None
counts-controller due g c values few small words =
    let one = counts-first due g c small in
    counts-data 1 due few (first_word g c ∷ []) 0 Controller values words (ap (λ s. goes_on 1 due s 0) one) ∙ ap (λ s. lengthened s 0 (length values)) one

abbrev pub came : ℕ → ℕ → List ℕ → Came
came gap status values = record { gap = gap; first = Some (record { sync = CommandSync; value = status }); count = 1 + length values }

-- and then a reply
pub counts-reply : (n address gap status : ℕ) (values : List ℕ) (xs : List Sent) → status < 2 ^ 16 → AreSmall values → counts_of 1 1 xs ≡ nothing_wrong n None None
    → counts_of 1 1 (xs ++ contiguous_run 1 (Terminal address) gap (command_wave status ∷ map data_wave values)) ≡ nothing_wrong n (Some (came gap status values)) None
counts-reply n address gap status values xs small words is =
    let w : Sent = record { wave = command_wave status; gap = gap; run = 1; source = Terminal address } in
    let ys = contiguous_run 1 (Terminal address) 20 (map data_wave values) in
    let few : 1 ≤ 2 = omega arith in
    let one : counts_of 1 1 (xs ++ w ∷ []) ≡ nothing_wrong n (Some (came gap status [])) None =
    counts_of-push 1 1 few xs w ∙ ap (λ s. noted 1 1 s w) is ∙ noted-first w in
    ap (counts_of 1 1) (sym (append_assoc xs (w ∷ []) ys))
    ∙ counts-data 1 1 few (xs ++ w ∷ []) 1 (Terminal address) values words (ap (λ s. goes_on 1 1 s 1) one) ∙ ap (λ s. lengthened s 1 (length values)) one
  where
    noted-first : (w : Sent) → noted 1 1 (nothing_wrong n None None) (record { wave = command_wave status; gap = gap; run = 1; source = Terminal address }) ≡ nothing_wrong n (Some (came gap status [])) None
    noted-first w =
        let only : noted 1 1 (nothing_wrong n None None) (record { wave = command_wave status; gap = gap; run = 1; source = Terminal address }) ≡ nothing_but (not (gap == 20) && false) n (Some (came gap status [])) None =
        rw (word_of-wave (record { sync = CommandSync; value = status }) small) refl in
        only ∙ ap (λ b. nothing_but b n (Some (came gap status [])) None) (and_false (not (gap == 20)))
