-- Words that one station hears one after the other, and words that all hear.
use Rattle.std.proofs.Common.{◌≡◌, ℕ, zero, suc, List, [], ◌∷◌, ◌++◌, map, take, drop, length, refl, sym, ap, ◌∙◌, true, false, Bool, ◌||◌, None, append-nil, arith}
use Rattle.std.specs.Prelude.{◌==◌, ◌&&◌, Option, Some, if◌then◌else◌}
use Rattle.std.specs.Option.{option_map, option_and_then, is_some}
use Rattle.std.proofs.lemmas.List.{take-append-drop, length-map}
use Rattle.mil_word.specs.declared.Line.{Line}
use Rattle.mil_word.specs.declared.Word.{Word}
use Rattle.mil_word.specs.Wave.{word_of}
use Rattle.mil_word.specs.Fields.{address_of, is_broadcast}
use Rattle.mil_word.specs.Words.{command_in, command_wave, data_wave, is_command_sync, value_if}
use Rattle.mil_terminal.specs.declared.events.Event.TheVariants.{Heard}
use Rattle.mil_terminal.specs.History.{History}
use Rattle.mil_terminal.specs.Host.{is_deaf, is_off, takes_broadcast}
use Rattle.mil_terminal.specs.Windows.{is_to, opens}
use Rattle.mil_bus.specs.declared.talks.Sent.{Sent}
use Rattle.mil_terminal.specs.Station.{Station, after}
use Rattle.mil_terminal.specs.Runs.{heard, after_all}
use Rattle.mil_bus.specs.declared.talks.Source.{Source}
use Rattle.mil_bus.specs.Exchange.{misses, sends, hearing, all_hearing, contiguous_run}
use Rattle.mil_bus.specs.Index.{is_command_to}
use Rattle.mil_bus.specs.Wholes.{run_waves}
use Rattle.mil_bus.specs.DataRuns.{hearing_all, run_words, gap_at, run_from}
use Rattle.mil_bus.specs.declared.talk_runs.Run.{Run}
use Rattle.mil_bus.proofs.Indexing.{hearing-own}

map_same : (f : Station → Station) → ((s : Station) → f s ≡ s) → (xs : List Station) → xs ≡ map f xs
map_same f same [] = refl
map_same f same (x ∷ xs) =
    let first : x ≡ f x = sym (same x) in
    let rest = map_same f same xs in
    cc

map_both : (f g h : Station → Station) → ((s : Station) → g (f s) ≡ h s) → (xs : List Station) → map g (map f xs) ≡ map h xs
map_both f g h same [] = refl
map_both f g h same (x ∷ xs) =
    let first = same x in
    let rest = map_both f g h same xs in
    cc

all_hearing-map : (line : Line) (ws : List Sent) (xs : List Station) → all_hearing line ws xs ≡ map (hearing_all line ws) xs
all_hearing-map line [] xs = map_same (hearing_all line []) (λ s. refl) xs
all_hearing-map line (w ∷ ws) xs =
    all_hearing-map line ws (map (hearing line w) xs) ∙ map_both (hearing line w) (hearing_all line ws) (hearing_all line (w ∷ ws)) (λ s. refl) xs

all_hearing-append : (line : Line) (vs ws : List Sent) (xs : List Station) → all_hearing line (vs ++ ws) xs ≡ all_hearing line ws (all_hearing line vs xs)
all_hearing-append line [] ws xs = refl
all_hearing-append line (v ∷ vs) ws xs = all_hearing-append line vs ws (map (hearing line v) xs)

-- words up to a place, and then those behind it
pub all_hearing-cut : (line : Line) (n : ℕ) (ws : List Sent) (xs : List Station) → map (hearing_all line (drop n ws)) (all_hearing line (take n ws) xs) ≡ all_hearing line ws xs
all_hearing-cut line n ws xs =
    sym (all_hearing-map line (drop n ws) (all_hearing line (take n ws) xs)) ∙ sym (all_hearing-append line (take n ws) (drop n ws) xs)
    ∙ ap (λ vs. all_hearing line vs xs) (take-append-drop n ws)

pub hearing_all-own : (line : Line) (ws : List Sent) (s : Station) → (hearing_all line ws s).own ≡ s.own
hearing_all-own line [] s = refl
hearing_all-own line (w ∷ ws) s = hearing_all-own line ws (hearing line w s) ∙ hearing-own line w s

-- a word that is no command opens no window
pub opens-none : (own : ℕ) (line : Line) (wave gap : ℕ) (past : History) → command_in wave ≡ None → opens own (Heard line wave gap) past ≡ false
opens-none own line wave gap past none = rw none refl

-- ---- the words of a run

gap_at-same : (place : ℕ) → gap_at place 20 ≡ 20
gap_at-same zero = refl
gap_at-same (suc place) = refl

words_of-append : (number : ℕ) (source : Source) (gap : ℕ) (vs ws : List ℕ)
    → contiguous_run number source gap vs ++ contiguous_run number source (gap_at (length vs) gap) ws ≡ contiguous_run number source gap (vs ++ ws)
words_of-append number source gap [] ws = refl
words_of-append number source gap (v ∷ vs) ws =
    ap (λ xs. record { wave = v; gap = gap; run = number; source = source } ∷ xs)
    (ap (λ g. contiguous_run number source 20 vs ++ contiguous_run number source g ws) (sym (gap_at-same (length vs))) ∙ words_of-append number source 20 vs ws)

-- the commands of a run, and then its data words
pub run-parts : (line : Line) (run : Run) (cs vs : List ℕ) (xs : List Station)
    → map (hearing_all line (run_words (run_from (length cs) run) (map data_wave vs))) (all_hearing line (run_words run (map command_wave cs)) xs) ≡ all_hearing line (run_words run (run_waves cs vs)) xs
run-parts line run cs vs xs =
    let first = contiguous_run run.number run.source run.gap (map command_wave cs) in
    let rest = contiguous_run run.number run.source (gap_at (length cs) run.gap) (map data_wave vs) in
    sym (all_hearing-map line rest (all_hearing line first xs)) ∙ sym (all_hearing-append line first rest xs)
    ∙ ap (λ n. all_hearing line (first ++ contiguous_run run.number run.source (gap_at n run.gap) (map data_wave vs)) xs) (sym (length-map cs command_wave))
    ∙ ap (λ ws. all_hearing line ws xs) (words_of-append run.number run.source run.gap (map command_wave cs) (map data_wave vs))

-- a run of commands alone
pub run-commands : (line : Line) (run : Run) (cs vs : List ℕ) (xs : List Station) → length vs ≡ 0
    → all_hearing line (run_words run (map command_wave cs)) xs ≡ all_hearing line (run_words run (run_waves cs vs)) xs
run-commands line run cs [] xs none = ap (λ ws. all_hearing line (run_words run ws) xs) (sym (append-nil (map command_wave cs)))
run-commands line run cs (v ∷ vs) xs none = absurd (omega (arith, none))

hearing-missed : (line : Line) (w : Sent) (s : Station) → misses line w.source s ≡ true → hearing line w s ≡ s
hearing-missed line w s missed = rw missed refl

hearing-other : (line : Line) (w : Sent) (s : Station) → misses line w.source s ≡ false → hearing line w s ≡ after s (Heard line w.wave w.gap)
hearing-other line w s other = rw other refl

-- a word changes nothing of which words a station misses
misses-on : (line : Line) (source : Source) (wave gap : ℕ) (s : Station) → misses line source (after s (Heard line wave gap)) ≡ misses line source s
misses-on line source wave gap s = go (is_off s.history)
  where
    go : (b : Bool) → (sends source s.own || is_deaf line (if b then s.history else Heard line wave gap ∷ s.history)) ≡ misses line source s
    go true = refl
    go false = refl

missed_go : (line : Line) (number : ℕ) (source : Source) (gap : ℕ) (waves : List ℕ) (s : Station) → misses line source s ≡ true → hearing_all line (contiguous_run number source gap waves) s ≡ s
missed_go line number source gap [] s missed = refl
missed_go line number source gap (w ∷ ws) s missed =
    ap (hearing_all line (contiguous_run number source 20 ws)) (hearing-missed line (record { wave = w; gap = gap; run = number; source = source }) s missed) ∙ missed_go line number source 20 ws s missed

heard_go : (line : Line) (number : ℕ) (source : Source) (gap : ℕ) (waves : List ℕ) (s : Station) → misses line source s ≡ false
    → hearing_all line (contiguous_run number source gap waves) s ≡ after_all s (heard line gap waves)
heard_go line number source gap [] s other = refl
heard_go line number source gap (w ∷ ws) s other =
    ap (hearing_all line (contiguous_run number source 20 ws)) (hearing-other line (record { wave = w; gap = gap; run = number; source = source }) s other)
    ∙ heard_go line number source 20 ws (after s (Heard line w gap)) (misses-on line source w gap s ∙ other)

-- a station does not hear what it sends, nor anything on a line where it is deaf
pub run-missed : (line : Line) (run : Run) (waves : List ℕ) (s : Station) → misses line run.source s ≡ true → s ≡ hearing_all line (run_words run waves) s
run-missed line run waves s missed = sym (missed_go line run.number run.source run.gap waves s missed)

pub run-heard : (line : Line) (run : Run) (waves : List ℕ) (s : Station) → misses line run.source s ≡ false → after_all s (heard line run.gap waves) ≡ hearing_all line (run_words run waves) s
run-heard line run waves s other = sym (heard_go line run.number run.source run.gap waves s other)
