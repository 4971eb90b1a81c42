-- A transfer from one terminal to all others: the sender replies, and the others hear it and do not.
use Rattle.std.proofs.Common.{◌≡◌, ℕ, ◌-◌, ◌%◌, ◌<◌, ◌≤◌, ◌^◌, ◌==◌, Bool, true, false, ◌&&◌, ◌||◌, List, [], ◌∷◌, ◌++◌, map, length, refl, sym, ap, subst, ◌∙◌, arith, Some, None}
use Rattle.std.specs.Prelude.{not, nat_le, if◌then◌else◌}
use Rattle.std.specs.List.{AllByRecursion}
use Rattle.std.proofs.lemmas.List.{length-map}
use Rattle.std.proofs.lemmas.Bool.{eq-eqb}
use Rattle.std.proofs.lemmas.Bool.Decides.{nat_tests}
use Rattle.mil_word.specs.declared.Line.{Line}
use Rattle.mil_word.specs.Words.{same_line, command_wave, data_wave}
use Rattle.mil_word.specs.Fields.{address_of, is_broadcast}
use Rattle.mil_message.specs.declared.forms.Due.{Due}
use Rattle.mil_message.specs.declared.forms.Form.{Form}
use Rattle.mil_message.specs.Forms.{controller_waves}
use Rattle.mil_terminal.specs.declared.events.Event.{Event}
use Rattle.mil_terminal.specs.declared.events.Event.TheVariants.{Heard, Quiet}
use Rattle.mil_terminal.specs.History.{History}
use Rattle.mil_terminal.specs.Host.{told_deaf, is_deaf, is_off, is_busy, takes_broadcast, response_gap}
use Rattle.mil_terminal.proofs.Passing.{words_on, words_off, quiet_on, quiet_off}
use Rattle.mil_terminal.specs.Station.{Station, after}
use Rattle.mil_terminal.specs.Runs.{heard, after_all}
use Rattle.mil_terminal.specs.Windows.{Window, is_to, opening, latest_window, ended_by}
use Rattle.mil_terminal.specs.Status.{status}
use Rattle.mil_terminal.specs.Verdicts.{words_due}
use Rattle.mil_terminal.specs.Registers.{is_transmitter_on}
use Rattle.mil_terminal.specs.Replies.{data_sent}
use Rattle.mil_terminal.proofs.Ends.{window_opened, nothing_open, cut_short, latest_some}
use Rattle.mil_bus.specs.declared.talks.Source.TheVariants.{Controller, Terminal}
use Rattle.mil_bus.specs.declared.talks.Sent.{Sent}
use Rattle.mil_bus.specs.declared.talk_runs.Run.{Run}
use Rattle.mil_bus.specs.Actions.{station_of}
use Rattle.mil_bus.specs.Exchange.{BusState, Offer, contiguous_run, quieted, answer, first_reply, next_offer, all_hearing, quiet_after, controllers, last_on, gap_since, talk_start, exchange_of, talk_of}
use Rattle.mil_bus.specs.DataRuns.{hearing_all}
use Rattle.mil_bus.specs.Index.{IsClosed}
use Rattle.mil_bus.proofs.Answering.{answer-deaf, answer-none}
use Rattle.mil_bus.proofs.DataRuns.{run-missed, run-heard, hearing_all-own}
use Rattle.mil_bus.proofs.Indexing.{quieted-own}
use Rattle.judge_laws.specs.Messages.{AreReady, CanReply, IsAnswered}
use Rattle.judge_laws.proofs.Words.{AreSmall, command-read, data-no_commands, all-through}
use Rattle.judge_laws.proofs.Openings.{opens-by, to-own, other-address, window, words-come}
use Rattle.judge_laws.proofs.Turns.{turn-then, last-turn, nobody, all-hear}
use Rattle.judge_laws.proofs.Rest.{rests-word, closed-rests, set-stays}
use Rattle.judge_laws.proofs.Statuses.{status-is}
use Rattle.judge_laws.proofs.Stations.{Idle, idle-answer, idle-quiet, idle-run, opens-other, finds-offer, found-one, are-low}
use Rattle.judge_laws.proofs.Replying.{low_words, low-small, gives-told, rests-then, free-then, on-stays}
use Rattle.judge_laws.proofs.Receiving.{item-comes, heard-on, quiet-on}
use Rattle.judge_laws.proofs.OneReply.{other-called, turned, zip, each, of-one}
use Rattle.judge_laws.proofs.Between.{commands_run, after_commands, hears-commands, off-commands, three-maps}

-- a station that a command to all has bound: it hears nothing on the line, or no window is open, as at one that is off or
-- takes no broadcast, or it has the window of that command
data IsBound (line : Line) (c : ℕ) (x : Station) : Type 0 where
  hears_nothing : is_deaf line x.history ≡ true → IsBound line c x
  rests : Idle x → IsBound line c x
  has_window : (items : List Event) → is_deaf line x.history ≡ false → latest_window x.own x.history ≡ Some (window line c items) → IsBound line c x

bound-answer : (line : Line) (c : ℕ) (x : Station) → (address_of c == x.own) ≡ false → IsBound line c x → answer line x ≡ None
bound-answer line c x other (hears_nothing deaf) = answer-deaf line x deaf
bound-answer line c x other (rests idle) = idle-answer line x idle
bound-answer line c x other (has_window items hears is) = answer-none line x (other-address x.own line c items x.history is other)

bound-quiet : (line : Line) (c : ℕ) (x : Station) → IsBound line c x → IsBound line c (quieted line x)
bound-quiet line c x (hears_nothing deaf) = rw deaf (hears_nothing deaf)
bound-quiet line c x (rests idle) = rests (idle-quiet line x idle)
bound-quiet line c x (has_window items hears is) = rw hears (when (is_off x.history) refl)
  where
    when : (b : Bool) → is_off x.history ≡ b → IsBound line c (after x (Quiet line))
    when true off = subst (IsBound line c) (sym (quiet_off x line off)) (has_window items hears is)
    when false on =
        subst (IsBound line c) (sym (quiet_on x line on))
        (has_window (items ++ Quiet line ∷ []) hears (item-comes x.own line c (Quiet line) items x.history refl refl is (quiet-on line c items)))

bound-run : (line : Line) (c run address gap st : ℕ) (values : List ℕ) (x : Station) → st < 2 ^ 16 → AreSmall values → (address_of st == x.own || is_broadcast st) ≡ false → (address == x.own) ≡ false
    → IsBound line c x → IsBound line c (hearing_all line (contiguous_run run (Terminal address) gap (command_wave st ∷ map data_wave values)) x)
bound-run line c run address gap st values x small words other away (hears_nothing deaf) =
    subst (IsBound line c) (run-missed line (record { number = run; source = Terminal address; gap = gap }) (command_wave st ∷ map data_wave values) x (either (address == x.own) (is_deaf line x.history) deaf)) (hears_nothing deaf)
  where
    either : (a b : Bool) → b ≡ true → (a || b) ≡ true
    either true b is = refl
    either false b is = is
bound-run line c run address gap st values x small words other away (rests idle) = rests (idle-run line run (Terminal address) gap st values x small words (λ _. other) idle)
bound-run line c run address gap st values x small words other away (has_window items hears is) =
    subst (IsBound line c) (run-heard line (record { number = run; source = Terminal address; gap = gap }) waves x (neither (address == x.own) (is_deaf line x.history) away hears)) (when (is_off x.history) refl)
  where
    waves : List ℕ
    waves = command_wave st ∷ map data_wave values

    e : Event
    e = Heard line (command_wave st) gap

    neither : (a b : Bool) → a ≡ false → b ≡ false → (a || b) ≡ false
    neither a b x y = rw (x, y) refl

    when : (b : Bool) → is_off x.history ≡ b → IsBound line c (after_all x (heard line gap waves))
    when true off = subst (IsBound line c) (sym (words_off x line gap waves off)) (has_window items hears is)
    when false on =
        subst (IsBound line c) (sym (words_on x line gap waves on))
        (has_window ((items ++ e ∷ []) ++ heard line 20 (map data_wave values)) (set-stays (told_deaf line) false line gap waves x.history ∙ hears)
        (words-come x.own line 20 (map data_wave values) (e ∷ x.history) c (items ++ e ∷ []) (data-no_commands values words)
        (item-comes x.own line c e items x.history refl (opens-other x.own line st gap x.history small other) is (heard-on line c (command_wave st) gap items))))

-- a command to all is to a terminal that takes it, and to no other
called-all : (c own : ℕ) (h : History) → address_of c ≡ 31 → takes_broadcast h ≡ true → is_to own h c ≡ true
called-all c own h is takes = right (address_of c == own) (is_broadcast c) (takes_broadcast h) (ap (λ n. n == 31) is) takes
  where
    right : (a b t : Bool) → b ≡ true → t ≡ true → (a || b && t) ≡ true
    right true b t x y = refl
    right false true true x y = refl
    right false true false x y = cc
    right false false t x y = cc

not-taken : (own : ℕ) (line : Line) (c gap : ℕ) (h : History) → c < 2 ^ 16 → (address_of c == own) ≡ false → takes_broadcast h ≡ false → opening own (Heard line (command_wave c) gap) h ≡ None
not-taken own line c gap h small other takes = rw (command-read c small, other, takes, and-no) refl
  where
    and-no : (b : Bool) → (b && false) ≡ false
    and-no true = refl
    and-no false = refl

bound-commands : (line : Line) (g c1 c2 : ℕ) (x : Station) → c1 < 2 ^ 16 → c2 < 2 ^ 16 → address_of c1 ≡ 31 → (address_of c1 == x.own) ≡ false → (address_of c2 == x.own || is_broadcast c2) ≡ false → Idle x
    → IsBound line c1 (hearing_all line (commands_run g c1 c2) x)
bound-commands line g c1 c2 x small1 small2 to_all not_mine other idle = go (is_deaf line x.history) refl
  where
    first : Event
    first = Heard line (command_wave c1) g

    taken : is_deaf line x.history ≡ false → (b : Bool) → takes_broadcast x.history ≡ b → IsBound line c1 (record { own = x.own; history = after_commands line g c1 c2 x.history })
    taken hears true takes =
        has_window (Heard line (command_wave c2) 20 ∷ []) hears
        (item-comes x.own line c1 (Heard line (command_wave c2) 20) [] (first ∷ x.history) refl (opens-other x.own line c2 20 (first ∷ x.history) small2 other)
        (window_opened x.own first x.history (line, c1) (opens-by x.own line c1 g x.history small1 (called-all c1 x.own x.history to_all takes))) (heard-on line c1 (command_wave c2) 20 []))
    taken hears false takes =
        rests (rests-word x.own line (command_wave c2) 20 (first ∷ x.history) (opens-other x.own line c2 20 (first ∷ x.history) small2 other)
        (rests-word x.own line (command_wave c1) g x.history (not-taken x.own line c1 g x.history small1 not_mine takes) idle))

    when : is_deaf line x.history ≡ false → (b : Bool) → is_off x.history ≡ b → IsBound line c1 (hearing_all line (commands_run g c1 c2) x)
    when hears true off = subst (IsBound line c1) (sym (off-commands line g c1 c2 x off hears)) (rests idle)
    when hears false on = subst (IsBound line c1) (sym (hears-commands line g c1 c2 x on hears)) (taken hears (takes_broadcast x.history) refl)

    go : (b : Bool) → is_deaf line x.history ≡ b → IsBound line c1 (hearing_all line (commands_run g c1 c2) x)
    go true deaf = subst (IsBound line c1) (run-missed line (record { number = 0; source = Controller; gap = g }) (command_wave c1 ∷ command_wave c2 ∷ []) x deaf) (hears_nothing deaf)
    go false hears = when hears (is_off x.history) refl

-- a window that is cut short switches no transmitter
not-asked : (b x y : Bool) → (if false || (b && (false || false)) then x else y) ≡ y
not-asked true x y = refl
not-asked false x y = refl

on-cut : (own : ℕ) (l : Line) (e : Event) (h : History) (w : Window) → ended_by own e h ≡ Some (record { window = w; by_quiet = false; before = h }) → is_transmitter_on own l (e ∷ h) ≡ is_transmitter_on own l h
unfolding is_transmitter_on
on-cut own l e h w ends = latest_some own _ _ true e h (record { window = w; by_quiet = false; before = h }) ends ∙ not-asked (not (same_line w.line l)) _ _

abbrev nat_low : Station → Type 0
nat_low x = nat_le x.own 30 ≡ true

not-31 : (c own : ℕ) → address_of c ≡ 31 → nat_le own 30 ≡ true → (address_of c == own) ≡ false
not-31 c own is low = ap (λ n. n == own) is ∙ apart own low
  where
    apart : (n : ℕ) → nat_le n 30 ≡ true → (31 == n) ≡ false
    apart n le = grind (arith, nat_tests)

first-answer : (line : Line) (g c1 c2 a : ℕ) (o : Offer) (s x : Station) → c1 < 2 ^ 16 → c2 < 2 ^ 16 → address_of c1 ≡ 31 → address_of c2 ≡ a → a ≤ 30 → answer line (hearing_all line (commands_run g c1 c2) s) ≡ Some o
    → ((x.own == a) ≡ true → x ≡ s) → nat_low x → Idle x → answer line (hearing_all line (commands_run g c1 c2) x) ≡ (if x.own == a then Some o else None)
first-answer line g c1 c2 a o s x small1 small2 to_all second_is low given one below idle = go (x.own == a) refl
  where
    own-kept : (hearing_all line (commands_run g c1 c2) x).own ≡ x.own
    own-kept = hearing_all-own line (commands_run g c1 c2) x

    go : (k : Bool) → (x.own == a) ≡ k → answer line (hearing_all line (commands_run g c1 c2) x) ≡ (if x.own == a then Some o else None)
    go true same = ap (λ (y : Station). answer line (hearing_all line (commands_run g c1 c2) y)) (one same) ∙ given ∙ sym (ap (λ k. if k then Some o else None) same)
    go false other =
        bound-answer line c1 (hearing_all line (commands_run g c1 c2) x) (ap (λ n. address_of c1 == n) own-kept ∙ not-31 c1 x.own to_all below)
        (bound-commands line g c1 c2 x small1 small2 to_all (not-31 c1 x.own to_all below) (other-called c2 a x.own second_is low other) idle)
        ∙ sym (ap (λ k. if k then Some o else None) other)

last-answer : (line : Line) (g c1 c2 a time st : ℕ) (vs : List ℕ) (s x : Station) → c1 < 2 ^ 16 → c2 < 2 ^ 16 → address_of c1 ≡ 31 → address_of c2 ≡ a → a ≤ 30 → st < 2 ^ 16 → AreSmall vs → address_of st ≡ a → s.own ≡ a
    → Idle (quieted line (hearing_all line (commands_run g c1 c2) s)) → ((x.own == a) ≡ true → x ≡ s) → nat_low x → Idle x
    → answer line (hearing_all line (contiguous_run 1 (Terminal a) time (command_wave st ∷ map data_wave vs)) (quieted line (hearing_all line (commands_run g c1 c2) x))) ≡ None
last-answer line g c1 c2 a time st vs s x small1 small2 to_all second_is low small words st_mine own rests_then one below idle = go (x.own == a) refl
  where
    y : Station
    y = quieted line (hearing_all line (commands_run g c1 c2) x)

    kept : y.own ≡ x.own
    kept = quieted-own line (hearing_all line (commands_run g c1 c2) x) ∙ hearing_all-own line (commands_run g c1 c2) x

    run : Run
    run = record { number = 1; source = Terminal a; gap = time }

    left : (p q : Bool) → p ≡ true → (p || q) ≡ true
    left p q is = rw is refl

    own-word : (z : Station) → z.own ≡ a → Idle z → answer line (hearing_all line (contiguous_run 1 (Terminal a) time (command_wave st ∷ map data_wave vs)) z) ≡ None
    own-word z same idle =
        ap (answer line) (sym (run-missed line run (command_wave st ∷ map data_wave vs) z (left (a == z.own) (is_deaf line z.history) (eq-eqb a z.own (sym same))))) ∙ idle-answer line z idle

    sender-own : (quieted line (hearing_all line (commands_run g c1 c2) s)).own ≡ a
    sender-own = quieted-own line (hearing_all line (commands_run g c1 c2) s) ∙ hearing_all-own line (commands_run g c1 c2) s ∙ own

    go : (k : Bool) → (x.own == a) ≡ k → answer line (hearing_all line (contiguous_run 1 (Terminal a) time (command_wave st ∷ map data_wave vs)) y) ≡ None
    go true same =
        ap (λ (z : Station). answer line (hearing_all line (contiguous_run 1 (Terminal a) time (command_wave st ∷ map data_wave vs)) (quieted line (hearing_all line (commands_run g c1 c2) z)))) (one same)
        ∙ own-word (quieted line (hearing_all line (commands_run g c1 c2) s)) sender-own rests_then
    go false other =
        let away : (y.own == a) ≡ false = ap (λ n. n == a) kept ∙ other in
        let z = hearing_all line (contiguous_run 1 (Terminal a) time (command_wave st ∷ map data_wave vs)) y in
        let z_own : z.own ≡ x.own = hearing_all-own line (contiguous_run 1 (Terminal a) time (command_wave st ∷ map data_wave vs)) y ∙ kept in
        bound-answer line c1 z (ap (λ n. address_of c1 == n) z_own ∙ not-31 c1 x.own to_all below)
        (bound-run line c1 1 a time st vs y small words (other-called st a y.own st_mine low away) (turned y.own a away)
        (bound-quiet line c1 (hearing_all line (commands_run g c1 c2) x) (bound-commands line g c1 c2 x small1 small2 to_all (not-31 c1 x.own to_all below) (other-called c2 a x.own second_is low other) idle)))

-- the two commands switch no transmitter of the sender
on-then : (line : Line) (g c1 c2 : ℕ) (s : Station) → c1 < 2 ^ 16 → c2 < 2 ^ 16 → address_of c1 ≡ 31 → address_of c2 ≡ s.own → (address_of c1 == s.own) ≡ false → Idle s → (b : Bool) → takes_broadcast s.history ≡ b
    → is_transmitter_on s.own line (Heard line (command_wave c2) 20 ∷ Heard line (command_wave c1) g ∷ s.history) ≡ is_transmitter_on s.own line s.history
on-then line g c1 c2 s small1 small2 to_all mine not_mine idle true takes =
    let first : Event = Heard line (command_wave c1) g in
    let second : Event = Heard line (command_wave c2) 20 in
    let opened = window_opened s.own first s.history (line, c1) (opens-by s.own line c1 g s.history small1 (called-all c1 s.own s.history to_all takes)) in
    let cut = cut_short s.own second (first ∷ s.history) (window line c1 []) (line, c2) (opens-by s.own line c2 20 (first ∷ s.history) small2 (to-own s.own c2 (first ∷ s.history) mine)) opened refl in
    on-cut s.own line second (first ∷ s.history) (window line c1 []) cut ∙ on-stays s.own line first s.history refl (nothing_open s.own first s.history idle)
on-then line g c1 c2 s small1 small2 to_all mine not_mine idle false takes =
    let first : Event = Heard line (command_wave c1) g in
    let rests_first = rests-word s.own line (command_wave c1) g s.history (not-taken s.own line c1 g s.history small1 not_mine takes) idle in
    on-stays s.own line (Heard line (command_wave c2) 20) (first ∷ s.history) refl (nothing_open s.own (Heard line (command_wave c2) 20) (first ∷ s.history) rests_first)
    ∙ on-stays s.own line first s.history refl (nothing_open s.own first s.history idle)

pub all-reply : (b : BusState) (line : Line) (form : Form) (gap c1 c2 count : ℕ) (due : Due) (s : Station) → controller_waves form ≡ command_wave c1 ∷ command_wave c2 ∷ []
    → c1 < 2 ^ 16 → c2 < 2 ^ 16 → address_of c1 ≡ 31 → address_of c2 ≡ due.address → due.address ≤ 30 → words_due c2 ≡ 0 → due.words ≡ count → count ≤ 32 → AreReady b.stations
    → station_of due.address b.stations ≡ Some s → CanReply line c2 s → ((h : History) → is_busy h ≡ false → length (data_sent s.own c2 h) ≡ count) → IsAnswered b line form gap due
unfolding talk_of exchange_of
all-reply b line form gap c1 c2 count due s is small1 small2 to_all second_is low announced words few ready found can many =
    let a = due.address in
    let g = gap_since (last_on line b.talks) (talk_start b gap) in
    let f = found-one a s b.stations ready.apart found in
    let idle : AllByRecursion Idle b.stations = each IsClosed Idle closed-rests b.stations ready.at_rest in
    let idle_one : Idle s = of-one Idle a s b.stations idle f.one f.there in
    let lows = are-low b.stations ready.apart in
    let mine : address_of c2 ≡ s.own = second_is ∙ sym f.own in
    let first : Event = Heard line (command_wave c1) g in
    let second : Event = Heard line (command_wave c2) 20 in
    let low_own : nat_le s.own 30 ≡ true = grind (arith, nat_tests, f.own) in
    let tells : is_transmitter_on s.own line (second ∷ first ∷ s.history) ≡ true =
    on-then line g c1 c2 s small1 small2 to_all mine (not-31 c1 s.own to_all low_own) idle_one (takes_broadcast s.history) refl ∙ can.sends in
    let h = after_commands line g c1 c2 s.history in
    let st = status s.own (Quiet line ∷ h) in
    let vs = low_words (data_sent s.own c2 h) in
    let vs_small = low-small (data_sent s.own c2 h) in
    let s_is = status-is s.own (Quiet line ∷ h) (omega (arith, f.own, low)) in
    let st_mine : address_of st ≡ a = s_is.address ∙ f.own in
    let time = response_gap s.history in
    let o : Offer = record { source = Terminal a; gap = time; waves = command_wave st ∷ map data_wave vs } in
    let run0 = commands_run g c1 c2 in
    let run1 = contiguous_run 1 (Terminal a) time (command_wave st ∷ map data_wave vs) in
    let given : answer line (hearing_all line run0 s) ≡ Some o =
    ap (answer line) (hears-commands line g c1 c2 s can.on can.hears)
    ∙ gives-told s.own line c2 20 [] (first ∷ s.history) small2 tt mine can.on can.legal announced tells can.hears can.speaks
    ∙ ap (λ n. let x : Offer = record { source = Terminal n; gap = time; waves = command_wave st ∷ map data_wave vs } in Some x) f.own in
    let all = zip (λ (x : Station). nat_low x) (λ (x : Station). Idle x × ((x.own == a) ≡ true → x ≡ s)) b.stations lows (zip Idle (λ (x : Station). (x.own == a) ≡ true → x ≡ s) b.stations idle f.one) in
    let offers : AllByRecursion (λ (x : Station). answer line (hearing_all line run0 x) ≡ (if x.own == a then Some o else None)) b.stations =
    each (λ (x : Station). nat_low x × (Idle x × ((x.own == a) ≡ true → x ≡ s))) (λ (x : Station). answer line (hearing_all line run0 x) ≡ (if x.own == a then Some o else None))
    (λ x p. first-answer line g c1 c2 a o s x small1 small2 to_all second_is low given p.1.1 p.0 p.1.0) b.stations all in
    let f1 = λ (x : Station). hearing_all line run1 (quieted line (hearing_all line run0 x)) in
    let sent = contiguous_run 0 Controller g (controller_waves form) in
    let same : sent ≡ run0 = ap (contiguous_run 0 Controller g) is in
    let next : next_offer line sent (all_hearing line sent b.stations) ≡ Some o =
    ap (λ ws. next_offer line ws (all_hearing line ws b.stations)) same
    ∙ ap (first_reply line) (sym (all-hear line run0 b.stations)) ∙ finds-offer line a o (hearing_all line run0) b.stations offers f.there in
    let quiet1 = quiet_after line sent (all_hearing line sent b.stations) in
    let quiet1_is : quiet1 ≡ map (quieted line) (map (hearing_all line run0) b.stations) =
    ap (λ ws. quiet_after line ws (all_hearing line ws b.stations)) same ∙ ap (map (quieted line)) (sym (all-hear line run0 b.stations)) in
    let heard1_is : all_hearing line run1 quiet1 ≡ map f1 b.stations =
    ap (all_hearing line run1) quiet1_is ∙ sym (all-hear line run1 (map (quieted line) (map (hearing_all line run0) b.stations))) ∙ three-maps (hearing_all line run0) (quieted line) (hearing_all line run1) b.stations in
    let sender_rests : Idle (quieted line (hearing_all line run0 s)) =
    subst (λ (y : Station). Idle (quieted line y)) (sym (hears-commands line g c1 c2 s can.on can.hears)) (rw (can.hears, can.on) (rests-then s.own line c2 20 [] (first ∷ s.history) small2 tt mine)) in
    let silent_each : AllByRecursion (λ x. answer line x ≡ None) (map f1 b.stations) =
    all-through f1 (λ (x : Station). nat_low x × (Idle x × ((x.own == a) ≡ true → x ≡ s))) (λ x. answer line x ≡ None)
    (λ x p. last-answer line g c1 c2 a time st vs s x small1 small2 to_all second_is low s_is.below vs_small st_mine f.own sender_rests p.1.1 p.0 p.1.0) b.stations all in
    let silent : first_reply line (all_hearing line run1 quiet1) ≡ None = ap (first_reply line) heard1_is ∙ nobody line (map f1 b.stations) silent_each in
    let many_vs : length vs ≡ count =
    length-map (data_sent s.own c2 h) (λ v. v % 2 ^ 16) ∙ many h (free-then s.own line c2 20 [] (first ∷ s.history) small2 tt mine can.free) in
    let waves0 : length (controller_waves form) ≤ 40 = omega (arith, ap (λ (ws : List ℕ). length ws) is) in
    let long0 : length sent ≡ 2 = ap (λ (ws : List Sent). length ws) same in
    let waves1 : length o.waves ≤ 40 - length sent = omega (arith, length-map vs data_wave, many_vs, long0, few) in
    record {
      time = time;
      status = st;
      values = vs;
      as_due = record {
        no_sooner = can.no_sooner;
        no_later = can.no_later;
        small = s_is.below;
        address = st_mine;
        reserved = s_is.reserved;
        words = vs_small;
        many = many_vs ∙ sym words;
      };
      sent = turn-then 39 0 line (controllers line form (talk_start b gap) b.talks) [] b.stations (Some o) (sent ++ run1) waves0 next (last-turn 38 1 line o sent quiet1 waves1 silent);
    }
