-- The reply of a terminal to a command that is good.
use Rattle.std.proofs.Common.{◌≡◌, ℕ, ◌%◌, ◌<◌, ◌^◌, ◌==◌, true, false, ◌&&◌, ◌||◌, List, [], ◌∷◌, ◌++◌, map, length, refl, ap, ap₂, ◌∙◌, arith, Some, None}
use Rattle.std.specs.Prelude.{not, if◌then◌else◌}
use Rattle.std.specs.List.{flat_map}
use Rattle.std.specs.Option.{option_map}
use Rattle.std.proofs.lemmas.Bool.{eq-eqb}
use Rattle.mil_word.specs.declared.Line.{Line}
use Rattle.mil_word.specs.declared.Sync.TheVariants.{DataSync}
use Rattle.mil_word.specs.Wave.{number, sync_halves, pair, parity, wave_of}
use Rattle.mil_word.specs.Words.{command_wave, data_wave}
use Rattle.mil_word.specs.Fields.{address_of, is_mode, is_transmit, sub_of, code_of, count_of}
use Rattle.mil_word.proofs.Parts.{digits-mod}
use Rattle.mil_terminal.specs.declared.events.Event.{Event}
use Rattle.mil_terminal.specs.declared.events.Event.TheVariants.{Heard, Quiet}
use Rattle.mil_terminal.specs.History.{History}
use Rattle.mil_terminal.specs.Host.{is_power_on, told_illegal, told_illegal_mode, told_off, is_off, told_deaf, told_mute, told_response, told_busy, is_deaf, is_mute, is_busy, response_gap}
use Rattle.mil_terminal.specs.Runs.{heard, met, AreNoCommands}
use Rattle.mil_terminal.specs.Windows.{Window, Ended, is_to, latest_window, ended_by}
use Rattle.mil_terminal.specs.Verdicts.{words_due, is_unknown, is_illegal, verdict, good, is_good}
use Rattle.mil_terminal.specs.Registers.{is_transmitter_on}
use Rattle.mil_terminal.specs.Status.{status}
use Rattle.mil_terminal.specs.Replies.{data_sent, is_answered, answer_to, reply}
use Rattle.mil_terminal.specs.declared.replies.Reply.{Reply}
use Rattle.mil_terminal.proofs.Ends.{with_item, window_on, window_opened, nothing_open, still_open, ends_by_quiet, latest_none}
use Rattle.mil_terminal.proofs.Runs.{first_none, rest_none}
use Rattle.mil_bus.specs.declared.talks.Source.TheVariants.{Terminal}
use Rattle.mil_bus.specs.Exchange.{Offer, offer_of, answer}
use Rattle.judge_laws.proofs.Words.{AreSmall, data-no_commands}
use Rattle.judge_laws.proofs.Openings.{line-itself, opens-not, opens-by, to-own, window, window-of}
use Rattle.judge_laws.proofs.Rest.{Rests, set-stays}
use Rattle.judge_laws.proofs.Shapes.{goes-on, is-over, good-shape}

-- a wave has 16 bits of its value alone
wave-low : (v : ℕ) → data_wave v ≡ data_wave (v % 2 ^ 16)
unfolding wave_of
wave-low v = ap (λ (bits : List ℕ). number (sync_halves DataSync ++ flat_map pair (bits ++ parity bits ∷ []))) (digits-mod 16 v)

abbrev pub low_words : List ℕ → List ℕ
low_words values = map (λ v. v % 2 ^ 16) values

pub waves-low : (values : List ℕ) → map data_wave values ≡ map data_wave (low_words values)
waves-low [] = refl
waves-low (v ∷ vs) =
    let first = wave-low v in
    let rest = waves-low vs in
    cc

pub low-small : (values : List ℕ) → AreSmall (low_words values)
low-small [] = tt
low-small (v ∷ vs) = (omega arith, low-small vs)

-- an event that ends no window switches no transmitter
pub on-stays : (own : ℕ) (l : Line) (e : Event) (h : History) → is_power_on e ≡ false → ended_by own e h ≡ None → is_transmitter_on own l (e ∷ h) ≡ is_transmitter_on own l h
unfolding is_transmitter_on
on-stays own l e h on none = latest_none own _ _ true e h on none

pub heard-push : (line : Line) (xs : List ℕ) (w : ℕ) → heard line 20 xs ++ Heard line w 20 ∷ [] ≡ heard line 20 (xs ++ w ∷ [])
heard-push line [] w = refl
heard-push line (x ∷ xs) w = ap (λ (items : List Event). Heard line x 20 ∷ items) (heard-push line xs w)

on-words : (own : ℕ) (line : Line) (c : ℕ) (l : Line) (xs waves : List ℕ) (h : History) → AreNoCommands 0 waves → latest_window own h ≡ Some (window line c (heard line 20 xs))
    → is_transmitter_on own l (met (heard line 20 waves) h) ≡ is_transmitter_on own l h
on-words own line c l xs [] h none is = refl
on-words own line c l xs (w ∷ ws) h none is =
    let e : Event = Heard line w 20 in
    let opens = opens-not own line w 20 h (first_none w ws none) in
    let now : latest_window own (e ∷ h) ≡ Some (window line c (heard line 20 (xs ++ w ∷ []))) =
    window_on own e h refl opens ∙ ap (option_map (with_item e)) is ∙ rw (line-itself line) refl ∙ ap (λ (items : List Event). Some (window line c items)) (heard-push line xs w) in
    on-words own line c l (xs ++ w ∷ []) ws (e ∷ h) (rest_none w ws none) now
    ∙ on-stays own l e h refl (still_open own e h (window line c (heard line 20 xs)) (window line c (heard line 20 (xs ++ w ∷ []))) opens is now (goes-on own line c 20 xs) (goes-on own line c 20 (xs ++ w ∷ [])))

pub reply-by : (own : ℕ) (line : Line) (past : History) (e : Ended) → is_off past ≡ false → ended_by own (Quiet line) past ≡ Some e → is_answered own e ≡ true
    → reply own line past ≡ Some (answer_to own e (Quiet line ∷ past))
unfolding reply
reply-by own line past e on ends answered = rw (on, ends, answered) refl

-- words change no mark
pub marks-stay : (c : ℕ) (line : Line) (gap : ℕ) (waves : List ℕ) (h : History) → is_illegal c (met (heard line gap waves) h) ≡ is_illegal c h
marks-stay c line gap waves h =
    ap (λ b. is_unknown c || b)
    (ap₂ (λ x y. if is_mode c then x else y) (set-stays (told_illegal_mode (is_transmit c) (code_of c)) false line gap waves h) (set-stays (told_illegal (is_transmit c) (sub_of c) (count_of c)) false line gap waves h))

module _ (own : ℕ) (line : Line) (c gap : ℕ) (values : List ℕ) (h : History) where
  abbrev pub past : History
  past = met (heard line gap (command_wave c ∷ map data_wave values)) h

  abbrev before : Window
  before = window line c (heard line 20 (map data_wave values))

  abbrev now : Window
  now = window line c (heard line 20 (map data_wave values) ++ Quiet line ∷ [])

  abbrev end : Ended
  end = record { window = now; by_quiet = true; before = past }

  module _ (small : c < 2 ^ 16) (words : AreSmall values) (mine : address_of c ≡ own) where
    called : is_to own h c ≡ true
    called = to-own own c h mine

    was-open : latest_window own past ≡ Some before
    was-open = window-of own line c gap (map data_wave values) h small called (data-no_commands values words)

    is-now : latest_window own (Quiet line ∷ past) ≡ Some now
    is-now = window_on own (Quiet line) past refl refl ∙ ap (option_map (with_item (Quiet line))) was-open ∙ rw (line-itself line) refl

    -- after the quiet no window is open
    pub rests-then : Rests own (Quiet line ∷ past)
    rests-then = rw (is-now, is-over own line c (map data_wave values) (data-no_commands values words)) refl

    ends : ended_by own (Quiet line) past ≡ Some end
    ends = ends_by_quiet own (Quiet line) past before now refl was-open is-now (goes-on own line c 20 (map data_wave values)) (is-over own line c (map data_wave values) (data-no_commands values words))

    on : Rests own h → is_transmitter_on own line past ≡ is_transmitter_on own line h
    on rests =
        let e : Event = Heard line (command_wave c) gap in
        on-words own line c line [] (map data_wave values) (e ∷ h) (data-no_commands values words) (window_opened own e h (line, c) (opens-by own line c gap h small called))
        ∙ on-stays own line e h refl (nothing_open own e h rests)

    unmarked : is_illegal c h ≡ false → is_illegal c past ≡ false
    unmarked legal = marks-stay c line gap (command_wave c ∷ map data_wave values) h ∙ legal

    on-still : is_off h ≡ false → is_off past ≡ false
    on-still on_now = set-stays told_off false line gap (command_wave c ∷ map data_wave values) h ∙ on_now

    is-good-now : is_illegal c h ≡ false → words_due c ≡ length values → verdict own end ≡ good
    is-good-now legal due = rw (good-shape own line c values words due, unmarked legal) refl

    replies : is_off h ≡ false → is_illegal c h ≡ false → words_due c ≡ length values → is_transmitter_on own line past ≡ true → reply own line past ≡ Some (answer_to own end (Quiet line ∷ past))
    replies on_now legal due tells =
        let fine = is-good-now legal due in
        let same = eq-eqb (address_of c) own mine in
        let answered : is_answered own end ≡ true = rw (fine, same, tells) refl in
        reply-by own line past end (on-still on_now) ends answered

    abbrev pub sent_back : List ℕ
    sent_back = low_words (data_sent own c past)

    -- what the terminal gives, where its transmitter is on by then
    pub gives-told : is_off h ≡ false → is_illegal c h ≡ false → words_due c ≡ length values → is_transmitter_on own line past ≡ true → is_deaf line h ≡ false → is_mute line h ≡ false
        → answer line (record { own = own; history = past }) ≡ Some (record { source = Terminal own; gap = response_gap h; waves = command_wave (status own (Quiet line ∷ past)) ∷ map data_wave sent_back })
    gives-told on_now legal due tells hears speaks =
        let waves = command_wave c ∷ map data_wave values in
        let deaf : is_deaf line past ≡ false = set-stays (told_deaf line) false line gap waves h ∙ hears in
        let mute : is_mute line past ≡ false = set-stays (told_mute line) false line gap waves h ∙ speaks in
        let said = replies on_now legal due tells in
        let fine = is-good-now legal due in
        let time : response_gap past ≡ response_gap h = set-stays told_response 80 line gap waves h in
        of-reply (answer_to own end (Quiet line ∷ past)) deaf mute said
        ∙ ap (λ g. let o : Offer = record { source = Terminal own; gap = g; waves = command_wave (status own (Quiet line ∷ past)) ∷ map data_wave (if is_good (verdict own end) then data_sent own c past else []) } in Some o) time
        ∙ ap (λ v. let o : Offer = record { source = Terminal own; gap = response_gap h; waves = command_wave (status own (Quiet line ∷ past)) ∷ map data_wave (if is_good v then data_sent own c past else []) } in Some o) fine
        ∙ ap (λ ws. let o : Offer = record { source = Terminal own; gap = response_gap h; waves = command_wave (status own (Quiet line ∷ past)) ∷ ws } in Some o) (waves-low (data_sent own c past))
      where
        of-reply : (r : Reply) → is_deaf line past ≡ false → is_mute line past ≡ false → reply own line past ≡ Some r → answer line (record { own = own; history = past }) ≡ Some (offer_of own r)
        of-reply r deaf mute said = rw (deaf, mute, said) refl

    -- and where it was before the message
    pub gives : Rests own h → is_off h ≡ false → is_illegal c h ≡ false → words_due c ≡ length values → is_transmitter_on own line h ≡ true → is_deaf line h ≡ false → is_mute line h ≡ false
        → answer line (record { own = own; history = past }) ≡ Some (record { source = Terminal own; gap = response_gap h; waves = command_wave (status own (Quiet line ∷ past)) ∷ map data_wave sent_back })
    gives rests on_now legal due sends hears speaks = gives-told on_now legal due (on rests ∙ sends) hears speaks

    pub free-then : is_busy h ≡ false → is_busy past ≡ false
    free-then free = set-stays told_busy false line gap (command_wave c ∷ map data_wave values) h ∙ free
