-- The receiver of a transfer between two terminals.
use Rattle.std.proofs.Common.{◌≡◌, ℕ, zero, suc, ◌<◌, ◌≤◌, ◌^◌, ◌==◌, Bool, true, false, ◌&&◌, ◌||◌, List, [], ◌∷◌, ◌++◌, map, length, refl, ap, ◌∙◌, arith, append_assoc, Some, None}
use Rattle.std.specs.Prelude.{not, if◌then◌else◌}
use Rattle.std.specs.Option.{option_map, is_some}
use Rattle.std.proofs.lemmas.Bool.{eq-eqb}
use Rattle.std.proofs.lemmas.Bool.Decides.{nat_tests}
use Rattle.mil_word.specs.declared.Line.{Line}
use Rattle.mil_word.specs.Words.{command_in, command_wave, data_wave}
use Rattle.mil_word.specs.Fields.{address_of, is_broadcast, is_mode, is_transmit, is_receive, sub_of, count_of}
use Rattle.mil_terminal.specs.declared.events.Event.{Event}
use Rattle.mil_terminal.specs.declared.events.Event.TheVariants.{Heard, Quiet}
use Rattle.mil_terminal.specs.History.{History}
use Rattle.mil_terminal.specs.Host.{is_power_on, told_off, is_off, told_deaf, told_mute, told_response, is_deaf, is_mute, response_gap}
use Rattle.mil_terminal.specs.Runs.{heard, met, AreNoCommands}
use Rattle.mil_terminal.specs.Windows.{Window, Ended, opening, latest_window, sender_called, has_quiets, is_decided, ended_by}
use Rattle.mil_terminal.specs.Verdicts.{words_due, are_due_words, is_in_time, is_from, is_unknown, is_illegal, has_shape, has_good_shape, verdict, good, is_good}
use Rattle.mil_terminal.specs.Registers.{is_transmitter_on}
use Rattle.mil_terminal.specs.Status.{status}
use Rattle.mil_terminal.specs.Replies.{data_sent, is_answered, answer_to, reply}
use Rattle.mil_terminal.specs.declared.replies.Reply.{Reply}
use Rattle.mil_terminal.proofs.Ends.{with_item, window_on, window_opened, nothing_open, still_open, ends_by_quiet}
use Rattle.mil_terminal.proofs.Runs.{first_none, rest_none}
use Rattle.mil_bus.specs.declared.talks.Source.TheVariants.{Terminal}
use Rattle.mil_bus.specs.Exchange.{Offer, offer_of, answer}
use Rattle.judge_laws.proofs.Words.{AreSmall, command-read, data-no_commands}
use Rattle.judge_laws.proofs.Openings.{line-itself, opens-not, opens-by, to-own, other-reply, window, words-come}
use Rattle.judge_laws.proofs.Rest.{Rests, set-stays}
use Rattle.judge_laws.proofs.Shapes.{no-quiets, one-quiet, due-words}
use Rattle.judge_laws.proofs.Stations.{opens-other}
use Rattle.judge_laws.proofs.Replying.{on-stays, reply-by, marks-stay, heard-push}

-- a word that opens nothing comes to the window
pub item-comes : (own : ℕ) (line : Line) (c : ℕ) (e : Event) (items : List Event) (h : History) → is_power_on e ≡ false → opening own e h ≡ None → latest_window own h ≡ Some (window line c items)
    → with_item e (window line c items) ≡ window line c (items ++ e ∷ []) → latest_window own (e ∷ h) ≡ Some (window line c (items ++ e ∷ []))
item-comes own line c e items h on opens is same = window_on own e h on opens ∙ ap (option_map (with_item e)) is ∙ ap (λ (w : Window). Some w) same

pub heard-on : (line : Line) (c wave gap : ℕ) (items : List Event) → with_item (Heard line wave gap) (window line c items) ≡ window line c (items ++ Heard line wave gap ∷ [])
heard-on line c wave gap items = rw (line-itself line) refl

pub quiet-on : (line : Line) (c : ℕ) (items : List Event) → with_item (Quiet line) (window line c items) ≡ window line c (items ++ Quiet line ∷ [])
quiet-on line c items = rw (line-itself line) refl

-- the command to the sender, behind the one to the receiver
called-by : (own c1 c2 : ℕ) → c2 < 2 ^ 16 → is_receive c1 ≡ true → is_transmit c2 ≡ true → is_mode c2 ≡ false → (address_of c2 == own) ≡ false → is_broadcast c2 ≡ false → sender_called own c1 (command_wave c2) 20 ≡ Some (address_of c2)
called-by own c1 c2 small receives transmits mode other single = rw (command-read c2 small, receives, transmits, mode, other, single) refl

-- words come to a window that they do not decide, behind what came before
on-words-behind : (own : ℕ) (line : Line) (c : ℕ) (l : Line) (before : List Event) (xs waves : List ℕ) (h : History) → AreNoCommands 0 waves
    → ((ys : List ℕ) → is_decided own (window line c (before ++ heard line 20 ys)) ≡ false) → latest_window own h ≡ Some (window line c (before ++ heard line 20 xs))
    → is_transmitter_on own l (met (heard line 20 waves) h) ≡ is_transmitter_on own l h
on-words-behind own line c l before xs [] h none open_still is = refl
on-words-behind own line c l before xs (w ∷ ws) h none open_still is =
    let e : Event = Heard line w 20 in
    let opens = opens-not own line w 20 h (first_none w ws none) in
    let now : latest_window own (e ∷ h) ≡ Some (window line c (before ++ heard line 20 (xs ++ w ∷ []))) =
    item-comes own line c e (before ++ heard line 20 xs) h refl opens is (heard-on line c w 20 (before ++ heard line 20 xs))
    ∙ ap (λ (items : List Event). Some (window line c items)) (append_assoc before (heard line 20 xs) (e ∷ []) ∙ ap (λ (items : List Event). before ++ items) (heard-push line xs w)) in
    on-words-behind own line c l before (xs ++ w ∷ []) ws (e ∷ h) (rest_none w ws none) open_still now
    ∙ on-stays own l e h refl (still_open own e h (window line c (before ++ heard line 20 xs)) (window line c (before ++ heard line 20 (xs ++ w ∷ []))) opens is now (open_still xs) (open_still (xs ++ w ∷ [])))

-- what the receiver has to know of the two commands and of the sender's reply
pub record IsTransfer (own c1 c2 time st : ℕ) (vs : List ℕ) : Type 0 where
  pub small_first : c1 < 2 ^ 16
  pub small_second : c2 < 2 ^ 16
  pub small_status : st < 2 ^ 16
  pub words : AreSmall vs
  pub mine : address_of c1 ≡ own
  pub receives : is_receive c1 ≡ true
  pub no_transmit : is_transmit c1 ≡ false
  pub transmits : is_transmit c2 ≡ true
  pub no_mode : is_mode c2 ≡ false
  pub other : (address_of c2 == own) ≡ false
  pub single : is_broadcast c2 ≡ false
  pub status_of : address_of st ≡ address_of c2
  pub soon : time ≤ 120
  pub many : words_due c1 ≡ length vs

module _ (own : ℕ) (line : Line) (c1 c2 g time st : ℕ) (vs : List ℕ) (h : History) where
  abbrev first_heard : Event
  first_heard = Heard line (command_wave c1) g

  abbrev second_heard : Event
  second_heard = Heard line (command_wave c2) 20

  abbrev status_heard : Event
  status_heard = Heard line (command_wave st) time

  abbrev datas : List ℕ
  datas = map data_wave vs

  abbrev pub called_past : History
  called_past = second_heard ∷ first_heard ∷ h

  abbrev pub waiting_past : History
  waiting_past = Quiet line ∷ called_past

  abbrev pub taken_past : History
  taken_past = met (heard line time (command_wave st ∷ datas)) waiting_past

  module _ (t : IsTransfer own c1 c2 time st vs) where
    or-both : (a b : Bool) → a ≡ false → b ≡ false → (a || b) ≡ false
    or-both a b x y = rw (x, y) refl

    is-first : opening own first_heard h ≡ Some (line, c1)
    is-first = opens-by own line c1 g h t.small_first (to-own own c1 h t.mine)

    second-not : opening own second_heard (first_heard ∷ h) ≡ None
    second-not = opens-other own line c2 20 (first_heard ∷ h) t.small_second (or-both (address_of c2 == own) (is_broadcast c2) t.other t.single)

    status-not : opening own status_heard waiting_past ≡ None
    status-not =
        opens-other own line st time waiting_past t.small_status (or-both (address_of st == own) (is_broadcast st) (ap (λ n. n == own) t.status_of ∙ t.other) (ap (λ n. n == 31) t.status_of ∙ t.single))

    call : sender_called own c1 (command_wave c2) 20 ≡ Some (address_of c2)
    call = called-by own c1 c2 t.small_second t.receives t.transmits t.no_mode t.other t.single

    l0 : latest_window own (first_heard ∷ h) ≡ Some (window line c1 [])
    l0 = window_opened own first_heard h (line, c1) is-first

    l1 : latest_window own called_past ≡ Some (window line c1 (second_heard ∷ []))
    l1 = item-comes own line c1 second_heard [] (first_heard ∷ h) refl second-not l0 (heard-on line c1 (command_wave c2) 20 [])

    l2 : latest_window own waiting_past ≡ Some (window line c1 (second_heard ∷ Quiet line ∷ []))
    l2 = item-comes own line c1 (Quiet line) (second_heard ∷ []) called_past refl refl l1 (quiet-on line c1 (second_heard ∷ []))

    l3 : latest_window own (status_heard ∷ waiting_past) ≡ Some (window line c1 (second_heard ∷ Quiet line ∷ status_heard ∷ []))
    l3 = item-comes own line c1 status_heard (second_heard ∷ Quiet line ∷ []) waiting_past refl status-not l2 (heard-on line c1 (command_wave st) time (second_heard ∷ Quiet line ∷ []))

    l4 : latest_window own taken_past ≡ Some (window line c1 (second_heard ∷ Quiet line ∷ status_heard ∷ heard line 20 datas))
    l4 = words-come own line 20 datas (status_heard ∷ waiting_past) c1 (second_heard ∷ Quiet line ∷ status_heard ∷ []) (data-no_commands vs t.words) l3

    l5 : latest_window own (Quiet line ∷ taken_past) ≡ Some (window line c1 (second_heard ∷ Quiet line ∷ status_heard ∷ (heard line 20 datas ++ Quiet line ∷ [])))
    l5 = item-comes own line c1 (Quiet line) (second_heard ∷ Quiet line ∷ status_heard ∷ heard line 20 datas) taken_past refl refl l4 (quiet-on line c1 (second_heard ∷ Quiet line ∷ status_heard ∷ heard line 20 datas))

    -- with a sender called, a window goes on to its second quiet
    two-due : (more : List Event) (b : Bool) → has_quiets (suc (suc zero)) more ≡ b → is_decided own (window line c1 (second_heard ∷ more)) ≡ b
    two-due more b is = ap (λ s. has_quiets (if is_some s then 2 else 1) (second_heard ∷ more)) call ∙ is

    d1 : is_decided own (window line c1 (second_heard ∷ [])) ≡ false
    d1 = two-due [] false refl

    d2 : is_decided own (window line c1 (second_heard ∷ Quiet line ∷ [])) ≡ false
    d2 = two-due (Quiet line ∷ []) false refl

    d4 : (xs : List ℕ) → is_decided own (window line c1 (second_heard ∷ Quiet line ∷ status_heard ∷ heard line 20 xs)) ≡ false
    d4 xs = two-due (Quiet line ∷ status_heard ∷ heard line 20 xs) false (no-quiets 0 line 20 xs)

    d5 : is_decided own (window line c1 (second_heard ∷ Quiet line ∷ status_heard ∷ (heard line 20 datas ++ Quiet line ∷ []))) ≡ true
    d5 = two-due (Quiet line ∷ status_heard ∷ (heard line 20 datas ++ Quiet line ∷ [])) true (one-quiet line 20 datas)

    -- it does not answer the quiet behind the commands
    pub waits : reply own line called_past ≡ None
    waits =
        other-reply own line (Quiet line ∷ called_past) called_past None
        (still_open own (Quiet line) called_past (window line c1 (second_heard ∷ [])) (window line c1 (second_heard ∷ Quiet line ∷ [])) refl l1 l2 d1 d2) refl refl

    abbrev last_window : Window
    last_window = window line c1 (second_heard ∷ Quiet line ∷ status_heard ∷ (heard line 20 datas ++ Quiet line ∷ []))

    abbrev last_end : Ended
    last_end = record { window = last_window; by_quiet = true; before = taken_past }

    pub rests-after : Rests own (Quiet line ∷ taken_past)
    rests-after = rw (l5, d5) refl

    ends-last : ended_by own (Quiet line) taken_past ≡ Some last_end
    ends-last = ends_by_quiet own (Quiet line) taken_past (window line c1 (second_heard ∷ Quiet line ∷ status_heard ∷ heard line 20 datas)) last_window refl l4 l5 (d4 datas) d5

    in-time : (n : ℕ) → n ≤ 120 → is_in_time n ≡ true
    in-time n le = grind (arith, nat_tests)

    three : (a b c : Bool) → a ≡ true → b ≡ true → c ≡ true → (a && b && c) ≡ true
    three a b c x y z = rw (x, y, z) refl

    status-read : (address_of st == address_of c2) ≡ true
    status-read = eq-eqb (address_of st) (address_of c2) t.status_of

    sound-shape : has_good_shape own last_window ≡ true
    sound-shape =
        ap (λ s. has_shape s (words_due c1) (second_heard ∷ Quiet line ∷ status_heard ∷ (heard line 20 datas ++ Quiet line ∷ []))) call
        ∙ three (is_from (address_of c2) (command_in (command_wave st))) (is_in_time time) (are_due_words (words_due c1) (heard line 20 datas ++ Quiet line ∷ []))
        (ap (is_from (address_of c2)) (command-read st t.small_status) ∙ status-read) (in-time time t.soon)
        (ap (λ n. are_due_words n (heard line 20 datas ++ Quiet line ∷ [])) t.many ∙ due-words line vs t.words)

    on-after : (l : Line) → Rests own h → is_transmitter_on own l taken_past ≡ is_transmitter_on own l h
    on-after l rests =
        on-words-behind own line c1 l (second_heard ∷ Quiet line ∷ status_heard ∷ []) [] datas (status_heard ∷ waiting_past) (data-no_commands vs t.words) d4 l3
        ∙ on-stays own l status_heard waiting_past refl (still_open own status_heard waiting_past (window line c1 (second_heard ∷ Quiet line ∷ [])) (window line c1 (second_heard ∷ Quiet line ∷ status_heard ∷ [])) status-not l2 l3 d2 (d4 []))
        ∙ on-stays own l (Quiet line) called_past refl (still_open own (Quiet line) called_past (window line c1 (second_heard ∷ [])) (window line c1 (second_heard ∷ Quiet line ∷ [])) refl l1 l2 d1 d2)
        ∙ on-stays own l second_heard (first_heard ∷ h) refl (still_open own second_heard (first_heard ∷ h) (window line c1 []) (window line c1 (second_heard ∷ [])) second-not l0 l1 refl d1)
        ∙ on-stays own l first_heard h refl (nothing_open own first_heard h rests)

    illegal-after : is_illegal c1 h ≡ false → is_illegal c1 taken_past ≡ false
    illegal-after legal = marks-stay c1 line time (command_wave st ∷ datas) waiting_past ∙ legal

    good-last : is_illegal c1 h ≡ false → verdict own last_end ≡ good
    good-last legal = rw (sound-shape, illegal-after legal) refl

    -- its reply: its status word alone
    pub answers-last : Rests own h → is_off h ≡ false → is_illegal c1 h ≡ false → is_transmitter_on own line h ≡ true → is_deaf line h ≡ false → is_mute line h ≡ false
        → answer line (record { own = own; history = taken_past }) ≡ Some (record { source = Terminal own; gap = response_gap h; waves = command_wave (status own (Quiet line ∷ taken_past)) ∷ [] })
    answers-last rests on_now legal sends hears speaks =
        let fine = good-last legal in
        let tells = on-after line rests ∙ sends in
        let same = eq-eqb (address_of c1) own t.mine in
        let answered : is_answered own last_end ≡ true = rw (fine, same, tells) refl in
        let on_still : is_off taken_past ≡ false = set-stays told_off false line time (command_wave st ∷ datas) waiting_past ∙ on_now in
        let said = reply-by own line taken_past last_end on_still ends-last answered in
        let deaf : is_deaf line taken_past ≡ false = set-stays (told_deaf line) false line time (command_wave st ∷ datas) waiting_past ∙ hears in
        let mute : is_mute line taken_past ≡ false = set-stays (told_mute line) false line time (command_wave st ∷ datas) waiting_past ∙ speaks in
        let soon : response_gap taken_past ≡ response_gap h = set-stays told_response 80 line time (command_wave st ∷ datas) waiting_past in
        let none : data_sent own c1 taken_past ≡ [] = no-data taken_past in
        of-reply (answer_to own last_end (Quiet line ∷ taken_past)) deaf mute said
        ∙ ap (λ n. let o : Offer = record { source = Terminal own; gap = n; waves = command_wave (status own (Quiet line ∷ taken_past)) ∷ map data_wave (if is_good (verdict own last_end) then data_sent own c1 taken_past else []) } in Some o) soon
        ∙ ap (λ v. let o : Offer = record { source = Terminal own; gap = response_gap h; waves = command_wave (status own (Quiet line ∷ taken_past)) ∷ map data_wave (if is_good v then data_sent own c1 taken_past else []) } in Some o) fine
        ∙ ap (λ ws. let o : Offer = record { source = Terminal own; gap = response_gap h; waves = command_wave (status own (Quiet line ∷ taken_past)) ∷ map data_wave ws } in Some o) none
      where
        of-reply : (r : Reply) → is_deaf line taken_past ≡ false → is_mute line taken_past ≡ false → reply own line taken_past ≡ Some r → answer line (record { own = own; history = taken_past }) ≡ Some (offer_of own r)
        of-reply r deaf mute said = rw (deaf, mute, said) refl

        no-data : (past : History) → data_sent own c1 past ≡ []
        no-data past = rw t.no_transmit refl
