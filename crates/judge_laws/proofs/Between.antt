-- A transfer between two terminals that both can reply.
use Rattle.std.proofs.Common.{◌≡◌, ℕ, ◌+◌, ◌-◌, ◌%◌, ◌<◌, ◌≤◌, ◌^◌, ◌==◌, Bool, true, false, ◌||◌, List, [], ◌∷◌, ◌++◌, map, length, refl, sym, ap, ◌∙◌, arith, subst, length-append, Some, None}
use Rattle.std.specs.Prelude.{if◌then◌else◌}
use Rattle.std.specs.List.{AllByRecursion}
use Rattle.std.proofs.lemmas.List.{length-map}
use Rattle.std.proofs.lemmas.Bool.{eq-eqb}
use Rattle.std.proofs.lemmas.Bool.Decides.{nat_tests}
use Rattle.mil_word.specs.declared.Line.{Line}
use Rattle.mil_word.specs.Words.{command_wave, data_wave}
use Rattle.mil_word.specs.Fields.{address_of, is_broadcast, is_mode, is_transmit, is_receive}
use Rattle.mil_message.specs.declared.forms.Due.{Due}
use Rattle.mil_message.specs.declared.forms.Form.{Form}
use Rattle.mil_message.specs.Forms.{controller_waves}
use Rattle.mil_terminal.specs.declared.events.Event.TheVariants.{Heard, Quiet}
use Rattle.mil_terminal.specs.History.{History}
use Rattle.mil_terminal.specs.Host.{told_deaf, told_off, is_deaf, is_off, is_busy, response_gap}
use Rattle.mil_terminal.proofs.Passing.{words_on, words_off, quiet_on}
use Rattle.mil_terminal.specs.Station.{Station, after}
use Rattle.mil_terminal.specs.Status.{status}
use Rattle.mil_terminal.specs.Verdicts.{words_due}
use Rattle.mil_terminal.specs.Registers.{is_transmitter_on}
use Rattle.mil_terminal.specs.Replies.{data_sent}
use Rattle.mil_terminal.proofs.Ends.{nothing_open}
use Rattle.mil_bus.specs.declared.talks.Source.TheVariants.{Controller, Terminal}
use Rattle.mil_bus.specs.declared.talks.Sent.{Sent}
use Rattle.mil_bus.specs.declared.talk_runs.Run.{Run}
use Rattle.mil_bus.specs.Actions.{station_of}
use Rattle.mil_bus.specs.Exchange.{BusState, Offer, contiguous_run, quieted, answer, first_reply, next_offer, all_hearing, quiet_after, controllers, last_on, gap_since, talk_start, exchange_of, talk_of}
use Rattle.mil_bus.specs.DataRuns.{hearing_all}
use Rattle.mil_bus.specs.Index.{IsClosed}
use Rattle.mil_bus.proofs.Answering.{answer-none}
use Rattle.mil_bus.proofs.DataRuns.{run-missed, run-heard}
use Rattle.judge_laws.specs.Messages.{AreReady, CanReply, AreAnswered}
use Rattle.judge_laws.proofs.Words.{AreSmall, all-through}
use Rattle.judge_laws.proofs.Turns.{turn-then, last-turn, nobody, all-hear}
use Rattle.judge_laws.proofs.Rest.{Rests, rests-word, closed-rests, set-stays}
use Rattle.judge_laws.proofs.Statuses.{IsStatus, status-is}
use Rattle.judge_laws.proofs.Stations.{Idle, idle-answer, idle-quiet, idle-run, opens-other, finds-offer, found-one}
use Rattle.judge_laws.proofs.Replying.{low_words, low-small, gives, rests-then, free-then, on-stays}
use Rattle.judge_laws.proofs.Receiving.{IsTransfer, waiting_past, taken_past, waits, rests-after, answers-last}
use Rattle.judge_laws.proofs.OneReply.{other-called, or-first, turned, each, of-one, words-long}

-- the two commands of a transfer, as a run of the controller
abbrev pub commands_run : ℕ → ℕ → ℕ → List Sent
commands_run g c1 c2 = contiguous_run 0 Controller g (command_wave c1 ∷ command_wave c2 ∷ [])

abbrev pub after_commands : Line → ℕ → ℕ → ℕ → History → History
after_commands line g c1 c2 h = Heard line (command_wave c2) 20 ∷ Heard line (command_wave c1) g ∷ h

pub hears-commands : (line : Line) (g c1 c2 : ℕ) (s : Station) → is_off s.history ≡ false → is_deaf line s.history ≡ false → hearing_all line (commands_run g c1 c2) s ≡ record { own = s.own; history = after_commands line g c1 c2 s.history }
hears-commands line g c1 c2 s on hears =
    let r : Run = record { number = 0; source = Controller; gap = g } in
    sym (run-heard line r (command_wave c1 ∷ command_wave c2 ∷ []) s hears) ∙ words_on s line g (command_wave c1 ∷ command_wave c2 ∷ []) on

-- a terminal that is off hears neither
pub off-commands : (line : Line) (g c1 c2 : ℕ) (s : Station) → is_off s.history ≡ true → is_deaf line s.history ≡ false → hearing_all line (commands_run g c1 c2) s ≡ s
off-commands line g c1 c2 s off hears =
    let r : Run = record { number = 0; source = Controller; gap = g } in
    sym (run-heard line r (command_wave c1 ∷ command_wave c2 ∷ []) s hears) ∙ words_off s line g (command_wave c1 ∷ command_wave c2 ∷ []) off

-- a station that neither command calls
idle-commands : (line : Line) (g c1 c2 : ℕ) (s : Station) → c1 < 2 ^ 16 → c2 < 2 ^ 16 → (address_of c1 == s.own || is_broadcast c1) ≡ false → (address_of c2 == s.own || is_broadcast c2) ≡ false → Idle s
    → Idle (hearing_all line (commands_run g c1 c2) s)
idle-commands line g c1 c2 s small1 small2 other1 other2 is = go (is_deaf line s.history) refl
  where
    r : Run
    r = record { number = 0; source = Controller; gap = g }

    later : (b : Station) → b ≡ hearing_all line (commands_run g c1 c2) s → Idle b → Idle (hearing_all line (commands_run g c1 c2) s)
    later b same idle = rw (← same) idle

    go : (b : Bool) → is_deaf line s.history ≡ b → Idle (hearing_all line (commands_run g c1 c2) s)
    go true deaf = later s (run-missed line r (command_wave c1 ∷ command_wave c2 ∷ []) s deaf) is
    go false hears = when (is_off s.history) refl
      where
        when : (b : Bool) → is_off s.history ≡ b → Idle (hearing_all line (commands_run g c1 c2) s)
        when true off = later s (sym (off-commands line g c1 c2 s off hears)) is
        when false on =
            later (record { own = s.own; history = after_commands line g c1 c2 s.history }) (sym (hears-commands line g c1 c2 s on hears))
            (rests-word s.own line (command_wave c2) 20 (Heard line (command_wave c1) g ∷ s.history) (opens-other s.own line c2 20 (Heard line (command_wave c1) g ∷ s.history) small2 other2)
            (rests-word s.own line (command_wave c1) g s.history (opens-other s.own line c1 g s.history small1 other1) is))

-- a reply heard by a station at rest, in any run
heard-idle : (line : Line) (run address gap status : ℕ) (values : List ℕ) (s : Station) → status < 2 ^ 16 → AreSmall values → address_of status ≡ address → address ≤ 30 → Idle s
    → Idle (hearing_all line (contiguous_run run (Terminal address) gap (command_wave status ∷ map data_wave values)) s)
heard-idle line run address gap status values s small words mine low idle =
    idle-run line run (Terminal address) gap status values s small words
    (λ heard. other-called status address s.own mine low (turned address s.own (or-first (address == s.own) (is_deaf line s.history) heard))) idle

pub three-maps : (f g h : Station → Station) (xs : List Station) → map h (map g (map f xs)) ≡ map (λ x. h (g (f x))) xs
three-maps f g h [] = refl
three-maps f g h (x ∷ xs) = ap (λ ys. h (g (f x)) ∷ ys) (three-maps f g h xs)

pub record AreEnds (line : Line) (g c1 c2 sender receiver count : ℕ) (s r : Station) : Type 0 where
  pub small_first : c1 < 2 ^ 16
  pub small_second : c2 < 2 ^ 16
  pub first_is : address_of c1 ≡ receiver
  pub second_is : address_of c2 ≡ sender
  pub low_sender : sender ≤ 30
  pub low_receiver : receiver ≤ 30
  pub apart : (sender == receiver) ≡ false
  pub receives : is_receive c1 ≡ true
  pub no_transmit : is_transmit c1 ≡ false
  pub transmits : is_transmit c2 ≡ true
  pub no_mode : is_mode c2 ≡ false
  pub announced : words_due c1 ≡ count
  pub none_due : words_due c2 ≡ 0
  pub sender_own : s.own ≡ sender
  pub receiver_own : r.own ≡ receiver
  pub sender_idle : Idle s
  pub receiver_idle : Idle r
  pub sender_can : CanReply line c2 s
  pub receiver_can : CanReply line c1 r
  pub many : (h : History) → is_busy h ≡ false → length (data_sent s.own c2 h) ≡ count

module _ (line : Line) (g c1 c2 sender receiver count : ℕ) (s r : Station) (e : AreEnds line g c1 c2 sender receiver count s r) where
  abbrev sender_heard : History
  sender_heard = after_commands line g c1 c2 s.history

  abbrev pub sender_status : ℕ
  sender_status = status s.own (Quiet line ∷ sender_heard)

  abbrev pub sender_words : List ℕ
  sender_words = low_words (data_sent s.own c2 sender_heard)

  abbrev pub sender_time : ℕ
  sender_time = response_gap s.history

  abbrev receiver_heard : History
  receiver_heard = taken_past r.own line c1 c2 g sender_time sender_status sender_words r.history

  abbrev pub receiver_status : ℕ
  receiver_status = status r.own (Quiet line ∷ receiver_heard)

  mine : address_of c2 ≡ s.own
  mine = e.second_is ∙ sym e.sender_own

  first-other : (own : ℕ) → (own == receiver) ≡ false → (address_of c1 == own || is_broadcast c1) ≡ false
  first-other own other = other-called c1 receiver own e.first_is e.low_receiver other

  second-other : (own : ℕ) → (own == sender) ≡ false → (address_of c2 == own || is_broadcast c2) ≡ false
  second-other own other = other-called c2 sender own e.second_is e.low_sender other

  sender-not-receiver : (s.own == receiver) ≡ false
  sender-not-receiver = ap (λ n. n == receiver) e.sender_own ∙ e.apart

  rests-first : Rests s.own (Heard line (command_wave c1) g ∷ s.history)
  rests-first = rests-word s.own line (command_wave c1) g s.history (opens-other s.own line c1 g s.history e.small_first (first-other s.own sender-not-receiver)) e.sender_idle

  sends-first : is_transmitter_on s.own line (Heard line (command_wave c1) g ∷ s.history) ≡ true
  sends-first = on-stays s.own line (Heard line (command_wave c1) g) s.history refl (nothing_open s.own (Heard line (command_wave c1) g) s.history e.sender_idle) ∙ e.sender_can.sends

  pub sender-is : IsStatus s.own sender_status
  sender-is = status-is s.own (Quiet line ∷ sender_heard) (omega (arith, e.sender_own, e.low_sender))

  pub receiver-is : IsStatus r.own receiver_status
  receiver-is = status-is r.own (Quiet line ∷ receiver_heard) (omega (arith, e.receiver_own, e.low_receiver))

  pub words-many : length sender_words ≡ count
  words-many =
      length-map (data_sent s.own c2 sender_heard) (λ v. v % 2 ^ 16)
      ∙ e.many sender_heard (free-then s.own line c2 20 [] (Heard line (command_wave c1) g ∷ s.history) e.small_second tt mine e.sender_can.free)

  -- the sender's reply
  pub sender-offers : answer line (hearing_all line (commands_run g c1 c2) s) ≡ Some (record { source = Terminal sender; gap = sender_time; waves = command_wave sender_status ∷ map data_wave sender_words })
  sender-offers =
      ap (answer line) (hears-commands line g c1 c2 s e.sender_can.on e.sender_can.hears)
      ∙ gives s.own line c2 20 [] (Heard line (command_wave c1) g ∷ s.history) e.small_second tt mine rests-first e.sender_can.on e.sender_can.legal e.none_due sends-first e.sender_can.hears e.sender_can.speaks
      ∙ ap (λ n. let x : Offer = record { source = Terminal n; gap = sender_time; waves = command_wave sender_status ∷ map data_wave sender_words } in Some x) e.sender_own

  transfer : IsTransfer r.own c1 c2 sender_time sender_status sender_words
  transfer = record {
    small_first = e.small_first;
    small_second = e.small_second;
    small_status = sender-is.below;
    words = low-small (data_sent s.own c2 sender_heard);
    mine = e.first_is ∙ sym e.receiver_own;
    receives = e.receives;
    no_transmit = e.no_transmit;
    transmits = e.transmits;
    no_mode = e.no_mode;
    other = ap (λ n. n == r.own) e.second_is ∙ ap (λ n. sender == n) e.receiver_own ∙ e.apart;
    single = ap (λ n. n == 31) e.second_is ∙ not-31 sender e.low_sender;
    status_of = sender-is.address ∙ sym mine;
    soon = e.sender_can.no_later;
    many = e.announced ∙ sym words-many;
  }
    where
      not-31 : (n : ℕ) → n ≤ 30 → (n == 31) ≡ false
      not-31 n low = grind (arith, nat_tests)

  -- the receiver waits for the sender
  pub receiver-waits : answer line (hearing_all line (commands_run g c1 c2) r) ≡ None
  receiver-waits =
      ap (answer line) (hears-commands line g c1 c2 r e.receiver_can.on e.receiver_can.hears)
      ∙ answer-none line (record { own = r.own; history = after_commands line g c1 c2 r.history }) (waits r.own line c1 c2 g sender_time sender_status sender_words r.history transfer)

  -- all stations, one by one: the sender, the receiver, and the others
  pub data Part (x : Station) : Type 0 where
    is_sender : x ≡ s → Part x
    is_receiver : x ≡ r → Part x
    is_other : (x.own == sender) ≡ false → (x.own == receiver) ≡ false → Part x

  pub part-of : (x : Station) → ((x.own == sender) ≡ true → x ≡ s) → ((x.own == receiver) ≡ true → x ≡ r) → Part x
  part-of x one two = go (x.own == sender) (x.own == receiver) refl refl
    where
      go : (a b : Bool) → (x.own == sender) ≡ a → (x.own == receiver) ≡ b → Part x
      go true b here there = is_sender (one here)
      go false true here there = is_receiver (two there)
      go false false here there = is_other here there

  first-answers : (x : Station) → Part x → Idle x → answer line (hearing_all line (commands_run g c1 c2) x)
      ≡ (if x.own == sender then Some (record { source = Terminal sender; gap = sender_time; waves = command_wave sender_status ∷ map data_wave sender_words }) else None)
  first-answers x (is_sender same) idle =
      rw same (sender-offers ∙ sym (ap (λ b. if b then Some (record { source = Terminal sender; gap = sender_time; waves = command_wave sender_status ∷ map data_wave sender_words }) else None) (eq-eqb s.own sender e.sender_own)))
  first-answers x (is_receiver same) idle =
      rw same (receiver-waits ∙ sym (ap (λ b. if b then Some (record { source = Terminal sender; gap = sender_time; waves = command_wave sender_status ∷ map data_wave sender_words }) else None) (ap (λ n. n == sender) e.receiver_own ∙ turned sender receiver e.apart)))
  first-answers x (is_other a b) idle =
      idle-answer line (hearing_all line (commands_run g c1 c2) x) (idle-commands line g c1 c2 x e.small_first e.small_second (first-other x.own b) (second-other x.own a) idle)
      ∙ sym (ap (λ k. if k then Some (record { source = Terminal sender; gap = sender_time; waves = command_wave sender_status ∷ map data_wave sender_words }) else None) a)

  abbrev second_run : List Sent
  second_run = contiguous_run 1 (Terminal sender) sender_time (command_wave sender_status ∷ map data_wave sender_words)

  abbrev then_heard : Station → Station
  then_heard x = hearing_all line second_run (quieted line (hearing_all line (commands_run g c1 c2) x))

  quiet-hears : (x y : Station) → hearing_all line (commands_run g c1 c2) x ≡ y → is_off y.history ≡ false → is_deaf line y.history ≡ false
      → quieted line (hearing_all line (commands_run g c1 c2) x) ≡ record { own = y.own; history = Quiet line ∷ y.history }
  quiet-hears x y is on hears = rw (is, hears) (quiet_on y line on)

  sender-idle-then : Idle (quieted line (hearing_all line (commands_run g c1 c2) s))
  sender-idle-then =
      subst Idle (sym (quiet-hears s (record { own = s.own; history = sender_heard }) (hears-commands line g c1 c2 s e.sender_can.on e.sender_can.hears) e.sender_can.on e.sender_can.hears))
      (rests-then s.own line c2 20 [] (Heard line (command_wave c1) g ∷ s.history) e.small_second tt mine)

  other-idle-then : (x : Station) → (x.own == sender) ≡ false → (x.own == receiver) ≡ false → Idle x → Idle (quieted line (hearing_all line (commands_run g c1 c2) x))
  other-idle-then x a b idle = idle-quiet line (hearing_all line (commands_run g c1 c2) x) (idle-commands line g c1 c2 x e.small_first e.small_second (first-other x.own b) (second-other x.own a) idle)

  then-idle : (x : Station) → Idle (quieted line (hearing_all line (commands_run g c1 c2) x)) → Idle (then_heard x)
  then-idle x idle =
      heard-idle line 1 sender sender_time sender_status sender_words (quieted line (hearing_all line (commands_run g c1 c2) x)) sender-is.below (low-small (data_sent s.own c2 sender_heard))
      (sender-is.address ∙ e.sender_own) e.low_sender idle

  receiver-then : then_heard r ≡ record { own = r.own; history = receiver_heard }
  receiver-then =
      let waiting : Station = record { own = r.own; history = waiting_past r.own line c1 c2 g sender_time sender_status sender_words r.history } in
      let run : Run = record { number = 1; source = Terminal sender; gap = sender_time } in
      ap (hearing_all line second_run) (quiet-hears r (record { own = r.own; history = after_commands line g c1 c2 r.history }) (hears-commands line g c1 c2 r e.receiver_can.on e.receiver_can.hears) e.receiver_can.on e.receiver_can.hears)
      ∙ sym (run-heard line run (command_wave sender_status ∷ map data_wave sender_words) waiting (or-none (sender == r.own) (is_deaf line r.history) (ap (λ n. sender == n) e.receiver_own ∙ e.apart) e.receiver_can.hears))
      ∙ words_on waiting line sender_time (command_wave sender_status ∷ map data_wave sender_words) e.receiver_can.on
    where
      or-none : (a b : Bool) → a ≡ false → b ≡ false → (a || b) ≡ false
      or-none a b x y = rw (x, y) refl

  second-answers : (x : Station) → Part x → Idle x → answer line (then_heard x)
      ≡ (if x.own == receiver then Some (record { source = Terminal receiver; gap = response_gap r.history; waves = command_wave receiver_status ∷ [] }) else None)
  second-answers x (is_sender same) idle =
      rw same (idle-answer line (then_heard s) (then-idle s sender-idle-then)
      ∙ sym (ap (λ b. if b then Some (record { source = Terminal receiver; gap = response_gap r.history; waves = command_wave receiver_status ∷ [] }) else None) sender-not-receiver))
  second-answers x (is_receiver same) idle =
      rw same (ap (answer line) receiver-then
      ∙ answers-last r.own line c1 c2 g sender_time sender_status sender_words r.history transfer e.receiver_idle e.receiver_can.on e.receiver_can.legal e.receiver_can.sends e.receiver_can.hears e.receiver_can.speaks
      ∙ ap (λ n. let o : Offer = record { source = Terminal n; gap = response_gap r.history; waves = command_wave receiver_status ∷ [] } in Some o) e.receiver_own
      ∙ sym (ap (λ b. if b then Some (record { source = Terminal receiver; gap = response_gap r.history; waves = command_wave receiver_status ∷ [] }) else None) (eq-eqb r.own receiver e.receiver_own)))
  second-answers x (is_other a b) idle =
      idle-answer line (then_heard x) (then-idle x (other-idle-then x a b idle))
      ∙ sym (ap (λ k. if k then Some (record { source = Terminal receiver; gap = response_gap r.history; waves = command_wave receiver_status ∷ [] }) else None) b)

  -- after the second quiet no window is open
  pub at-end : (x : Station) → Part x → Idle x → Idle (quieted line (then_heard x))
  at-end x (is_sender same) idle = rw same (idle-quiet line (then_heard s) (then-idle s sender-idle-then))
  at-end x (is_receiver same) idle =
      subst (λ (y : Station). Idle (quieted line (then_heard y))) (sym same) (subst (λ (y : Station). Idle (quieted line y)) (sym receiver-then) (quiet-rests (is_deaf line receiver_heard) refl))
    where
      deaf : is_deaf line receiver_heard ≡ false
      deaf = set-stays (told_deaf line) false line sender_time (command_wave sender_status ∷ map data_wave sender_words) (waiting_past r.own line c1 c2 g sender_time sender_status sender_words r.history) ∙ e.receiver_can.hears

      on : is_off receiver_heard ≡ false
      on = set-stays told_off false line sender_time (command_wave sender_status ∷ map data_wave sender_words) (waiting_past r.own line c1 c2 g sender_time sender_status sender_words r.history) ∙ e.receiver_can.on

      quiet-rests : (b : Bool) → is_deaf line receiver_heard ≡ b → Idle (quieted line (record { own = r.own; history = receiver_heard }))
      quiet-rests b is = rw (deaf, on) (rests-after r.own line c1 c2 g sender_time sender_status sender_words r.history transfer)
  at-end x (is_other a b) idle = idle-quiet line (then_heard x) (then-idle x (other-idle-then x a b idle))

-- ---- the whole exchange

two-in-one : (P Q R : Station → Type 0) (xs : List Station) → AllByRecursion P xs → AllByRecursion Q xs → AllByRecursion R xs → AllByRecursion (λ x. P x × Q x × R x) xs
two-in-one P Q R [] p q r = tt
two-in-one P Q R (x ∷ xs) p q r = ((p.0, q.0, r.0), two-in-one P Q R xs p.1 q.1 r.1)

pub both-reply : (b : BusState) (line : Line) (form : Form) (gap c1 c2 count : ℕ) (first second : Due) (s r : Station)
    → controller_waves form ≡ command_wave c1 ∷ command_wave c2 ∷ [] → second.words ≡ 0 → first.words ≡ count → count ≤ 32 → AreReady b.stations
    → station_of first.address b.stations ≡ Some s → station_of second.address b.stations ≡ Some r
    → ((g : ℕ) → Idle s → Idle r → s.own ≡ first.address → r.own ≡ second.address → AreEnds line g c1 c2 first.address second.address count s r)
    → AreAnswered b line form gap first second
unfolding talk_of exchange_of
both-reply b line form gap c1 c2 count first second s r is no_words words few ready found_s found_r ends =
    let g = gap_since (last_on line b.talks) (talk_start b gap) in
    let sender = first.address in
    let receiver = second.address in
    let fs = found-one sender s b.stations ready.apart found_s in
    let fr = found-one receiver r b.stations ready.apart found_r in
    let idle : AllByRecursion Idle b.stations = each IsClosed Idle closed-rests b.stations ready.at_rest in
    let e = ends g (of-one Idle sender s b.stations idle fs.one fs.there) (of-one Idle receiver r b.stations idle fr.one fr.there) fs.own fr.own in
    let st = sender_status line g c1 c2 sender receiver count s r e in
    let vs = sender_words line g c1 c2 sender receiver count s r e in
    let time = response_gap s.history in
    let last_st = receiver_status line g c1 c2 sender receiver count s r e in
    let last_time = response_gap r.history in
    let s_is = sender-is line g c1 c2 sender receiver count s r e in
    let r_is = receiver-is line g c1 c2 sender receiver count s r e in
    let many = words-many line g c1 c2 sender receiver count s r e in
    let vs_small = low-small (data_sent s.own c2 (after_commands line g c1 c2 s.history)) in
    let one : Offer = record { source = Terminal sender; gap = time; waves = command_wave st ∷ map data_wave vs } in
    let two : Offer = record { source = Terminal receiver; gap = last_time; waves = command_wave last_st ∷ [] } in
    let run0 = commands_run g c1 c2 in
    let run1 = contiguous_run 1 (Terminal sender) time (command_wave st ∷ map data_wave vs) in
    let run2 = contiguous_run 2 (Terminal receiver) last_time (command_wave last_st ∷ []) in
    let all : AllByRecursion (λ (x : Station). Idle x × ((x.own == sender) ≡ true → x ≡ s) × ((x.own == receiver) ≡ true → x ≡ r)) b.stations =
    two-in-one Idle (λ (x : Station). (x.own == sender) ≡ true → x ≡ s) (λ (x : Station). (x.own == receiver) ≡ true → x ≡ r) b.stations idle fs.one fr.one in
    let offers : AllByRecursion (λ (x : Station). answer line (hearing_all line run0 x) ≡ (if x.own == sender then Some one else None)) b.stations =
    each (λ (x : Station). Idle x × ((x.own == sender) ≡ true → x ≡ s) × ((x.own == receiver) ≡ true → x ≡ r)) (λ (x : Station). answer line (hearing_all line run0 x) ≡ (if x.own == sender then Some one else None))
    (λ x p. first-answers line g c1 c2 sender receiver count s r e x (part-of line g c1 c2 sender receiver count s r e x p.1 p.2) p.0) b.stations all in
    let f = λ (x : Station). hearing_all line run1 (quieted line (hearing_all line run0 x)) in
    let more : AllByRecursion (λ (x : Station). answer line (f x) ≡ (if x.own == receiver then Some two else None)) b.stations =
    each (λ (x : Station). Idle x × ((x.own == sender) ≡ true → x ≡ s) × ((x.own == receiver) ≡ true → x ≡ r)) (λ (x : Station). answer line (f x) ≡ (if x.own == receiver then Some two else None))
    (λ x p. second-answers line g c1 c2 sender receiver count s r e x (part-of line g c1 c2 sender receiver count s r e x p.1 p.2) p.0) b.stations all in
    let sent = contiguous_run 0 Controller g (controller_waves form) in
    let same : sent ≡ run0 = ap (contiguous_run 0 Controller g) is in
    let next : next_offer line sent (all_hearing line sent b.stations) ≡ Some one =
    ap (λ ws. next_offer line ws (all_hearing line ws b.stations)) same
    ∙ ap (first_reply line) (sym (all-hear line run0 b.stations)) ∙ finds-offer line sender one (hearing_all line run0) b.stations offers fs.there in
    let quiet1 = quiet_after line sent (all_hearing line sent b.stations) in
    let quiet1_is : quiet1 ≡ map (quieted line) (map (hearing_all line run0) b.stations) =
    ap (λ ws. quiet_after line ws (all_hearing line ws b.stations)) same ∙ ap (map (quieted line)) (sym (all-hear line run0 b.stations)) in
    let heard1_is : all_hearing line run1 quiet1 ≡ map f b.stations =
    ap (all_hearing line run1) quiet1_is ∙ sym (all-hear line run1 (map (quieted line) (map (hearing_all line run0) b.stations))) ∙ three-maps (hearing_all line run0) (quieted line) (hearing_all line run1) b.stations in
    let next2 : next_offer line run1 (all_hearing line run1 quiet1) ≡ Some two = ap (first_reply line) heard1_is ∙ finds-offer line receiver two f b.stations more fr.there in
    let quiet2 = quiet_after line run1 (all_hearing line run1 quiet1) in
    let quiet2_is : quiet2 ≡ map (quieted line) (map f b.stations) = ap (map (quieted line)) heard1_is in
    let idle2 : AllByRecursion Idle (map (quieted line) (map f b.stations)) =
    all-through (quieted line) (λ x. Idle (quieted line x)) Idle (λ x p. p) (map f b.stations)
    (all-through f (λ (x : Station). Idle x × ((x.own == sender) ≡ true → x ≡ s) × ((x.own == receiver) ≡ true → x ≡ r)) (λ x. Idle (quieted line x))
    (λ x p. at-end line g c1 c2 sender receiver count s r e x (part-of line g c1 c2 sender receiver count s r e x p.1 p.2) p.0) b.stations all) in
    let silent_each : AllByRecursion (λ x. answer line x ≡ None) (map (hearing_all line run2) (map (quieted line) (map f b.stations))) =
    all-through (hearing_all line run2) Idle (λ x. answer line x ≡ None)
    (λ x p. idle-answer line (hearing_all line run2 x) (heard-idle line 2 receiver last_time last_st [] x r_is.below tt (r_is.address ∙ fr.own) e.low_receiver p)) (map (quieted line) (map f b.stations)) idle2 in
    let silent : first_reply line (all_hearing line run2 quiet2) ≡ None =
    ap (λ ss. first_reply line (all_hearing line run2 ss)) quiet2_is ∙ ap (first_reply line) (sym (all-hear line run2 (map (quieted line) (map f b.stations)))) ∙ nobody line (map (hearing_all line run2) (map (quieted line) (map f b.stations))) silent_each in
    let long0 : length sent ≡ 2 = ap (λ (ws : List Sent). length ws) same in
    let long1 : length run1 ≡ 1 + length vs = words-long 1 (Terminal sender) time (command_wave st ∷ map data_wave vs) ∙ omega (arith, length-map vs data_wave) in
    let waves0 : length (controller_waves form) ≤ 40 = omega (arith, ap (λ (ws : List ℕ). length ws) is) in
    let waves1 : length one.waves ≤ 40 - length sent = omega (arith, length-map vs data_wave, many, long0, few) in
    let waves2 : length two.waves ≤ 40 - length (sent ++ run1) = omega (arith, length-append sent run1, long0, long1, many, few) in
    record {
      first_time = time;
      first_status = st;
      first_values = vs;
      first_due = record {
        no_sooner = e.sender_can.no_sooner;
        no_later = e.sender_can.no_later;
        small = s_is.below;
        address = s_is.address ∙ fs.own;
        reserved = s_is.reserved;
        words = vs_small;
        many = many ∙ sym words;
      };
      second_time = last_time;
      second_status = last_st;
      second_due = record {
        no_sooner = e.receiver_can.no_sooner;
        no_later = e.receiver_can.no_later;
        small = r_is.below;
        address = r_is.address ∙ fr.own;
        reserved = r_is.reserved;
        words = tt;
        many = sym no_words;
      };
      sent = turn-then 39 0 line (controllers line form (talk_start b gap) b.talks) [] b.stations (Some one) ((sent ++ run1) ++ run2) waves0 next
          (turn-then 38 1 line one sent quiet1 (Some two) ((sent ++ run1) ++ run2) waves1 next2 (last-turn 37 2 line two (sent ++ run1) quiet2 waves2 silent));
    }
