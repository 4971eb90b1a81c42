-- Registers that stand for a history, after a quiet.
use Rattle.std.proofs.Common.{◌≡◌, ℕ, ◌<◌, ◌≤◌, List, [], ◌∷◌, ◌++◌, refl, ap, sym, ◌∙◌, append-nil, arith}
use Rattle.std.specs.Prelude.{Bool, true, false, ◌&&◌, ◌||◌, ◌==◌, nat_lt, not, Option, Some, None, if◌then◌else◌, ◌+◌, slice_index_or}
use Rattle.std.specs.Option.{option_map}
use Rattle.mil_word.specs.declared.Line.{Line}
use Rattle.mil_word.specs.declared.Line.TheVariants.{A, B}
use Rattle.mil_word.specs.Words.{same_line, same_bool}
use Rattle.mil_word.specs.Fields.{address_of, is_mode, is_transmit, sub_of, code_of, count_of}
use Rattle.mil_terminal.specs.declared.events.Event.{Event}
use Rattle.mil_terminal.specs.declared.events.Event.TheVariants.{Quiet}
use Rattle.mil_terminal.specs.History.{History, latest_set}
use Rattle.mil_terminal.specs.Host.{is_busy, response_gap, is_marked_illegal, is_mode_marked}
use Rattle.std.proofs.lemmas.Bool.Decides.{nat_tests}
use Rattle.std.proofs.lemmas.Bool.{eqb-true}
use Rattle.mil_terminal.specs.Windows.{Window, Ended, latest_window, is_decided, transmits_data, ended_by}
use Rattle.mil_terminal.specs.Verdicts.{verdict, is_good, is_bad, is_illegal, is_marked, is_unknown, has_good_shape}
use Rattle.mil_terminal.specs.Registers.{window_data, received, is_transmitter_on, is_question, vector}
use Rattle.mil_terminal.specs.Answers.{is_answered, gives_vector, gives_words, quiet_ends}
use Rattle.mil_terminal.specs.Service.{told_service, told_once, is_served}
use Rattle.mil_terminal.specs.PutUp.{words_put_up}
use Rattle.mil_terminal.specs.Marking.{is_set, is_mode_set}
use Rattle.mil_terminal.specs.Status.{conditions, status, status_word, leaves_status}
use Rattle.mil_terminal.specs.Replies.{transmit_words, data_sent, answer_to, reply_to}
use Rattle.mil_terminal.specs.declared.pending.Pending.{Pending}
use Rattle.mil_terminal.specs.declared.switches.Switches.{Switches}
use Rattle.mil_terminal.specs.declared.registers.Registers.{Registers}
use Rattle.mil_terminal.specs.Phases.{IsPending, window_of}
use Rattle.mil_terminal.specs.Updates.{stored, settled, served, has_vector, has_words, handed, off_on, is_barred, is_marked_now, put_up_at, data_now, answer_now}
use Rattle.mil_terminal.specs.Updates.{is_good_end, asks_at_end, answers_end, after_end, end_answer}
use Rattle.mil_terminal.specs.declared.host.Settings.{Settings}
use Rattle.mil_terminal.specs.StandsFor.{AreSettings, AreSwitches, ArePutUp, StandsFor}
use Rattle.mil_terminal.proofs.Steps.{Decided}
use Rattle.mil_terminal.proofs.Ends.{with_item, window_on, ends_by_quiet, is_undecided}
use Rattle.mil_terminal.proofs.Switching.{switches-bad, switches-good}
use Rattle.mil_terminal.proofs.Syncing.{synced-bad, synced-good}
use Rattle.mil_terminal.proofs.Storing.{received-bad, received-good, put_up-stored, long-stored}
use Rattle.mil_terminal.proofs.Putting.{put_up_words, put_up_same, put_up_given, received-carried}
use Rattle.mil_terminal.proofs.Telling.{conditions-some}
use Rattle.mil_terminal.proofs.Hears.{settings_quiet, put_up_quiet, gives_nothing, last_same, closed_on, open_on, same_line_is}

-- ---- a quiet that decides nothing

pub record GoesOn (r : Registers) (own : ℕ) (line : Line) (h : History) : Type 0 where
  pub stands : StandsFor r (Quiet line ∷ h)
  pub silent : None ≡ reply_to own (ended_by own (Quiet line) h) (Quiet line ∷ h)

no_reply : (own : ℕ) (line : Line) (h : History) → ended_by own (Quiet line) h ≡ None → None ≡ reply_to own (ended_by own (Quiet line) h) (Quiet line ∷ h)
no_reply own line h none = rw none refl

-- what the host set, and the words that it put up, after a quiet that ends no window
settings_waits : (r : Registers) (line : Line) (h : History) → AreSettings r.own r.host h → ended_by r.own (Quiet line) h ≡ None → AreSettings r.own r.host (Quiet line ∷ h)
settings_waits r line h is none = settings_quiet r.own r.host line h (gives_nothing r.own (gives_vector r.own) line h none) is

put_up_waits : (r : Registers) (line : Line) (h : History) → ArePutUp r.own r.block h → ended_by r.own (Quiet line) h ≡ None → ArePutUp r.own r.block (Quiet line ∷ h)
put_up_waits r line h is none = put_up_quiet r.own r.block line h (λ sub place. gives_nothing r.own (gives_words r.own sub place) line h none) is

pub quiet_none : (r : Registers) (v : Option Pending) (line : Line) (h : History) → r.window ≡ None → v ≡ None → StandsFor r h → GoesOn (record r { window = v }) r.own line h
quiet_none r v line h was after is =
    let both = closed_on r r.window v (Quiet line) h was after refl (λ word. refl) refl (settings_waits r line h is.settings) (put_up_waits r line h is.put_up) is in
    record { stands = both.0; silent = no_reply r.own line h both.1 }

pub quiet_waits : (r : Registers) (p q : Pending) (line : Line) (h : History) → r.window ≡ Some p → same_line line p.line ≡ true → q.line ≡ p.line → q.command ≡ p.command
    → ((items : List Event) → IsPending r.own p items → IsPending r.own q (items ++ Quiet p.line ∷ []))
    → StandsFor r h → GoesOn (record r { window = Some q }) r.own line h
quiet_waits r p q line h was same same_l same_c goes is =
    let both = open_on r r.window p q (Quiet line) h was refl (λ word. refl) refl same_l same_c (λ items pending. rw (same, ← same_line_is line p.line same) (goes items pending))
    (settings_waits r line h is.settings) (put_up_waits r line h is.put_up) is in
    record { stands = both.0; silent = no_reply r.own line h both.1 }

pub quiet_silent : (r : Registers) (p : Pending) (line : Line) (h : History) → r.window ≡ Some p → same_line line p.line ≡ false
    → StandsFor r h → GoesOn (record r { window = Some p }) r.own line h
quiet_silent r p line h was other is =
    let both = open_on r r.window p p (Quiet line) h was refl (λ word. refl) refl refl refl (λ items pending. rw (other, append-nil) pending)
    (settings_waits r line h is.settings) (put_up_waits r line h is.put_up) is in
    record { stands = both.0; silent = no_reply r.own line h both.1 }

-- ---- the verdict of the window that a quiet decides

or_same : (u x y : Bool) → x ≡ y → (u || x) ≡ (u || y)
or_same u x y same = rw same refl

code_range : (c : ℕ) → sub_of c < 32
code_range c = omega arith

count_range : (c : ℕ) → (1 ≤ count_of c) × (count_of c ≤ 32)
count_range c = go (code_of c == 0) refl
  where
    go : (b : Bool) → (code_of c == 0) ≡ b → (1 ≤ (if b then 32 else code_of c)) × ((if b then 32 else code_of c) ≤ 32)
    go true zero_is = (omega arith, omega arith)
    go false other = (grind (arith, nat_tests), omega arith)

sub_some : (c : ℕ) → is_mode c ≡ false → 1 ≤ sub_of c
sub_some c other = grind (arith, nat_tests)

barred_is : (r : Registers) (c : ℕ) (h : History) → AreSettings r.own r.host h → is_illegal c h ≡ is_barred r c
barred_is r c h is = or_same (is_unknown c) (is_marked c h) (is_marked_now r c) (go (is_mode c) refl)
  where
    go : (m : Bool) → is_mode c ≡ m
        → (if m then is_mode_marked (is_transmit c) (code_of c) h else is_marked_illegal (is_transmit c) (sub_of c) (count_of c) h)
        ≡ (if m then is_mode_set r.host.marks (is_transmit c) (code_of c) else is_set r.host.marks (is_transmit c) (sub_of c) (count_of c))
    go true mode = sym (is.modes (is_transmit c) (code_of c) (omega arith))
    go false mode = sym (is.marks (is_transmit c) (sub_of c) (count_of c) (sub_some c mode) (code_range c) (count_range c).0 (count_range c).1)

-- whether the window leaves the status as it was
asks_is : (own : ℕ) (v : Window) (h : History) (shape barred : Bool) → has_good_shape own v ≡ shape → is_illegal v.command h ≡ barred
    → leaves_status own (record { window = v; by_quiet = true; before = h }) ≡ (is_question own v.command && not (shape && barred))
asks_is own v h true true a b = rw (a, b) refl
asks_is own v h true false a b = rw (a, b) refl
asks_is own v h false barred a b = rw a refl

good_is : (own : ℕ) (v : Window) (h : History) (shape barred : Bool) → has_good_shape own v ≡ shape → is_illegal v.command h ≡ barred
    → (is_good (verdict own (record { window = v; by_quiet = true; before = h })) ≡ (shape && not barred)) × (not (is_bad (verdict own (record { window = v; by_quiet = true; before = h }))) ≡ shape)
good_is own v h true true a b = (rw (a, b) refl, rw (a, b) refl)
good_is own v h true false a b = (rw (a, b) refl, rw (a, b) refl)
good_is own v h false barred a b = (rw a refl, rw a refl)

on_is : (own : ℕ) (s : Switches) (line : Line) (h : History) → AreSwitches own s h → is_transmitter_on own line h ≡ not (off_on s line)
on_is own s A h is = sym is.on_a
on_is own s B h is = sym is.on_b

and_left : (a b : Bool) → (a && b) ≡ true → a ≡ true
and_left true b h = refl
and_left false b h = cc

same_line_refl : (line : Line) → same_line line line ≡ true
same_line_refl A = refl
same_line_refl B = refl

-- ---- the reply

put_up_is : (r : Registers) (sub : ℕ) (h : History) → sub < 32 → StandsFor r h → put_up_at r sub ≡ transmit_words r.own sub h
unfolding transmit_words
put_up_is r sub h lt is = go (sub == 30)
  where
    go : (b : Bool) → (if b then slice_index_or r.block 30 [] else slice_index_or r.block (64 + sub) []) ≡ (if b then received r.own 30 h else words_put_up r.own sub h)
    go true = is.received.addressed 30 (omega arith)
    go false = put_up_words r.own r.block sub h lt is.put_up

data_is : (r : Registers) (c : ℕ) (h : History) → StandsFor r h → data_now r c ≡ data_sent r.own c h
data_is r c h is = rw (put_up_is r (sub_of c) h (code_range c) is, is.last_command, is.settings.busy, is.settings.vector, is.synced.bit) refl

-- what a good window does changes none of the words that its reply has
bit_stays : (code was now : ℕ) → (if code == 19 then (if code == 3 then now else was) ∷ [] else []) ≡ (if code == 19 then was ∷ [] else [])
bit_stays code was now = go (code == 19) refl
  where
    go : (b : Bool) → (code == 19) ≡ b → (if b then (if code == 3 then now else was) ∷ [] else []) ≡ (if b then was ∷ [] else [])
    go false is = refl
    go true is = rw (eqb-true code 19 is) refl

data_stays : (r : Registers) (line : Line) (c : ℕ) (good asks : Bool) (words : List ℕ) → data_now (settled r line c good asks words) c ≡ data_now r c
data_stays r line c false asks words = refl
data_stays r line c true asks words = go (is_transmit c) (is_mode c) refl refl
  where
    go : (t m : Bool) → is_transmit c ≡ t → is_mode c ≡ m → data_now (settled r line c true asks words) c ≡ data_now r c
    go false m t_is m_is = rw t_is refl
    go true true t_is m_is = rw (t_is, m_is, bit_stays (code_of c) r.synced.bit_word r.host.self_test) refl
    go true false t_is m_is = rw (t_is, m_is) refl

-- ---- a quiet that decides a window

-- whether its reply has the vector word, and whether it has words of a subaddress
vector_is : (good answers mode transmit code busy : Bool) → (answers && (good && (mode && same_bool transmit true && code)) && not busy) ≡ ((good && answers) && (mode && transmit && code && not busy))
vector_is true true true true true busy = refl
vector_is true true true true false busy = refl
vector_is true true true false code busy = refl
vector_is true true false transmit code busy = refl
vector_is true false mode transmit code busy = refl
vector_is false true mode transmit code busy = refl
vector_is false false mode transmit code busy = refl

words_are : (good answers sends busy sub place : Bool) → (answers && good && sends && not busy && sub && place) ≡ (((good && answers) && (sends && not busy)) && (sub && place))
words_are true true true true sub place = refl
words_are true true true false sub place = refl
words_are true true false busy sub place = refl
words_are true false sends busy sub place = refl
words_are false true sends busy sub place = refl
words_are false false sends busy sub place = refl

-- what the host set, after a quiet that ends a window
settings_after : (own : ℕ) (s : Settings) (line : Line) (h : History) (gave : Bool) → quiet_ends own (gives_vector own) line h ≡ gave
    → AreSettings own s h → AreSettings own (if gave then served s else s) (Quiet line ∷ h)
unfolding vector
settings_after own s line h false is settings = settings_quiet own s line h is settings
settings_after own s line h true is settings = record {
  busy = settings.busy;
  service = rw (is, settings.service, settings.once) (service_ends (latest_set told_service false h) (latest_set told_once false h) (is_served own h));
  once = rw is (once_ends (latest_set told_once false h));
  subsystem = settings.subsystem;
  fault = settings.fault;
  control = settings.control;
  vector = settings.vector;
  self_test = settings.self_test;
  response = settings.response;
  by_gap = settings.by_gap;
  bit = settings.bit;
  broadcast = settings.broadcast;
  off = settings.off;
  marks = settings.marks;
  modes = settings.modes;
  deaf = settings.deaf;
  mute = settings.mute;
}
  where
    service_ends : (on once served : Bool) → ((on && not (once && served)) && not (once && not served)) ≡ (on && not (once && true))
    service_ends true true true = refl
    service_ends true true false = refl
    service_ends true false served = refl
    service_ends false once served = refl

    once_ends : (once : Bool) → false ≡ (once && false)
    once_ends true = refl
    once_ends false = refl

-- what is left of the facts on a window that a quiet ended
record EndsAs (r : Registers) (p : Pending) (h : History) (w : Ended) (good asks gave : Bool) : Type 0 where
  same_l : w.window.line ≡ p.line
  same_c : w.window.command ≡ p.command
  before : w.before ≡ h
  now : latest_window r.own (Quiet p.line ∷ h) ≡ Some w.window
  done : is_decided r.own w.window ≡ true
  ends : ended_by r.own (Quiet p.line) h ≡ Some w
  good_is : is_good (verdict r.own w) ≡ good
  asks_are : leaves_status r.own w ≡ asks
  words : good ≡ true → window_data w ≡ p.words.items
  vector : quiet_ends r.own (gives_vector r.own) p.line h ≡ (gave && has_vector r p.command)
  given : (sub place : ℕ) → quiet_ends r.own (gives_words r.own sub place) p.line h ≡ ((gave && has_words r p.command) && (sub_of p.command == sub && nat_lt place (count_of p.command)))

settles_at : (r : Registers) (p : Pending) (h : History) (w : Ended) (good asks gave : Bool) → EndsAs r p h w good asks gave → StandsFor (record r { window = Some p }) h
    → StandsFor (handed gave (settled (record r { window = None }) p.line p.command good asks p.words.items) p.command) (Quiet p.line ∷ h)
settles_at r p h w true asks gave so is =
    let e : Event = Quiet p.line in
    let c = p.command in
    let block : List (List ℕ) = stored r.block c r.host.busy p.words.items in
    let received = received-good r.own r.block e h w p.words.items r.host.busy so.ends so.good_is (so.words refl) (rw so.before is.settings.busy) is.put_up.long is.received in
    record {
      window = rw (so.now, so.done) refl;
      settings = settings_after r.own r.host p.line h (gave && has_vector r c) so.vector is.settings;
      conditions = rw so.same_c at (conditions-some r e h w true asks so.ends so.good_is so.asks_are so.before is.settings is.switches is.conditions);
      switches = rw (so.same_l, so.same_c) at (switches-good r.own r.switches e h w so.ends so.good_is is.switches);
      synced = rw so.same_c at (synced-good r.own r.synced e h w p.words.items r.host.self_test so.ends refl (λ word. refl) so.good_is (so.words refl) (rw so.before is.settings.self_test) is.synced);
      received = received-carried r.own block (sub_of c) (count_of c) (gave && has_words r c) (e ∷ h) (rw so.same_c at received);
      put_up = put_up_given r.own block p.line h c (gave && has_words r c) so.given (put_up_same r.own r.block block h (put_up-stored r.block c r.host.busy p.words.items) (long-stored r.block c r.host.busy p.words.items) is.put_up);
      last_command = last_same r.own r.last_command e h refl refl is.last_command;
    }
settles_at r p h w false asks gave so is =
    let e : Event = Quiet p.line in
    let c = p.command in
    record {
      window = rw (so.now, so.done) refl;
      settings = settings_after r.own r.host p.line h (gave && has_vector r c) so.vector is.settings;
      conditions = rw so.same_c at (conditions-some r e h w false asks so.ends so.good_is so.asks_are so.before is.settings is.switches is.conditions);
      switches = switches-bad r.own r.switches e h w so.ends so.good_is is.switches;
      synced = synced-bad r.own r.synced e h w so.ends refl (λ word. refl) so.good_is is.synced;
      received = received-carried r.own r.block (sub_of c) (count_of c) (gave && has_words r c) (e ∷ h) (received-bad r.own r.block e h w so.ends so.good_is is.received);
      put_up = put_up_given r.own r.block p.line h c (gave && has_words r c) so.given is.put_up;
      last_command = last_same r.own r.last_command e h refl refl is.last_command;
    }

pub own_stays : (r : Registers) (line : Line) (c : ℕ) (good asks : Bool) (words : List ℕ) → (settled r line c good asks words).own ≡ r.own
own_stays r line c true asks words = refl
own_stays r line c false asks words = refl

-- the reply to it, from the registers before it is given
answer_told : (r : Registers) (p : Pending) (h : History) (w : Ended) (good asks gave : Bool) → EndsAs r p h w good asks gave → StandsFor (record r { window = Some p }) h
    → answer_now (settled (record r { window = None }) p.line p.command good asks p.words.items) p.command good ≡ answer_to r.own w (Quiet p.line ∷ h)
unfolding status
answer_told r p h w true asks gave so is =
    let told = rw so.same_c at (conditions-some r (Quiet p.line) h w true asks so.ends so.good_is so.asks_are so.before is.settings is.switches is.conditions) in
    let sent : data_now (settled (record r { window = None }) p.line p.command true asks p.words.items) p.command ≡ data_sent r.own p.command h =
    data_stays (record r { window = None }) p.line p.command true asks p.words.items ∙ data_is (record r { window = Some p }) p.command h is in
    rw (so.good_is, so.same_c, so.before, ← sent, ← told, ← is.settings.response) refl
answer_told r p h w false asks gave so is =
    let told = rw so.same_c at (conditions-some r (Quiet p.line) h w false asks so.ends so.good_is so.asks_are so.before is.settings is.switches is.conditions) in
    rw (so.good_is, ← told, ← is.settings.response) refl

pub record Settles (r : Registers) (p : Pending) (shape : Bool) (h : History) : Type 0 where
  pub stands : StandsFor (after_end (record r { window = None }) p shape) (Quiet p.line ∷ h)
  pub answer : end_answer (record r { window = None }) p shape ≡ reply_to r.own (ended_by r.own (Quiet p.line) h) (Quiet p.line ∷ h)

settles_so : (r : Registers) (p : Pending) (shape : Bool) (h : History)
    → ((items : List Event) → IsPending r.own p items → Decided r.own p items shape)
    → StandsFor (record r { window = Some p }) h
    → Settles r p shape h
settles_so r p shape h decides is =
    let items = is.window.0 in
    let e : Event = Quiet p.line in
    let v : Window = window_of p (items ++ e ∷ []) in
    let w : Ended = record { window = v; by_quiet = true; before = h } in
    let good = is_good_end r p shape in
    let asks = asks_at_end r p shape in
    let answers = answers_end r p shape in
    let facts = decides items is.window.2 in
    let now : latest_window r.own (e ∷ h) ≡ Some v = window_on r.own e h refl refl ∙ ap (option_map (with_item e)) is.window.1 ∙ rw same_line_refl refl in
    let ends : ended_by r.own e h ≡ Some w = ends_by_quiet r.own e h (window_of p items) v refl is.window.1 now (is_undecided r.own p items is.window.2) facts.0 in
    let illegal = barred_is r p.command h is.settings in
    let verdicts = good_is r.own v h shape (is_barred r p.command) facts.1 illegal in
    let answered : is_answered r.own w ≡ answers = rw (verdicts.1, on_is r.own r.switches p.line h is.switches) refl in
    let so : EndsAs r p h w good asks (good && answers) = record {
      same_l = refl;
      same_c = refl;
      before = refl;
      now = now;
      done = facts.0;
      ends = ends;
      good_is = verdicts.0;
      asks_are = asks_is r.own v h shape (is_barred r p.command) facts.1 illegal;
      words = λ g. facts.2 (and_left shape _ g);
      vector = rw (ends, answered, verdicts.0, ← is.settings.busy) (vector_is good answers (is_mode p.command) (is_transmit p.command) (code_of p.command == 16) r.host.busy);
      given = λ sub place. rw (ends, answered, verdicts.0, ← is.settings.busy) (words_are good answers (transmits_data p.command) r.host.busy (sub_of p.command == sub) (nat_lt place (count_of p.command)));
    } in
    let answer = answer_told r p h w good asks (good && answers) so is in
    record {
      stands = settles_at r p h w good asks (good && answers) so is;
      answer = rw (answer, ends, answered) refl;
    }

pub quiet_settles : (r : Registers) (p q : Pending) (shape : Bool) (line : Line) (h : History) → r.window ≡ Some p → same_line line p.line ≡ true
    → q.line ≡ p.line → q.command ≡ p.command → q.words ≡ p.words
    → ((items : List Event) → IsPending r.own p items → Decided r.own p items shape)
    → StandsFor r h
    → (StandsFor (after_end (record r { window = None }) q shape) (Quiet line ∷ h))
    × (end_answer (record r { window = None }) q shape ≡ reply_to r.own (ended_by r.own (Quiet line) h) (Quiet line ∷ h))
quiet_settles r p q shape line h was same same_l same_c same_w decides is =
    let open_is : StandsFor (record r { window = Some p }) h = record {
      window = rw was at is.window;
      settings = is.settings;
      conditions = is.conditions;
      switches = is.switches;
      synced = is.synced;
      received = is.received;
      put_up = is.put_up;
      last_command = is.last_command;
    } in
    let s = settles_so r p shape h decides open_is in
    rw (same_l, same_c, same_w, ← same_line_is line p.line same) (s.stands, s.answer)

-- ---- the registers that are read

pub reads_put_up : (r : Registers) (sub : ℕ) (words : List ℕ) (h : History) → sub < 32 → words ≡ put_up_at r sub → StandsFor r h → words ≡ transmit_words r.own sub h
reads_put_up r sub words h lt same is = same ∙ put_up_is r sub h lt is

pub reads_on : (r : Registers) (line : Line) (on : Bool) (h : History) → on ≡ not (off_on r.switches line) → StandsFor r h → on ≡ is_transmitter_on r.own line h
reads_on r line on h same is = same ∙ sym (on_is r.own r.switches line h is.switches)

pub reads_status : (r : Registers) (word : ℕ) (h : History) → word ≡ status_word r.own r.conditions → StandsFor r h → word ≡ status r.own h
unfolding status
reads_status r word h same is = same ∙ ap (status_word r.own) is.conditions
