-- A command to all that a terminal does not take: it is an item of its open window, which has no good shape then.
use Rattle.std.proofs.Common.{◌≡◌, ℕ, zero, suc, ◌<◌, ◌≤◌, ◌^◌, ◌==◌, Bool, true, false, ◌&&◌, ◌||◌, List, [], ◌∷◌, ◌++◌, map, refl, sym, ap, ◌∙◌, append-nil, append_assoc, arith, Some, None}
use Rattle.std.specs.Prelude.{not, Option}
use Rattle.std.specs.Option.{option_map, option_and_then, is_some}
use Rattle.std.proofs.lemmas.Bool.Decides.{nat_tests}
use Rattle.mil_word.specs.declared.Line.{Line}
use Rattle.mil_word.specs.Words.{same_line, value_if, command_in, data_in, command_wave, data_wave}
use Rattle.mil_word.specs.Fields.{address_of, is_broadcast, is_receive}
use Rattle.mil_terminal.specs.declared.events.Event.{Event}
use Rattle.mil_terminal.specs.declared.events.Event.TheVariants.{Heard, Quiet, Host}
use Rattle.mil_terminal.specs.History.{History}
use Rattle.mil_terminal.specs.Runs.{heard, met, AreNoCommands}
use Rattle.mil_terminal.specs.Windows.{Window, Ended, opening, latest_window, transmits_data, follows_at_once, begins_transfer, sender_called, sender_in, is_decided, undecided}
use Rattle.mil_terminal.specs.Verdicts.{are_due_words, is_from, is_in_time, is_sent_by, is_answered_by, are_transfer, has_shape, has_good_shape, words_due}
use Rattle.mil_terminal.specs.Replies.{is_answered, reply}
use Rattle.mil_terminal.proofs.Ends.{with_item, window_on, still_open}
use Rattle.mil_terminal.proofs.Hears.{same_line_is}
use Rattle.mil_terminal.proofs.Runs.{first_none, rest_none}
use Rattle.mil_terminal.proofs.Steps.{data_of-command}
use Rattle.judge_laws.proofs.Words.{AreSmall, command-read, data-no_commands}
use Rattle.judge_laws.proofs.Openings.{line-itself, opens-not, other-reply, no-reply, window, words-come}
use Rattle.judge_laws.proofs.Rest.{Rests, rests-word, rests-words, rests-reply}

and-false : (b : Bool) → (b && false) ≡ false
and-false true = refl
and-false false = refl

and-middle : (a b : Bool) → (a && false && b) ≡ false
and-middle true b = refl
and-middle false b = refl

-- ---- a command among the items leaves no good shape

module _ (l : Line) (wave gap c : ℕ) (is : command_in wave ≡ Some c) where
  abbrev e : Event
  e = Heard l wave gap

  no-words : (n : ℕ) (items more : List Event) → are_due_words n (items ++ e ∷ more) ≡ false
  no-words zero [] more = refl
  no-words (suc n) [] more = rw (data_of-command wave c is) (and-middle (follows_at_once gap) (are_due_words n more))
  no-words zero (Quiet q ∷ []) more = refl
  no-words zero (Quiet q ∷ x ∷ xs) more = refl
  no-words zero (Heard q w g ∷ xs) more = refl
  no-words zero (Host action ∷ xs) more = refl
  no-words (suc n) (Quiet q ∷ xs) more = refl
  no-words (suc n) (Host action ∷ xs) more = refl
  no-words (suc n) (Heard q w g ∷ xs) more = rw (no-words n xs more) (and-false (follows_at_once g && is_some (data_in w)))

  module _ (sender n : ℕ) (other : (address_of c == sender) ≡ false) where
    not-sent : (items more : List Event) → is_sent_by sender n (items ++ e ∷ more) ≡ false
    not-sent [] more = rw (is, other) refl
    not-sent (Quiet q ∷ xs) more = refl
    not-sent (Host action ∷ xs) more = refl
    not-sent (Heard q w g ∷ xs) more = rw (no-words n xs more) (and-false (is_from sender (command_in w) && is_in_time g))

    not-answered-by : (items more : List Event) → is_answered_by sender n (items ++ e ∷ more) ≡ false
    not-answered-by [] more = refl
    not-answered-by (Quiet q ∷ xs) more = not-sent xs more
    not-answered-by (Heard q w g ∷ xs) more = refl
    not-answered-by (Host action ∷ xs) more = refl

-- a sender that is called is no address of all
sender-low : (own command gap sender : ℕ) (o : Option ℕ) → option_and_then (λ c. value_if (begins_transfer own command gap c) (address_of c)) o ≡ Some sender → (31 == sender) ≡ false
sender-low own command gap sender None called = cc
sender-low own command gap sender (Some c) called = go (is_broadcast c) refl
  where
    none : (r f t n : Bool) (x : ℕ) → value_if (r && f && (t && n && false)) x ≡ None
    none true true true true x = refl
    none true true true false x = refl
    none true true false n x = refl
    none true false t n x = refl
    none false f t n x = refl

    some : (b : Bool) (x : ℕ) → value_if b x ≡ Some sender → x ≡ sender
    some true x is = cc
    some false x is = cc

    go : (b : Bool) → is_broadcast c ≡ b → (31 == sender) ≡ false
    go true all = let wrong = sym (none (is_receive command) (follows_at_once gap) (transmits_data c) (not (address_of c == own)) (address_of c)) ∙ rw all at called in cc
    go false one =
        let same : address_of c ≡ sender = some (begins_transfer own command gap c) (address_of c) called in
        let apart : (address_of c == 31) ≡ false = one in
        grind (arith, nat_tests)

-- a command to all calls no sender
none-called : (own command wave gap c : ℕ) → command_in wave ≡ Some c → is_broadcast c ≡ true → sender_called own command wave gap ≡ None
none-called own command wave gap c is all = rw (is, all) (none (is_receive command) (follows_at_once gap) (transmits_data c) (not (address_of c == own)) (address_of c))
  where
    none : (r f t n : Bool) (x : ℕ) → value_if (r && f && (t && n && false)) x ≡ None
    none true true true true x = refl
    none true true true false x = refl
    none true true false n x = refl
    none true false t n x = refl
    none false f t n x = refl

pub no-shape : (own : ℕ) (l : Line) (wave gap c : ℕ) (line : Line) (command : ℕ) (items more : List Event) → command_in wave ≡ Some c → address_of c ≡ 31
    → has_good_shape own (window line command (items ++ Heard l wave gap ∷ more)) ≡ false
no-shape own l wave gap c line command items more is to_all = go items (sender_in own command (items ++ Heard l wave gap ∷ more)) refl
  where
    go : (xs : List Event) (s : Option ℕ) → sender_in own command (xs ++ Heard l wave gap ∷ more) ≡ s → has_shape s (words_due command) (xs ++ Heard l wave gap ∷ more) ≡ false
    go xs None called = no-words l wave gap c is (words_due command) xs more
    go [] (Some sender) called = let wrong = sym (none-called own command wave gap c is (ap (λ n. n == 31) to_all)) ∙ called in cc
    go (Quiet q ∷ xs) (Some sender) called = cc
    go (Host action ∷ xs) (Some sender) called = cc
    go (Heard q w g ∷ xs) (Some sender) called =
        not-answered-by l wave gap c is sender (words_due command) (ap (λ n. n == sender) to_all ∙ sender-low own command g sender (command_in w) called) xs more

-- ---- the window of another line stays as it is

silent-come : (own : ℕ) (line : Line) (gap : ℕ) (waves : List ℕ) (h : History) (w : Window) → AreNoCommands 0 waves → same_line line w.line ≡ false → latest_window own h ≡ Some w
    → latest_window own (met (heard line gap waves) h) ≡ Some w
silent-come own line gap [] h w none other is = is
silent-come own line gap (x ∷ xs) h w none other is =
    silent-come own line 20 xs (Heard line x gap ∷ h) w (rest_none x xs none) other
    (window_on own (Heard line x gap) h refl (opens-not own line x gap h (first_none x xs none)) ∙ ap (option_map (with_item (Heard line x gap))) is ∙ rw (other, append-nil) refl)

-- a terminal that takes no command to all answers none
pub item-reply : (own : ℕ) (line : Line) (c gap : ℕ) (values : List ℕ) (h : History) → c < 2 ^ 16 → address_of c ≡ 31 → AreSmall values → opening own (Heard line (command_wave c) gap) h ≡ None
    → reply own line (met (heard line gap (command_wave c ∷ map data_wave values)) h) ≡ None
item-reply own line c gap values h small to_all words none = latest (latest_window own h) refl
  where
    datas : List ℕ
    datas = map data_wave values

    first : Event
    first = Heard line (command_wave c) gap

    past : History
    past = met (heard line 20 datas) (first ∷ h)

    at-rest : Rests own h → reply own line past ≡ None
    at-rest rests = rests-reply own line past (rests-words own line 20 datas (first ∷ h) (data-no_commands values words) (rests-word own line (command_wave c) gap h none rests))

    heard-here : (command : ℕ) (items : List Event) → latest_window own h ≡ Some (window line command items) → reply own line past ≡ None
    heard-here command items is =
        let one : latest_window own (first ∷ h) ≡ Some (window line command (items ++ first ∷ [])) = window_on own first h refl none ∙ ap (option_map (with_item first)) is ∙ rw (line-itself line) refl in
        let all = words-come own line 20 datas (first ∷ h) command (items ++ first ∷ []) (data-no_commands values words) one in
        let more : List Event = heard line 20 datas ++ Quiet line ∷ [] in
        let end : Ended = record { window = window line command (((items ++ first ∷ []) ++ heard line 20 datas) ++ Quiet line ∷ []); by_quiet = true; before = past } in
        let shape : has_good_shape own end.window ≡ false =
        ap (λ (xs : List Event). has_good_shape own (window line command xs)) (append_assoc (items ++ first ∷ []) (heard line 20 datas) (Quiet line ∷ []) ∙ append_assoc items (first ∷ []) more)
        ∙ no-shape own line (command_wave c) gap c line command items more (command-read c small) to_all in
        let unmet : is_answered own end ≡ false = rw shape refl in
        no-reply own line command ((items ++ first ∷ []) ++ heard line 20 datas) past all unmet

    elsewhere : (w : Window) → latest_window own h ≡ Some w → same_line line w.line ≡ false → is_decided own w ≡ false → reply own line past ≡ None
    elsewhere w is other still =
        let one : latest_window own (first ∷ h) ≡ Some w = window_on own first h refl none ∙ ap (option_map (with_item first)) is ∙ rw (other, append-nil) refl in
        let all : latest_window own past ≡ Some w = silent-come own line 20 datas (first ∷ h) w (data-no_commands values words) other one in
        let now : latest_window own (Quiet line ∷ past) ≡ Some w = window_on own (Quiet line) past refl refl ∙ ap (option_map (with_item (Quiet line))) all ∙ rw (other, append-nil) refl in
        other-reply own line (Quiet line ∷ past) past None (still_open own (Quiet line) past w w refl all now still still) refl refl

    open-window : (w : Window) → latest_window own h ≡ Some w → is_decided own w ≡ false → (b : Bool) → same_line line w.line ≡ b → reply own line past ≡ None
    open-window w is still true same =
        let line_is : w.line ≡ line = same_line_is line w.line same in
        heard-here w.command w.items (is ∙ ap (λ (x : Line). Some (window x w.command w.items)) line_is)
    open-window w is still false other = elsewhere w is other still

    either : (w : Window) → latest_window own h ≡ Some w → (b : Bool) → is_decided own w ≡ b → reply own line past ≡ None
    either w is true done = at-rest (rw (is, done) refl)
    either w is false still = open-window w is still (same_line line w.line) refl

    latest : (w : Option Window) → latest_window own h ≡ w → reply own line past ≡ None
    latest None is = at-rest (rw is refl)
    latest (Some w) is = either w is (is_decided own w) refl
