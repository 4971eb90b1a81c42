-- Words that come one after the other, none of which is a command or a status.
use Rattle.std.proofs.Common.{◌≡◌, ◌⊎◌, inl, inr, ℕ, zero, suc, ◌^◌, ◌-◌, ◌<◌, ◌≤◌, List, [], ◌∷◌, ◌++◌, map, length, refl, sym, ap, ◌∙◌, arith, zero-le, length-append, append_assoc, append-nil}
use Rattle.std.specs.Prelude.{Bool, true, false, ◌==◌, nat_lt, Option, Some, None, if◌then◌else◌}
use Rattle.std.proofs.lemmas.Bool.Decides.{nat_tests}
use Rattle.std.proofs.lemmas.List.{length-map}
use Rattle.mil_word.specs.declared.Line.{Line}
use Rattle.mil_word.specs.declared.Sync.TheVariants.{DataSync}
use Rattle.mil_word.specs.Wave.{word_of}
use Rattle.mil_word.specs.Words.{same_line, command_in, data_in, data_wave}
use Rattle.mil_word.proofs.Reading.{word_of-wave}
use Rattle.mil_terminal.specs.declared.events.Event.TheVariants.{Heard}
use Rattle.mil_terminal.specs.History.{History}
use Rattle.mil_terminal.specs.Windows.{sender_called}
use Rattle.mil_terminal.specs.Runs.{heard, met, AreNoCommands, AreSmall}
use Rattle.mil_terminal.specs.Verdicts.{words_due}
use Rattle.mil_terminal.specs.declared.pending.Phase.{Phase}
use Rattle.mil_terminal.specs.declared.pending.Phase.TheVariants.{Start, Taking, Called, Waiting, LostTransfer, Lost}
use Rattle.mil_terminal.specs.declared.pending.Pending.{Pending}
use Rattle.mil_terminal.specs.declared.registers.Registers.{Registers}
use Rattle.mil_terminal.specs.Phases.{with_due, due_value, with_first, after_word, after_run}
use Rattle.mil_terminal.specs.StandsFor.{StandsFor}
use Rattle.mil_terminal.proofs.Steps.{after_word-pending}
use Rattle.mil_terminal.proofs.Hears.{hear_none, hear_item, hear_silent}

-- ---- the first word and the others

pub first_none : (w : ℕ) (ws : List ℕ) → AreNoCommands 0 (w ∷ ws) → command_in w ≡ None
first_none w ws none = none 0 w zero-le (omega arith)

pub rest_none : (w : ℕ) (ws : List ℕ) → AreNoCommands 0 (w ∷ ws) → AreNoCommands 0 ws
rest_none w ws none = λ k d le lt. none (suc k) d zero-le (omega (arith, lt))

-- ---- a word changes neither the line of a window nor its command

with_due-line : (d : Option ℕ) (p : Pending) → (with_due d p).line ≡ p.line
with_due-line None p = refl
with_due-line (Some value) p = refl

with_due-command : (d : Option ℕ) (p : Pending) → (with_due d p).command ≡ p.command
with_due-command None p = refl
with_due-command (Some value) p = refl

with_first-line : (s : Option ℕ) (p : Pending) (wave gap : ℕ) → (with_first s p wave gap).line ≡ p.line
with_first-line None p wave gap = with_due-line (due_value p wave gap) p
with_first-line (Some sender) p wave gap = refl

with_first-command : (s : Option ℕ) (p : Pending) (wave gap : ℕ) → (with_first s p wave gap).command ≡ p.command
with_first-command None p wave gap = with_due-command (due_value p wave gap) p
with_first-command (Some sender) p wave gap = refl

after_word-line : (own : ℕ) (p : Pending) (phase : Phase) (wave gap : ℕ) → (after_word own p phase wave gap).line ≡ p.line
after_word-line own p Start wave gap = with_first-line (sender_called own p.command wave gap) p wave gap
after_word-line own p Taking wave gap = with_due-line (due_value p wave gap) p
after_word-line own p (Called sender) wave gap = refl
after_word-line own p (Waiting sender) wave gap = refl
after_word-line own p LostTransfer wave gap = refl
after_word-line own p Lost wave gap = refl

after_word-command : (own : ℕ) (p : Pending) (phase : Phase) (wave gap : ℕ) → (after_word own p phase wave gap).command ≡ p.command
after_word-command own p Start wave gap = with_first-command (sender_called own p.command wave gap) p wave gap
after_word-command own p Taking wave gap = with_due-command (due_value p wave gap) p
after_word-command own p (Called sender) wave gap = refl
after_word-command own p (Waiting sender) wave gap = refl
after_word-command own p LostTransfer wave gap = refl
after_word-command own p Lost wave gap = refl

-- ---- registers that stand for a history, after the words of a run

-- with no window open
pub run_none : (r : Registers) (line : Line) (gap : ℕ) (waves : List ℕ) (h : History) → r.window ≡ None → AreNoCommands 0 waves
    → StandsFor r h → StandsFor r (met (heard line gap waves) h)
run_none r line gap [] h was none is = is
run_none r line gap (w ∷ ws) h was none is =
    run_none r line 20 ws (Heard line w gap ∷ h) was (rest_none w ws none) (hear_none r line w gap h was (rw (first_none w ws none) refl) is)

-- with a window on the other line
silent_go : (r : Registers) (p : Pending) (line : Line) (gap : ℕ) (waves : List ℕ) (h : History) → AreNoCommands 0 waves → same_line line p.line ≡ false
    → StandsFor (record r { window = Some p }) h → StandsFor (record r { window = Some p }) (met (heard line gap waves) h)
silent_go r p line gap [] h none other is = is
silent_go r p line gap (w ∷ ws) h none other is =
    silent_go r p line 20 ws (Heard line w gap ∷ h) (rest_none w ws none) other
    (hear_silent (record r { window = Some p }) p line w gap h refl (rw (first_none w ws none) refl) other is)

pub run_silent : (r : Registers) (w : Option Pending) (p : Pending) (line : Line) (gap : ℕ) (waves : List ℕ) (h : History) → w ≡ Some p → AreNoCommands 0 waves → same_line line p.line ≡ false
    → StandsFor (record r { window = w }) h → StandsFor (record r { window = Some p }) (met (heard line gap waves) h)
run_silent r w p line gap waves h was none other is = silent_go r p line gap waves h none other (rw was at is)

-- with a window on this line
heard_go : (r : Registers) (p : Pending) (line : Line) (gap : ℕ) (waves : List ℕ) (h : History) → AreNoCommands 0 waves → same_line line p.line ≡ true
    → StandsFor (record r { window = Some p }) h → StandsFor (record r { window = Some (after_run r.own p gap waves) }) (met (heard line gap waves) h)
heard_go r p line gap [] h none same is = is
heard_go r p line gap (w ∷ ws) h none same is =
    let q : Pending = after_word r.own p p.phase w gap in
    let line_is : q.line ≡ p.line = after_word-line r.own p p.phase w gap in
    heard_go r q line 20 ws (Heard line w gap ∷ h) (rest_none w ws none) (ap (same_line line) line_is ∙ same)
    (hear_item (record r { window = Some p }) p q line w gap h refl (rw (first_none w ws none) refl) same line_is (after_word-command r.own p p.phase w gap)
    (λ items pending. after_word-pending r.own p w gap items pending) is)

pub run_heard : (r : Registers) (w : Option Pending) (p : Pending) (line : Line) (gap : ℕ) (waves : List ℕ) (h : History) → w ≡ Some p → AreNoCommands 0 waves → same_line line p.line ≡ true
    → StandsFor (record r { window = w }) h → StandsFor (record r { window = Some (after_run r.own p gap waves) }) (met (heard line gap waves) h)
run_heard r w p line gap waves h was none same is = heard_go r p line gap waves h none same (rw was at is)

-- ---- a word in a place where a due word may stand

taking_word : (own : ℕ) (p : Pending) (phase : Phase) (wave : ℕ) → phase ≡ Taking → after_word own p phase wave 20 ≡ with_due (if nat_lt (length p.words.items) (words_due p.command) then data_in wave else None) p
taking_word own p phase wave at_phase = rw at_phase refl

-- one more word is taken
pub word_taken : (own : ℕ) (p q : Pending) (v w : ℕ) (ws : List ℕ) → p.phase ≡ Taking → Some v ≡ (if nat_lt (length p.words.items) (words_due p.command) then data_in w else None)
    → q ≡ record p { words = record { items = p.words.items ++ v ∷ [] } } → after_run own q 20 ws ≡ after_run own p 20 (w ∷ ws)
word_taken own p q v w ws at_phase value is =
    let step : after_word own p p.phase w 20 ≡ with_due (Some v) p = taking_word own p p.phase w at_phase ∙ ap (λ d. with_due d p) (sym value) in
    let same : with_due (Some v) p ≡ q = sym (is ∙ ap (λ f. let x : Pending = record p { phase = f; words = record { items = p.words.items ++ v ∷ [] } } in x) at_phase) in
    ap (λ x. after_run own x 20 ws) (sym (step ∙ same))

-- ---- words in places where due words may stand, all of which are taken

-- a window after words all of which are due
pub run_taken : (own : ℕ) (p : Pending) (values waves items : List ℕ) → p.phase ≡ Taking → map Some values ≡ map data_in waves
    → length waves ≤ words_due p.command - length p.words.items → items ≡ p.words.items ++ values
    → record p { words = record { items = items } } ≡ after_run own p 20 waves
run_taken own p [] [] items taking same few is =
    ap (λ (xs : List ℕ). let q : Pending = record p { words = record { items = xs } } in q) (is ∙ append-nil p.words.items)
run_taken own p [] (w ∷ ws) items taking same few is = cc
run_taken own p (v ∷ vs) [] items taking same few is = cc
run_taken own p (v ∷ vs) (w ∷ ws) items taking same few is =
    let first : Some v ≡ data_in w = cc in
    let rest : map Some vs ≡ map data_in ws = cc in
    let due : nat_lt (length p.words.items) (words_due p.command) ≡ true = grind (arith, nat_tests) in
    let value : Some v ≡ (if nat_lt (length p.words.items) (words_due p.command) then data_in w else None) = rw due first in
    let q : Pending = record p { words = record { items = p.words.items ++ v ∷ [] } } in
    let fewer : length ws ≤ words_due p.command - length (p.words.items ++ v ∷ []) = omega (arith, few, length-append p.words.items (v ∷ [])) in
    run_taken own q vs ws items taking rest fewer (is ∙ sym (append_assoc p.words.items (v ∷ []) vs)) ∙ word_taken own p q v w ws taking value refl

-- ---- data words by their values

pub word-small : (v : ℕ) → v < 2 ^ 16 → word_of (data_wave v) ≡ Some (record { sync = DataSync; value = v })
word-small v small = word_of-wave (record { sync = DataSync; value = v }) small

pub first_small : (v : ℕ) (vs : List ℕ) → AreSmall (v ∷ vs) → v < 2 ^ 16
first_small v vs small = small 0 v (omega arith)

pub rest_small : (v : ℕ) (vs : List ℕ) → AreSmall (v ∷ vs) → AreSmall vs
rest_small v vs small = λ k d lt. small (suc k) d (omega (arith, lt))

pub value_none : (v : ℕ) → v < 2 ^ 16 → command_in (data_wave v) ≡ None
value_none v small = rw (word-small v small) refl

more_none : (w : ℕ) (ws : List ℕ) → command_in w ≡ None → AreNoCommands 0 ws → AreNoCommands 0 (w ∷ ws)
more_none w ws first rest zero d le lt = first
more_none w ws first rest (suc k) d le lt = rest k d zero-le (omega (arith, lt))

pub values_none : (values : List ℕ) → AreSmall values → AreNoCommands 0 (map data_wave values)
values_none [] small = λ k d le lt. absurd (omega (arith, lt))
values_none (v ∷ vs) small = more_none (data_wave v) (map data_wave vs) (value_none v (first_small v vs small)) (values_none vs (rest_small v vs small))

value_in : (v : ℕ) → v < 2 ^ 16 → Some v ≡ data_in (data_wave v)
value_in v small = rw (word-small v small) refl

values_in : (values : List ℕ) → AreSmall values → map Some values ≡ map data_in (map data_wave values)
values_in [] small = refl
values_in (v ∷ vs) small =
    let first = value_in v (first_small v vs small) in
    let rest = values_in vs (rest_small v vs small) in
    cc

-- whether due words may come next
abbrev pub may_take : Phase → Bool
may_take Start = true
may_take Taking = true
may_take (Called sender) = false
may_take (Waiting sender) = false
may_take LostTransfer = false
may_take Lost = false

begun : (own : ℕ) (p : Pending) (phase : Phase) (v : ℕ) → may_take phase ≡ true → v < 2 ^ 16 → nat_lt (length p.words.items) (words_due p.command) ≡ true
    → after_word own p phase (data_wave v) 20 ≡ with_due (Some v) p
begun own p Start v may small due = rw (value_none v small, due, ← value_in v small) refl
begun own p Taking v may small due = rw (due, ← value_in v small) refl
begun own p (Called sender) v may small due = cc
begun own p (Waiting sender) v may small due = cc
begun own p LostTransfer v may small due = cc
begun own p Lost v may small due = cc

-- a window after data words all of which are due
pub values_taken : (own : ℕ) (p : Pending) (gap : ℕ) (values items : List ℕ) → may_take p.phase ≡ true → AreSmall values → (gap == 20) ≡ true → (length values == 0) ≡ false
    → length values ≤ words_due p.command - length p.words.items → items ≡ p.words.items ++ values
    → record p { phase = Taking; words = record { items = items } } ≡ after_run own p gap (map data_wave values)
values_taken own p gap [] items may small at_once some few is = cc
values_taken own p gap (v ∷ vs) items may small at_once some few is =
    let twenty : gap ≡ 20 = grind (arith, nat_tests) in
    let due : nat_lt (length p.words.items) (words_due p.command) ≡ true = grind (arith, nat_tests) in
    let first = begun own p p.phase v may (first_small v vs small) due in
    let q : Pending = with_due (Some v) p in
    let fewer : length (map data_wave vs) ≤ words_due p.command - length (p.words.items ++ v ∷ []) = omega (arith, few, length-append p.words.items (v ∷ []), length-map vs data_wave) in
    run_taken own q vs (map data_wave vs) items refl (values_in vs (rest_small v vs small)) fewer (is ∙ sym (append_assoc p.words.items (v ∷ []) vs))
    ∙ ap (λ x. after_run own x 20 (map data_wave vs)) (sym first)
    ∙ ap (λ g. after_run own (after_word own p p.phase (data_wave v) g) 20 (map data_wave vs)) (sym twenty)

pub may_either : (phase : Phase) → (phase ≡ Start) ⊎ (phase ≡ Taking) → may_take phase ≡ true
may_either phase (inl e) = ap may_take e
may_either phase (inr e) = ap may_take e
