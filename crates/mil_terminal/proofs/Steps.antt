-- The small state of a window, step by step.
use Rattle.std.proofs.Common.{◌≡◌, ℕ, zero, suc, ◌+◌, ◌-◌, ◌<◌, ◌≤◌, List, [], ◌∷◌, ◌++◌, length, refl, ap, ◌∙◌, arith, append_assoc, length-append, append-nil}
use Rattle.std.specs.Prelude.{IfSome, IfNone, Bool, true, false, ◌&&◌, ◌==◌, nat_lt, not, Option, Some, None, if◌then◌else◌}
use Rattle.std.specs.Option.{option_and_then}
use Rattle.arrayvec.specs.ArrayVec.{ArrayVec}
use Rattle.std.proofs.lemmas.Bool.Decides.{nat_tests}
use Rattle.std.specs.List.{filter_map, cons_option}
use Rattle.mil_word.specs.declared.Line.{Line}
use Rattle.mil_word.specs.declared.Word.{Word}
use Rattle.mil_word.specs.Wave.{word_of}
use Rattle.mil_terminal.specs.declared.events.Event.{Event}
use Rattle.mil_terminal.specs.declared.events.Event.TheVariants.{Heard, Quiet}
use Rattle.mil_word.specs.Words.{command_in, data_in, value_if, is_command_sync}
use Rattle.mil_terminal.specs.Windows.{sender_called, has_quiets, is_decided}
use Rattle.mil_terminal.specs.Verdicts.{words_due, are_due_words, is_from, is_in_time, has_good_shape}
use Rattle.mil_terminal.specs.Registers.{value_of}
use Rattle.mil_terminal.specs.declared.pending.Phase.{Phase}
use Rattle.mil_terminal.specs.declared.pending.Phase.TheVariants.{Start, Taking, Called, Waiting, LostTransfer, Lost}
use Rattle.mil_terminal.specs.declared.pending.Pending.{Pending}
use Rattle.mil_terminal.specs.Phases.{shape_left, quiets_left, is_alive, is_before_words, IsPending, with_due, due_value, with_first, after_word, decides, shape_now, phase_after_quiet, window_of}

-- what the shape and the quiets make of one more item
pub carried : (own : ℕ) (p q : Pending) (items : List Event) (e : Event)
    → q.command ≡ p.command
    → IsPending own p items
    → length q.words.items ≤ words_due q.command
    → (q.phase ≡ Start → items ++ e ∷ [] ≡ [])
    → (is_before_words q.phase ≡ true → q.words.items ≡ [])
    → ((more : List Event) → shape_left own p.phase p.command (length p.words.items) (e ∷ more) ≡ shape_left own q.phase p.command (length q.words.items) more)
    → ((more : List Event) → has_quiets (quiets_left own p.phase p.command (e ∷ more)) (e ∷ more) ≡ has_quiets (quiets_left own q.phase p.command more) more)
    → (is_alive q.phase ≡ true → filter_map value_of (items ++ e ∷ []) ≡ q.words.items)
    → IsPending own q (items ++ e ∷ [])
carried own p q items e same is few start before_words shape quiets words = record {
  few = few;
  start = start;
  before_words = before_words;
  shape = λ more. rw (same, append_assoc) (is.shape (e ∷ more) ∙ shape more);
  quiets = λ more. rw (same, append_assoc) (is.quiets (e ∷ more) ∙ quiets more);
  words = words;
}

data_if_command : (s : Option Word) (c : ℕ) → option_and_then (λ (w : Word). value_if (is_command_sync w.sync) w.value) s ≡ Some c
    → option_and_then (λ (w : Word). value_if (not (is_command_sync w.sync)) w.value) s ≡ None
data_if_command None c is = refl
data_if_command (Some w) c is = go (is_command_sync w.sync) is
  where
    go : (b : Bool) → value_if b w.value ≡ Some c → value_if (not b) w.value ≡ None
    go true h = refl
    go false h = cc

-- a word with command sync has no data
pub data_of-command : (wave c : ℕ) → command_in wave ≡ Some c → data_in wave ≡ None
data_of-command wave c is = data_if_command (word_of wave) c is

some_from : {X Y : Type 0} (f : X → Option Y) (s : Option X) (y : Y) → option_and_then f s ≡ Some y → (x : X) × (s ≡ Some x)
some_from f None y is = cc
some_from f (Some x) y is = (x, refl)

put_before : (v : Option ℕ) (xs ys : List ℕ) → cons_option v (xs ++ ys) ≡ cons_option v xs ++ ys
put_before None xs ys = refl
put_before (Some v) xs ys = refl

pub filter_map-push : (f : Event → Option ℕ) (items : List Event) (e : Event) → filter_map f (items ++ e ∷ []) ≡ filter_map f items ++ cons_option (f e) []
filter_map-push f [] e = refl
filter_map-push f (x ∷ items) e = ap (cons_option (f x)) (filter_map-push f items e) ∙ put_before (f x) (filter_map f items) (cons_option (f e) [])

and_false : (b : Bool) → (b && false) ≡ false
and_false true = refl
and_false false = refl

not_due_gap : (m wave gap : ℕ) (line : Line) (more : List Event) → (gap == 20) ≡ false → are_due_words m (Heard line wave gap ∷ more) ≡ false
not_due_gap zero wave gap line more h = refl
not_due_gap (suc m) wave gap line more h = rw h refl

not_due_data : (m wave gap : ℕ) (line : Line) (more : List Event) → data_in wave ≡ None → are_due_words m (Heard line wave gap ∷ more) ≡ false
not_due_data zero wave gap line more h = refl
not_due_data (suc m) wave gap line more h = rw (h, and_false) refl

too_many : (m wave gap : ℕ) (line : Line) (more : List Event) → m ≡ 0 → are_due_words m (Heard line wave gap ∷ more) ≡ false
too_many m wave gap line more none = rw none refl

one_due : (m n wave gap value : ℕ) (line : Line) (more : List Event) → m ≡ suc n → (gap == 20) ≡ true → data_in wave ≡ Some value → are_due_words m (Heard line wave gap ∷ more) ≡ are_due_words n more
one_due m n wave gap value line more is gap_is data_is = rw (is, gap_is, data_is) refl

module _ (own : ℕ) (line : Line) (command : ℕ) (phase : Phase) (words : ArrayVec ℕ) (wave gap : ℕ) (items : List Event) where
  abbrev this : Pending
  this = record { line = line; command = command; phase = phase; words = words }

  abbrev e : Event
  e = Heard line wave gap

  no_more : IsPending own this items
      → ((more : List Event) → shape_left own phase command (length words.items) (e ∷ more) ≡ false)
      → ((more : List Event) → has_quiets (quiets_left own phase command (e ∷ more)) (e ∷ more) ≡ has_quiets 1 more)
      → IsPending own (record this { phase = Lost }) (items ++ e ∷ [])
  no_more is shape quiets = carried own this (record this { phase = Lost }) items e refl is is.few (λ h. cc) (λ h. cc) shape quiets (λ h. cc)

  due_go : (b1 b2 : Bool) (d : Option ℕ) → (gap == 20) ≡ b1 → nat_lt (length words.items) (words_due command) ≡ b2 → data_in wave ≡ d
      → IsPending own this items
      → filter_map value_of items ≡ words.items
      → ((more : List Event) → shape_left own phase command (length words.items) (e ∷ more) ≡ are_due_words (words_due command - length words.items) (e ∷ more))
      → ((more : List Event) → has_quiets (quiets_left own phase command (e ∷ more)) (e ∷ more) ≡ has_quiets 1 more)
      → IsPending own (with_due (if b1 && b2 then d else None) this) (items ++ e ∷ [])
  due_go false b2 d gap_is room data_is is had shape quiets = no_more is (λ more. shape more ∙ not_due_gap _ wave gap line more gap_is) quiets
  due_go true false d gap_is room data_is is had shape quiets = no_more is (λ more. shape more ∙ too_many _ wave gap line more (grind (arith, nat_tests))) quiets
  due_go true true None gap_is room data_is is had shape quiets = no_more is (λ more. shape more ∙ not_due_data _ wave gap line more data_is) quiets
  due_go true true (Some value) gap_is room data_is is had shape quiets =
      let more_room : length words.items < words_due command = grind (arith, nat_tests) in
      let long : length (words.items ++ value ∷ []) ≡ length words.items + 1 = length-append words.items (value ∷ []) in
      let left : words_due command - length words.items ≡ suc (words_due command - length (words.items ++ value ∷ [])) = omega arith in
      carried own this (with_due (Some value) this) items e refl is (omega arith) (λ h. cc) (λ h. cc)
      (λ more. shape more ∙ one_due _ _ wave gap value line more left gap_is data_is)
      quiets
      (λ h. rw (filter_map-push value_of items e, data_is, had) refl)

  pub due : IsPending own this items
      → filter_map value_of items ≡ words.items
      → ((more : List Event) → shape_left own phase command (length words.items) (e ∷ more) ≡ are_due_words (words_due command - length words.items) (e ∷ more))
      → ((more : List Event) → has_quiets (quiets_left own phase command (e ∷ more)) (e ∷ more) ≡ has_quiets 1 more)
      → IsPending own (with_due (due_value this wave gap) this) (items ++ e ∷ [])
  due is had shape quiets = due_go (gap == 20) (nat_lt (length words.items) (words_due command)) (data_in wave) refl refl refl is had shape quiets

abbrev at : Line → ℕ → Phase → ArrayVec ℕ → Pending
at line command phase words = record { line = line; command = command; phase = phase; words = words }

none_off : (m : ℕ) → m ≡ m - 0
none_off m = omega arith

first_go : (own : ℕ) (line : Line) (command : ℕ) (words : ArrayVec ℕ) (wave gap : ℕ) (items : List Event) (s : Option ℕ)
    → sender_called own command wave gap ≡ s → IsPending own (at line command Start words) items
    → IsPending own (with_first s (at line command Start words) wave gap) (items ++ Heard line wave gap ∷ [])
first_go own line command words wave gap items None h is =
    let none : length words.items ≡ 0 = ap length (is.before_words refl) in
    due own line command Start words wave gap items is (is.words refl)
    (λ more. rw (h, none) (ap (λ m. are_due_words m (Heard line wave gap ∷ more)) (none_off (words_due command))))
    (λ more. rw h refl)
first_go own line command words wave gap items (Some sender) h is =
    let called = some_from _ (command_in wave) sender h in
    let no_data : data_in wave ≡ None = data_of-command wave called.0 called.1 in
    carried own (at line command Start words) (at line command (Called sender) words) items (Heard line wave gap) refl is is.few (λ k. cc) (λ k. is.before_words refl)
    (λ more. rw h refl)
    (λ more. rw h refl)
    (λ k. rw (filter_map-push value_of items (Heard line wave gap), no_data, append-nil) (is.words refl))

answer_go : (own : ℕ) (line : Line) (command sender : ℕ) (words : ArrayVec ℕ) (wave gap : ℕ) (items : List Event) (s : Option ℕ) (b : Bool)
    → command_in wave ≡ s → (is_from sender s && is_in_time gap) ≡ b → IsPending own (at line command (Waiting sender) words) items
    → IsPending own (at line command (if b then Taking else Lost) words) (items ++ Heard line wave gap ∷ [])
answer_go own line command sender words wave gap items s false h test is =
    carried own (at line command (Waiting sender) words) (at line command Lost words) items (Heard line wave gap) refl is is.few (λ k. cc) (λ k. cc)
    (λ more. rw (h, test) refl)
    (λ more. refl)
    (λ k. cc)
answer_go own line command sender words wave gap items None true h test is = cc
answer_go own line command sender words wave gap items (Some c) true h test is =
    let no_data : data_in wave ≡ None = data_of-command wave c h in
    let none : length words.items ≡ 0 = ap length (is.before_words refl) in
    carried own (at line command (Waiting sender) words) (at line command Taking words) items (Heard line wave gap) refl is is.few (λ k. cc) (λ k. cc)
    (λ more. rw (h, test, none) (ap (λ m. are_due_words m more) (none_off (words_due command))))
    (λ more. refl)
    (λ k. rw (filter_map-push value_of items (Heard line wave gap), no_data, append-nil) (is.words refl))

pub word_step : (own : ℕ) (line : Line) (command : ℕ) (phase : Phase) (words : ArrayVec ℕ) (wave gap : ℕ) (items : List Event)
    → IsPending own (at line command phase words) items
    → IsPending own (after_word own (at line command phase words) phase wave gap) (items ++ Heard line wave gap ∷ [])
word_step own line command Start words wave gap items is = first_go own line command words wave gap items (sender_called own command wave gap) refl is
word_step own line command Taking words wave gap items is = due own line command Taking words wave gap items is (is.words refl) (λ more. refl) (λ more. refl)
word_step own line command (Called sender) words wave gap items is =
    carried own (at line command (Called sender) words) (at line command LostTransfer words) items (Heard line wave gap) refl is is.few (λ h. cc) (λ h. cc) (λ more. refl) (λ more. refl) (λ h. cc)
word_step own line command (Waiting sender) words wave gap items is =
    answer_go own line command sender words wave gap items (command_in wave) (is_from sender (command_in wave) && is_in_time gap) refl refl is
word_step own line command LostTransfer words wave gap items is =
    carried own (at line command LostTransfer words) (at line command LostTransfer words) items (Heard line wave gap) refl is is.few (λ h. cc) (λ h. cc) (λ more. refl) (λ more. refl) (λ h. cc)
word_step own line command Lost words wave gap items is =
    carried own (at line command Lost words) (at line command Lost words) items (Heard line wave gap) refl is is.few (λ h. cc) (λ h. cc) (λ more. refl) (λ more. refl) (λ h. cc)

pub after_word-pending : (own : ℕ) (p : Pending) (wave gap : ℕ) (items : List Event) → IsPending own p items → IsPending own (after_word own p p.phase wave gap) (items ++ Heard p.line wave gap ∷ [])
after_word-pending own p wave gap items is = word_step own p.line p.command p.phase p.words wave gap items is

-- a quiet that does not decide the window
pub after_quiet-pending : (own : ℕ) (p : Pending) (phase : Phase) (items : List Event) → p.phase ≡ phase → decides phase ≡ false → IsPending own p items
    → IsPending own (record p { phase = phase_after_quiet phase }) (items ++ Quiet p.line ∷ [])
after_quiet-pending own p Start items at_phase still is = cc
after_quiet-pending own p Taking items at_phase still is = cc
after_quiet-pending own p (Waiting sender) items at_phase still is = cc
after_quiet-pending own p Lost items at_phase still is = cc
after_quiet-pending own p (Called sender) items at_phase still is =
    carried own p (record p { phase = Waiting sender }) items (Quiet p.line) refl is is.few (λ h. cc) (λ h. is.before_words (rw at_phase refl))
    (λ more. rw at_phase refl)
    (λ more. rw at_phase refl)
    (λ h. rw (filter_map-push value_of items (Quiet p.line), append-nil) (is.words (rw at_phase refl)))
after_quiet-pending own p LostTransfer items at_phase still is =
    carried own p (record p { phase = Lost }) items (Quiet p.line) refl is is.few (λ h. cc) (λ h. cc) (λ more. rw at_phase refl) (λ more. rw at_phase refl) (λ h. cc)

decides_is : (own command : ℕ) (phase : Phase) (line : Line) → has_quiets (quiets_left own phase command (Quiet line ∷ [])) (Quiet line ∷ []) ≡ decides phase
decides_is own command Start line = refl
decides_is own command Taking line = refl
decides_is own command (Called sender) line = refl
decides_is own command (Waiting sender) line = refl
decides_is own command LostTransfer line = refl
decides_is own command Lost line = refl

-- whether the quiet decides the window
pub is_decided_by-quiet : (own : ℕ) (p : Pending) (items : List Event) → IsPending own p items → is_decided own (window_of p (items ++ Quiet p.line ∷ [])) ≡ decides p.phase
is_decided_by-quiet own p items is = is.quiets (Quiet p.line ∷ []) ∙ decides_is own p.command p.phase p.line

none_left : (m : ℕ) (line : Line) → are_due_words m (Quiet line ∷ []) ≡ (m == 0)
none_left zero line = refl
none_left (suc m) line = grind (arith, nat_tests)

same_test : (m n : ℕ) → n ≤ m → (m - n == 0) ≡ (m == n)
same_test m n le = grind (arith, nat_tests)

shape_is : (own command taken : ℕ) (p : Pending) (phase : Phase) (line : Line) → taken ≡ length p.words.items → command ≡ p.command → taken ≤ words_due command → shape_left own phase command taken (Quiet line ∷ []) ≡ shape_now p phase
shape_is own command taken p Start line a b le = none_left (words_due command) line ∙ rw b refl
shape_is own command taken p Taking line a b le = none_left (words_due command - taken) line ∙ rw (a, b) (same_test (words_due p.command) (length p.words.items) (rw (← b, ← a) le))
shape_is own command taken p (Called sender) line a b le = refl
shape_is own command taken p (Waiting sender) line a b le = refl
shape_is own command taken p LostTransfer line a b le = refl
shape_is own command taken p Lost line a b le = refl

-- the shape of the window that the quiet decides
pub shape_of-quiet : (own : ℕ) (p : Pending) (items : List Event) → IsPending own p items → has_good_shape own (window_of p (items ++ Quiet p.line ∷ [])) ≡ shape_now p p.phase
shape_of-quiet own p items is = is.shape (Quiet p.line ∷ []) ∙ shape_is own p.command (length p.words.items) p p.phase p.line refl refl is.few

-- what a quiet that decides the window tells of it
abbrev pub Decided : ℕ → Pending → List Event → Bool → Type 0
Decided own p items shape =
    (is_decided own (window_of p (items ++ Quiet p.line ∷ [])) ≡ true)
    × (has_good_shape own (window_of p (items ++ Quiet p.line ∷ [])) ≡ shape)
    × (shape ≡ true → filter_map value_of (items ++ Quiet p.line ∷ []) ≡ p.words.items)

alive_if_good : (p : Pending) (phase : Phase) → shape_now p phase ≡ true → is_alive phase ≡ true
alive_if_good p Start h = refl
alive_if_good p Taking h = refl
alive_if_good p (Called sender) h = cc
alive_if_good p (Waiting sender) h = cc
alive_if_good p LostTransfer h = cc
alive_if_good p Lost h = cc

pub quiet_decided : (own : ℕ) (p : Pending) (items : List Event) (b : Bool) → decides p.phase ≡ b → IsPending own p items
    → IfSome (if b then Some (shape_now p p.phase) else None) (Decided own p items)
quiet_decided own p items false h is = tt
quiet_decided own p items true h is = (
  is_decided_by-quiet own p items is ∙ h,
  shape_of-quiet own p items is,
  λ good. rw (filter_map-push value_of items (Quiet p.line), append-nil) (is.words (alive_if_good p p.phase good)),
)

pub quiet_pending : (own : ℕ) (p : Pending) (items : List Event) (b : Bool) → decides p.phase ≡ b → IsPending own p items
    → IfNone (if b then Some (shape_now p p.phase) else None) ((is_decided own (window_of p (items ++ Quiet p.line ∷ [])) ≡ false) × IsPending own (record p { phase = phase_after_quiet p.phase }) (items ++ Quiet p.line ∷ []))
quiet_pending own p items true h is = tt
quiet_pending own p items false h is = (is_decided_by-quiet own p items is ∙ h, after_quiet-pending own p p.phase items refl h is)
