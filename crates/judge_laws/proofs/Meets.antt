-- A message whose parts are those of a form is clean.
use Rattle.std.proofs.Common.{◌≡◌, ℕ, suc, ◌+◌, ◌*◌, ◌/◌, ◌≤◌, ◌==◌, Bool, true, false, ◌&&◌, ◌||◌, List, [], ◌∷◌, ◌++◌, length, refl, sym, ap, ◌∙◌, arith, unwrap_or, Some, None}
use Rattle.std.specs.Prelude.{not, nat_lt, nat_le, if◌then◌else◌}
use Rattle.std.specs.List.{flat_map}
use Rattle.std.proofs.lemmas.Bool.{eq-eqb}
use Rattle.std.proofs.lemmas.Bool.Decides.{nat_tests}
use Rattle.std.proofs.lemmas.Slice.Eq.{bytes_eq-Decides}
use Rattle.byteorder.specs.Endian.{little_bytes}
use Rattle.mil_word.specs.Fields.{is_mode, is_transmit, is_broadcast, code_of, has_bit}
use Rattle.mil_mode.specs.Table.{is_known, is_broadcast_mode}
use Rattle.mil_message.specs.declared.forms.Form.{Form}
use Rattle.mil_message.specs.Forms as forms
use Rattle.mil_message.specs.Forms.{replies_due, first_command, second_command, form_number}
use Rattle.mil_message.specs.Parts.{Parts, parts_of}
use Rattle.mil_message.specs.Rules.{IsLawful}
use Rattle.mil_message.proofs.Checked.{checked-request_for}
use Rattle.mil_message.proofs.ReadBack.{read_back}
use Rattle.mil_terminal.specs.Verdicts.{is_unknown}
use Rattle.ch11_layout.specs.Stamps.{Recorded}
use Rattle.ch11_layout.specs.Layouts.{size_of, commands_in, is_between, first_gap, second_gap, last_gap, has_front, has_back, data_start, first_word, word_of}
use Rattle.ch11_layout.specs.Replies.{has_two, statuses, data_count, data_words, gaps}
use Rattle.bench_judge.specs.Clean.{has_no_error, may_be_sent, form_number_of, controller_sends, parts_in, form_with, has_parts, data_fit, replies_fit, is_sent_as, clean}
use Rattle.judge_laws.proofs.Bytes.{bytes-long}
use Rattle.judge_laws.proofs.Places.{IsLaidOut, word, count, are-statuses, are-data}

has_own_parts : (f : Form) → has_parts f (parts_of f) ≡ true
has_own_parts f =
    rw (
      eq-eqb (form_number f) (form_number f) refl,
      eq-eqb (first_command f) (first_command f) refl,
      eq-eqb (unwrap_or (second_command f) 0) (unwrap_or (second_command f) 0) refl,
      (bytes_eq-Decides (forms.data_words f) (forms.data_words f)).1 refl,
    ) refl

pub form-read : (f : Form) → IsLawful f → form_with (parts_of f) ≡ Some f
unfolding form_with
form-read f lawful = rw (read_back f lawful, checked-request_for f lawful, has_own_parts f) refl

pub conj : (a b c d : Bool) → a ≡ true → b ≡ true → c ≡ true → d ≡ true → (a && b && c && d) ≡ true
conj a b c d ea eb ec ed = rw (ea, eb, ec, ed) refl

pub same_parts : (n first second m one two : ℕ) (xs ys : List ℕ) → n ≡ m → first ≡ one → second ≡ two → xs ≡ ys
    → (let p : Parts = record { number = n; first = first; second = second; words = xs } in p) ≡ record { number = m; first = one; second = two; words = ys }
same_parts n first second m one two xs ys a b c d = cc

-- the numbers of a message with one command
one-command : (form : Form) (number first second : ℕ) (two : Bool) (words ds : List ℕ) → number ≡ form_number form → two ≡ false → first ≡ first_command form → words ≡ ds
    → second_command form ≡ None → (if controller_sends (form_number form) then ds else []) ≡ forms.data_words form
    → (let p : Parts = record { number = number; first = first; second = if two then second else 0; words = if controller_sends number then words else [] } in p) ≡ parts_of form
one-command form number first second two words ds n t f w alone sends =
    same_parts number first (if two then second else 0) (form_number form) (first_command form) (unwrap_or (second_command form) 0) (if controller_sends number then words else []) (forms.data_words form)
    n f (ap (λ b. if b then second else 0) t ∙ sym (ap (λ o. unwrap_or o 0) alone))
    (ap (λ k. if controller_sends k then words else []) n ∙ ap (λ (ws : List ℕ). if controller_sends (form_number form) then ws else []) w ∙ sends)

pub record Fits (m : Recorded) (form : Form) (c : ℕ) (fs ds bs : List ℕ) : Type 0 where
  pub laid : IsLaidOut m (c ∷ []) fs ds bs
  pub lawful : IsLawful form
  pub sound : has_no_error m.block ≡ true
  pub may_be : may_be_sent c ≡ true
  pub first : c ≡ first_command form
  pub alone : second_command form ≡ None
  pub number : form_number_of false c ≡ form_number form
  pub sends : (if controller_sends (form_number form) then ds else []) ≡ forms.data_words form
  pub few : length ds ≤ 32
  pub fit : (data_fit form (length ds) (fs ++ bs) && replies_fit (replies_due form) (fs ++ bs) (gaps m)) ≡ true

pub is-clean : (m : Recorded) (form : Form) (c : ℕ) (fs ds bs : List ℕ) → Fits m form c fs ds bs → clean m ≡ true
unfolding clean
is-clean m form c fs ds bs f =
    let many = count m (c ∷ []) fs ds bs f.laid in
    let found = are-statuses m (c ∷ []) fs ds bs f.laid in
    let sent_words = are-data m (c ∷ []) fs ds bs f.laid in
    let first : first_word m ≡ c = word m (c ∷ []) fs ds bs f.laid 0 (omega arith) in
    let one : has_two m ≡ false = ap (λ k. k == 2) f.laid.commands in
    let number : form_number_of (has_two m) (first_word m) ≡ form_number form = ap (λ b. form_number_of b (first_word m)) one ∙ ap (form_number_of false) first ∙ f.number in
    let parts : parts_in m ≡ parts_of form =
    one-command form (form_number_of (has_two m) (first_word m)) (first_word m) (word_of m.bytes 1) (has_two m) (data_words m) ds number one (first ∙ f.first) sent_words f.alone f.sends in
    let form_is : form_with (parts_in m) ≡ Some form = ap form_with parts ∙ form-read form f.lawful in
    let sent : is_sent_as (form_with (parts_in m)) m ≡ true =
    ap (λ o. is_sent_as o m) form_is
    ∙ ap (λ n. data_fit form n (statuses m) && replies_fit (replies_due form) (statuses m) (gaps m)) many
    ∙ ap (λ xs. data_fit form (length ds) xs && replies_fit (replies_due form) xs (gaps m)) found ∙ f.fit in
    let small : nat_le (data_count m) 32 ≡ true = ap (λ n. nat_le n 32) many ∙ le-32 (length ds) f.few in
    conj (has_no_error m.block) (may_be_sent (first_word m)) (nat_le (data_count m) 32) (is_sent_as (form_with (parts_in m)) m) f.sound (ap may_be_sent first ∙ f.may_be) small sent
  where
    le-32 : (n : ℕ) → n ≤ 32 → nat_le n 32 ≡ true
    le-32 n le = grind (arith, nat_tests)

-- a legal command may be sent
allowed : (m k twenty twenty_one b w t : Bool) → (if m then not (k && not twenty && not twenty_one) || b && not w else b && t) ≡ false → (not m || (k && (not b || w))) ≡ true
allowed false k x y b w t is = refl
allowed true false x y b w t is = cc
allowed true true true y b w t is = cc
allowed true true false true b w t is = cc
allowed true true false false false w t is = refl
allowed true true false false true true t is = refl
allowed true true false false true false t is = cc

pub legal-sent : (c : ℕ) → is_unknown c ≡ false → may_be_sent c ≡ true
legal-sent c is = allowed (is_mode c) (is_known (is_transmit c) (code_of c)) (code_of c == 20) (code_of c == 21) (is_broadcast c) (is_broadcast_mode (is_transmit c) (code_of c)) (is_transmit c) is

-- ---- where the words of a message with one command stand

and-false : (b : Bool) → (b && false) ≡ false
and-false true = refl
and-false false = refl

one-of : (n k : ℕ) (b : Bool) → n ≡ suc k → b ≡ false → ◌≡◌ {A = ℕ} (if n == 0 then 0 else if b && nat_lt 1 n then 2 else 1) 1
one-of n k b is alone =
    let some : (n == 0) ≡ false = grind (arith, nat_tests) in
    rw (some, alone) refl

pub size-is : (m : Recorded) (ws : List ℕ) → m.bytes ≡ flat_map (little_bytes 2) ws → size_of m ≡ length ws
size-is m ws is = ap (λ (bytes : List ℕ). length bytes / 2) is ∙ half (length (flat_map (little_bytes 2) ws)) (length ws) (bytes-long ws)
  where
    half : (n k : ℕ) → n ≡ 2 * k → n / 2 ≡ k
    half n k e = omega (arith, e)

module _ (m : Recorded) (c : ℕ) (rest : List ℕ) (bytes : m.bytes ≡ flat_map (little_bytes 2) (c ∷ rest)) (alone : has_bit 11 m.block ≡ false) where
  pub commands-one : commands_in m ≡ 1
  commands-one = one-of (size_of m) (length rest) (is_between m) (size-is m (c ∷ rest) bytes) alone

  -- no reply came
  pub front-none : first_gap m ≡ 0 → has_front m ≡ false
  front-none none = ap (λ g. nat_lt (commands_in m) (size_of m) && (not (g == 0) && (is_between m || (is_transmit (first_word m) && not (is_broadcast (first_word m)))))) none ∙ and-false (nat_lt (commands_in m) (size_of m))

  pub back-none : first_gap m ≡ 0 → has_back m ≡ false
  back-none none = ap (λ g. nat_lt (data_start m) (size_of m) && not (g == 0)) no_gap ∙ and-false (nat_lt (data_start m) (size_of m))
    where
      no_gap : last_gap m ≡ 0
      no_gap = of (is_between m) (has_front m) (second_gap m) (first_gap m) alone none
        where
          of : (a b : Bool) (x y : ℕ) → a ≡ false → y ≡ 0 → (if a then x else if b then 0 else y) ≡ 0
          of a true x y ea ey = rw ea refl
          of a false x y ea ey = rw (ea, ey) refl

  -- one came, in front of the data words where the command is one to transmit
  pub front-some : (t : Bool) → 1 ≤ length rest → (first_gap m == 0) ≡ false → is_transmit (first_word m) ≡ t → is_broadcast (first_word m) ≡ false → has_front m ≡ t
  front-some t some gap transmit single =
      all-of (nat_lt (commands_in m) (size_of m)) (first_gap m == 0) (is_between m) (is_transmit (first_word m)) (is_broadcast (first_word m)) t less gap alone transmit single
    where
      less : nat_lt (commands_in m) (size_of m) ≡ true
      less = two (commands_in m) (size_of m) commands-one (size-is m (c ∷ rest) bytes)
        where
          two : (x y : ℕ) → x ≡ 1 → y ≡ suc (length rest) → nat_lt x y ≡ true
          two x y ex ey = grind (arith, nat_tests)

      all-of : (l g b x y z : Bool) → l ≡ true → g ≡ false → b ≡ false → x ≡ z → y ≡ false → (l && (not g && (b || (x && not y)))) ≡ z
      all-of l g b x y true el eg eb ex ey = rw (el, eg, eb, ex, ey) refl
      all-of l g b x y false el eg eb ex ey = rw (el, eg, eb, ex) refl

  pub back-behind : has_front m ≡ true → has_back m ≡ false
  back-behind front = ap (λ g. nat_lt (data_start m) (size_of m) && not (g == 0)) (of (is_between m) (has_front m) (second_gap m) (first_gap m) alone front) ∙ and-false (nat_lt (data_start m) (size_of m))
    where
      of : (a b : Bool) (x y : ℕ) → a ≡ false → b ≡ true → (if a then x else if b then 0 else y) ≡ 0
      of a b x y ea eb = rw (ea, eb) refl

  pub back-some : has_front m ≡ false → 1 ≤ length rest → (first_gap m == 0) ≡ false → has_back m ≡ true
  back-some front some gap =
      last-of (nat_lt (data_start m) (size_of m)) (last_gap m) (first_gap m) less (of (is_between m) (has_front m) (second_gap m) (first_gap m) alone front) gap
    where
      of : (a b : Bool) (x y : ℕ) → a ≡ false → b ≡ false → (if a then x else if b then 0 else y) ≡ y
      of a b x y ea eb = rw (ea, eb) refl

      start : (k : ℕ) (b : Bool) → k ≡ 1 → b ≡ false → k + (if b then 1 else 0) ≡ 1
      start k b ek eb = rw (ek, eb) refl

      less : nat_lt (data_start m) (size_of m) ≡ true
      less = two (data_start m) (size_of m) (start (commands_in m) (has_front m) commands-one front) (size-is m (c ∷ rest) bytes)
        where
          two : (x y : ℕ) → x ≡ 1 → y ≡ suc (length rest) → nat_lt x y ≡ true
          two x y ex ey = grind (arith, nat_tests)

      last-of : (l : Bool) (g h : ℕ) → l ≡ true → g ≡ h → (h == 0) ≡ false → (l && not (g == 0)) ≡ true
      last-of l g h el eg eh = rw (el, eg, eh) refl
