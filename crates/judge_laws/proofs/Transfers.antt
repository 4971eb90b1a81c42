-- What is recorded of a transfer between terminals is clean, where its replies came as they are due.
use Rattle.std.proofs.Common.{◌≡◌, ℕ, suc, ◌+◌, ◌^◌, ◌<◌, ◌≤◌, ◌==◌, Bool, true, false, ◌&&◌, ◌||◌, List, [], ◌∷◌, ◌++◌, map, length, refl, sym, ap, ◌∙◌, arith, append_assoc, unwrap_or, Option, Some, None}
use Rattle.std.specs.Prelude.{not, nat_lt, nat_le, if◌then◌else◌}
use Rattle.std.specs.List.{flat_map}
use Rattle.std.proofs.lemmas.Bool.Decides.{nat_tests}
use Rattle.byteorder.specs.Endian.{little_bytes}
use Rattle.mil_word.specs.declared.Line.{Line}
use Rattle.mil_word.specs.declared.Sync.TheVariants.{CommandSync}
use Rattle.mil_word.specs.Words.{command_wave, data_wave}
use Rattle.mil_word.specs.Fields.{address_of, is_transmit, is_broadcast, has_bit}
use Rattle.mil_word.proofs.Reading.{word_of-wave}
use Rattle.mil_message.specs.declared.forms.Due.{Due}
use Rattle.mil_message.specs.declared.forms.Form.{Form}
use Rattle.mil_message.specs.Forms as forms
use Rattle.mil_message.specs.Forms.{first_command, second_command, replies_due, controller_words, form_number}
use Rattle.mil_message.specs.Parts.{Parts, parts_of}
use Rattle.mil_message.specs.Rules.{IsLawful}
use Rattle.mil_bus.specs.declared.talks.Source.TheVariants.{Controller, Terminal}
use Rattle.mil_bus.specs.declared.talks.Sent.{Sent}
use Rattle.mil_bus.specs.declared.counts.Came.{Came}
use Rattle.mil_bus.specs.Counts.{counts_of}
use Rattle.mil_bus.specs.Pass.{noted}
use Rattle.mil_bus.specs.Lengthened.{goes_on, lengthened}
use Rattle.mil_bus.specs.BlockStatus.{first_due, second_due, is_late, is_miscounted, has_other_address, bit_if, is_line_b, is_transfer, has_response_time_out, has_word_count_error, has_error, block_of}
use Rattle.mil_bus.specs.Exchange.{contiguous_run}
use Rattle.mil_bus.proofs.Passes.{and_false, counts_of-push}
use Rattle.ch11_layout.specs.Stamps.{Recorded}
use Rattle.ch11_layout.specs.Layouts.{size_of, commands_in, is_between, first_gap, second_gap, last_gap, first_word, has_front, has_back, data_start, word_of}
use Rattle.ch11_layout.specs.Replies.{has_two, statuses, data_count, data_words, gaps}
use Rattle.bench_judge.specs.Clean.{has_no_error, may_be_sent, form_number_of, controller_sends, parts_in, form_with, data_fit, replies_fit, is_sent_as, clean}
use Rattle.judge_laws.specs.Messages.{IsDueReply}
use Rattle.judge_laws.proofs.Words.{AreSmall}
use Rattle.judge_laws.proofs.Counting.{nothing_wrong, nothing_but, neither, came, counts-data, none-below}
use Rattle.judge_laws.proofs.Places.{IsLaidOut, word, count, are-statuses}
use Rattle.judge_laws.proofs.Meets.{form-read, conj, same_parts, size-is}
use Rattle.judge_laws.proofs.Sound.{none-of, none-of-two, none-of-three, counted}

-- ---- the counts

counts-but : (due g c1 c2 : ℕ) → c1 < 2 ^ 16 → c2 < 2 ^ 16
    → counts_of 2 due (contiguous_run 0 Controller g (command_wave c1 ∷ command_wave c2 ∷ [])) ≡ nothing_but ((nat_lt 0 due && false) || (nat_lt 1 due && false)) 2 None None
unfolding counts_of
counts-but due g c1 c2 small1 small2 = rw (word_of-wave (record { sync = CommandSync; value = c1 }) small1, word_of-wave (record { sync = CommandSync; value = c2 }) small2, none-below due) refl

pub counts-commands : (due g c1 c2 : ℕ) → c1 < 2 ^ 16 → c2 < 2 ^ 16 → counts_of 2 due (contiguous_run 0 Controller g (command_wave c1 ∷ command_wave c2 ∷ [])) ≡ nothing_wrong 2 None None
counts-commands due g c1 c2 small1 small2 = counts-but due g c1 c2 small1 small2 ∙ ap (λ b. nothing_but b 2 None None) (neither (nat_lt 0 due) (nat_lt 1 due))

abbrev status_word : ℕ → ℕ → ℕ → ℕ → Sent
status_word run address gap status = record { wave = command_wave status; gap = gap; run = run; source = Terminal address }

noted-one : (due address gap status : ℕ) → status < 2 ^ 16 → nat_lt due 1 ≡ false → nat_lt 0 due ≡ true → noted 2 due (nothing_wrong 2 None None) (status_word 1 address gap status) ≡ nothing_wrong 2 (Some (came gap status [])) None
noted-one due address gap status small some more =
    let only : noted 2 due (nothing_wrong 2 None None) (status_word 1 address gap status) ≡ nothing_but (not (gap == 20) && false) 2 (Some (came gap status [])) None =
    rw (word_of-wave (record { sync = CommandSync; value = status }) small, some, more) refl in
    only ∙ ap (λ b. nothing_but b 2 (Some (came gap status [])) None) (and_false (not (gap == 20)))

-- the sender's reply
pub counts-sender : (due address gap status : ℕ) (values : List ℕ) (xs : List Sent) → 1 ≤ due → due ≤ 2 → status < 2 ^ 16 → AreSmall values → counts_of 2 due xs ≡ nothing_wrong 2 None None
    → counts_of 2 due (xs ++ contiguous_run 1 (Terminal address) gap (command_wave status ∷ map data_wave values)) ≡ nothing_wrong 2 (Some (came gap status values)) None
counts-sender due address gap status values xs some few small words is =
    let ys = contiguous_run 1 (Terminal address) 20 (map data_wave values) in
    let w = status_word 1 address gap status in
    let less : nat_lt due 1 ≡ false = grind (arith, nat_tests) in
    let more : nat_lt 0 due ≡ true = grind (arith, nat_tests) in
    let one : counts_of 2 due (xs ++ w ∷ []) ≡ nothing_wrong 2 (Some (came gap status [])) None =
    counts_of-push 2 due few xs w ∙ ap (λ s. noted 2 due s w) is ∙ noted-one due address gap status small less more in
    ap (counts_of 2 due) (sym (append_assoc xs (w ∷ []) ys))
    ∙ counts-data 2 due few (xs ++ w ∷ []) 1 (Terminal address) values words (ap (λ s. goes_on 2 due s 1) one ∙ rw less refl) ∙ ap (λ s. lengthened s 1 (length values)) one

-- and the receiver's, a status word alone
pub counts-receiver : (address gap status : ℕ) (one : Came) (xs : List Sent) → status < 2 ^ 16 → counts_of 2 2 xs ≡ nothing_wrong 2 (Some one) None
    → counts_of 2 2 (xs ++ contiguous_run 2 (Terminal address) gap (command_wave status ∷ [])) ≡ nothing_wrong 2 (Some one) (Some (came gap status []))
counts-receiver address gap status one xs small is =
    counts_of-push 2 2 (omega arith) xs (status_word 2 address gap status) ∙ ap (λ s. noted 2 2 s (status_word 2 address gap status)) is ∙ noted-two
  where
    noted-two : noted 2 2 (nothing_wrong 2 (Some one) None) (status_word 2 address gap status) ≡ nothing_wrong 2 (Some one) (Some (came gap status []))
    noted-two =
        let only : noted 2 2 (nothing_wrong 2 (Some one) None) (status_word 2 address gap status) ≡ nothing_but (not (gap == 20) && false) 2 (Some one) (Some (came gap status [])) =
        rw (word_of-wave (record { sync = CommandSync; value = status }) small) refl in
        only ∙ ap (λ b. nothing_but b 2 (Some one) (Some (came gap status []))) (and_false (not (gap == 20)))

-- ---- the block status word

abbrev pub transfer_bits : Bool → ℕ
transfer_bits b = if b then 10240 else 2048

transfer-sum : (b e t f l w o u : Bool) → e ≡ false → t ≡ true → f ≡ false → l ≡ false → w ≡ false → o ≡ false → u ≡ false
    → bit_if b 8192 + bit_if e 4096 + bit_if t 2048 + bit_if f 1024 + bit_if l 512 + bit_if w 32 + bit_if o 16 + bit_if u 8 ≡ transfer_bits b
transfer-sum true e t f l w o u ee et ef el ew eo eu = rw (ee, et, ef, el, ew, eo, eu) refl
transfer-sum false e t f l w o u ee et ef el ew eo eu = rw (ee, et, ef, el, ew, eo, eu) refl

pub no-error : (b : Bool) → has_no_error (transfer_bits b) ≡ true
no-error true = refl
no-error false = refl

pub between-bit : (b : Bool) → has_bit 11 (transfer_bits b) ≡ true
between-bit true = refl
between-bit false = refl

-- a reply as it is due is neither late nor miscounted, nor from another
pub reply-in-time : (due : Due) (gap status : ℕ) (values : List ℕ) → IsDueReply due gap status values → is_late (Some due) (Some (came gap status values)) ≡ false
reply-in-time due gap status values is = late gap is.no_later
  where
    late : (n : ℕ) → n ≤ 120 → nat_lt 140 n ≡ false
    late n le = grind (arith, nat_tests)

pub reply-counted : (due : Due) (gap status : ℕ) (values : List ℕ) → IsDueReply due gap status values → is_miscounted (Some due) (Some (came gap status values)) ≡ false
reply-counted due gap status values is =
    let right : not (1 + length values == due.words + 1) ≡ false = counted (1 + length values) (due.words + 1) (omega (arith, is.many)) in
    rw right refl

pub reply-own : (due : Due) (gap status : ℕ) (values : List ℕ) → IsDueReply due gap status values → has_other_address (Some due) (Some (came gap status values)) ≡ false
reply-own due gap status values is = counted (address_of status) due.address is.address

pub block-with : (line : Line) (form : Form) (one two : Option Came) → is_transfer form ≡ true → 2 ≡ length (controller_words form)
    → is_late (first_due (replies_due form)) one ≡ false → is_late (second_due (replies_due form)) two ≡ false
    → is_miscounted (first_due (replies_due form)) one ≡ false → is_miscounted (second_due (replies_due form)) two ≡ false
    → has_other_address (first_due (replies_due form)) one ≡ false → has_other_address (second_due (replies_due form)) two ≡ false
    → block_of line form (nothing_wrong 2 one two) ≡ transfer_bits (is_line_b line)
block-with line form one two transfer long l1 l2 m1 m2 a1 a2 =
    let s = nothing_wrong 2 one two in
    let late : has_response_time_out form s ≡ false = none-of-two (is_late (first_due (replies_due form)) one) (is_late (second_due (replies_due form)) two) l1 l2 in
    let words : has_word_count_error form s ≡ false =
    none-of-three (not (2 == length (controller_words form))) (is_miscounted (first_due (replies_due form)) one) (is_miscounted (second_due (replies_due form)) two) (counted 2 (length (controller_words form)) long) m1 m2 in
    let error : has_error form s ≡ false =
    none-of (has_response_time_out form s) (has_word_count_error form s) false false false (has_other_address (first_due (replies_due form)) one) (has_other_address (second_due (replies_due form)) two) false
    late words refl refl refl a1 a2 refl in
    transfer-sum (is_line_b line) (has_error form s) (is_transfer form) false (has_response_time_out form s) (has_word_count_error form s) false false error transfer refl late words refl refl

-- ---- a message with two commands

two-of : (n k : ℕ) (b : Bool) → n ≡ suc (suc k) → b ≡ true → ◌≡◌ {A = ℕ} (if n == 0 then 0 else if b && nat_lt 1 n then 2 else 1) 2
two-of n k b is both =
    let some : (n == 0) ≡ false = grind (arith, nat_tests) in
    let more : nat_lt 1 n ≡ true = grind (arith, nat_tests) in
    rw (some, both, more) refl

two-commands : (form : Form) (number first second c2 : ℕ) (two : Bool) (words : List ℕ) → number ≡ form_number form → two ≡ true → first ≡ first_command form → second ≡ c2
    → second_command form ≡ Some c2 → controller_sends (form_number form) ≡ false → forms.data_words form ≡ []
    → (let p : Parts = record { number = number; first = first; second = if two then second else 0; words = if controller_sends number then words else [] } in p) ≡ parts_of form
two-commands form number first second c2 two words n t f s alone sends none =
    same_parts number first (if two then second else 0) (form_number form) (first_command form) (unwrap_or (second_command form) 0) (if controller_sends number then words else []) (forms.data_words form)
    n f (ap (λ b. if b then second else 0) t ∙ s ∙ sym (ap (λ o. unwrap_or o 0) alone))
    (ap (λ k. if controller_sends k then words else []) n ∙ ap (λ b. if b then words else []) sends ∙ sym none)

pub record FitsTwo (m : Recorded) (form : Form) (c1 c2 : ℕ) (fs ds bs : List ℕ) : Type 0 where
  pub laid : IsLaidOut m (c1 ∷ c2 ∷ []) fs ds bs
  pub lawful : IsLawful form
  pub sound : has_no_error m.block ≡ true
  pub may_be : may_be_sent c1 ≡ true
  pub first : c1 ≡ first_command form
  pub second : second_command form ≡ Some c2
  pub number : form_number_of true c1 ≡ form_number form
  pub sends : controller_sends (form_number form) ≡ false
  pub none : forms.data_words form ≡ []
  pub few : length ds ≤ 32
  pub fit : (data_fit form (length ds) (fs ++ bs) && replies_fit (replies_due form) (fs ++ bs) (gaps m)) ≡ true

pub two-clean : (m : Recorded) (form : Form) (c1 c2 : ℕ) (fs ds bs : List ℕ) → FitsTwo m form c1 c2 fs ds bs → clean m ≡ true
unfolding clean
two-clean m form c1 c2 fs ds bs f =
    let many = count m (c1 ∷ c2 ∷ []) fs ds bs f.laid in
    let found = are-statuses m (c1 ∷ c2 ∷ []) fs ds bs f.laid in
    let first : first_word m ≡ c1 = word m (c1 ∷ c2 ∷ []) fs ds bs f.laid 0 (omega arith) in
    let second : word_of m.bytes 1 ≡ c2 = word m (c1 ∷ c2 ∷ []) fs ds bs f.laid 1 (omega arith) in
    let two : has_two m ≡ true = ap (λ k. k == 2) f.laid.commands in
    let number : form_number_of (has_two m) (first_word m) ≡ form_number form = ap (λ b. form_number_of b (first_word m)) two ∙ ap (form_number_of true) first ∙ f.number in
    let parts : parts_in m ≡ parts_of form =
    two-commands form (form_number_of (has_two m) (first_word m)) (first_word m) (word_of m.bytes 1) c2 (has_two m) (data_words m) number two (first ∙ f.first) second f.second f.sends f.none in
    let form_is : form_with (parts_in m) ≡ Some form = ap form_with parts ∙ form-read form f.lawful in
    let sent : is_sent_as (form_with (parts_in m)) m ≡ true =
    ap (λ o. is_sent_as o m) form_is
    ∙ ap (λ n. data_fit form n (statuses m) && replies_fit (replies_due form) (statuses m) (gaps m)) many
    ∙ ap (λ xs. data_fit form (length ds) xs && replies_fit (replies_due form) xs (gaps m)) found ∙ f.fit in
    let small : nat_le (data_count m) 32 ≡ true = ap (λ n. nat_le n 32) many ∙ le-32 (length ds) f.few in
    conj (has_no_error m.block) (may_be_sent (first_word m)) (nat_le (data_count m) 32) (is_sent_as (form_with (parts_in m)) m) f.sound (ap may_be_sent first ∙ f.may_be) small sent
  where
    le-32 : (n : ℕ) → n ≤ 32 → nat_le n 32 ≡ true
    le-32 n le = grind (arith, nat_tests)

module _ (m : Recorded) (c1 c2 : ℕ) (rest : List ℕ) (bytes : m.bytes ≡ flat_map (little_bytes 2) (c1 ∷ c2 ∷ rest)) (both : has_bit 11 m.block ≡ true) where
  pub commands-two : commands_in m ≡ 2
  commands-two = two-of (size_of m) (length rest) (is_between m) (size-is m (c1 ∷ c2 ∷ rest) bytes) both

  pub front-came : 1 ≤ length rest → (first_gap m == 0) ≡ false → has_front m ≡ true
  front-came some gap =
      all-of (nat_lt (commands_in m) (size_of m)) (first_gap m == 0) (is_between m) (is_transmit (first_word m) && not (is_broadcast (first_word m)))
      (less (commands_in m) (size_of m) commands-two (size-is m (c1 ∷ c2 ∷ rest) bytes)) gap both
    where
      less : (x y : ℕ) → x ≡ 2 → y ≡ suc (suc (length rest)) → nat_lt x y ≡ true
      less x y ex ey = grind (arith, nat_tests)

      all-of : (l g b x : Bool) → l ≡ true → g ≡ false → b ≡ true → (l && (not g && (b || x))) ≡ true
      all-of l g b x el eg eb = rw (el, eg, eb) refl

  last-is : last_gap m ≡ second_gap m
  last-is = of (is_between m) (has_front m) (second_gap m) (first_gap m) both
    where
      of : (a b : Bool) (x y : ℕ) → a ≡ true → (if a then x else if b then 0 else y) ≡ x
      of a b x y ea = rw ea refl

  pub back-not : second_gap m ≡ 0 → has_back m ≡ false
  back-not none = ap (λ g. nat_lt (data_start m) (size_of m) && not (g == 0)) (last-is ∙ none) ∙ and-false (nat_lt (data_start m) (size_of m))
    where
      and-false : (b : Bool) → (b && false) ≡ false
      and-false true = refl
      and-false false = refl

  pub back-came : has_front m ≡ true → 2 ≤ length rest → (second_gap m == 0) ≡ false → has_back m ≡ true
  back-came front some gap = last-of (nat_lt (data_start m) (size_of m)) (last_gap m) (second_gap m) (less (data_start m) (size_of m) (start (commands_in m) (has_front m) commands-two front) (size-is m (c1 ∷ c2 ∷ rest) bytes)) last-is gap
    where
      start : (k : ℕ) (b : Bool) → k ≡ 2 → b ≡ true → k + (if b then 1 else 0) ≡ 3
      start k b ek eb = rw (ek, eb) refl

      less : (x y : ℕ) → x ≡ 3 → y ≡ suc (suc (length rest)) → nat_lt x y ≡ true
      less x y ex ey = grind (arith, nat_tests)

      last-of : (l : Bool) (g h : ℕ) → l ≡ true → g ≡ h → (h == 0) ≡ false → (l && not (g == 0)) ≡ true
      last-of l g h el eg eh = rw (el, eg, eh) refl
