-- What is recorded of a transfer whose replies came.
use Rattle.std.proofs.Common.{◌≡◌, ℕ, ◌+◌, ◌*◌, ◌/◌, ◌%◌, ◌^◌, ◌<◌, ◌≤◌, ◌==◌, Bool, true, false, ◌&&◌, ◌||◌, List, [], ◌∷◌, ◌++◌, map, length, refl, sym, ap, ◌∙◌, arith, append-nil, length-append, Option, Some, None}
use Rattle.std.specs.Prelude.{nat_lt, min}
use Rattle.std.specs.List.{flat_map}
use Rattle.std.specs.Option.{option_to_list, is_some}
use Rattle.std.proofs.lemmas.Bool.{eq-eqb}
use Rattle.std.proofs.lemmas.Bool.Decides.{nat_tests}
use Rattle.std.proofs.lemmas.List.{map-append}
use Rattle.byteorder.specs.Endian.{little_bytes}
use Rattle.mil_word.specs.declared.Line.{Line}
use Rattle.mil_word.specs.declared.Sync.TheVariants.{CommandSync}
use Rattle.mil_word.specs.Wave.{raw_of}
use Rattle.mil_word.specs.Words.{command_wave, data_wave}
use Rattle.mil_word.specs.Fields.{has_bit}
use Rattle.mil_word.proofs.WaveLemmas.{raw_of-wave}
use Rattle.mil_message.specs.declared.forms.Due.{Due}
use Rattle.mil_message.specs.declared.forms.Form.{Form}
use Rattle.mil_message.specs.Forms as forms
use Rattle.mil_message.specs.Forms.{first_command, second_command, replies_due, controller_words, form_number}
use Rattle.mil_message.specs.Rules.{IsLawful}
use Rattle.mil_terminal.specs.Verdicts.{is_unknown}
use Rattle.mil_bus.specs.declared.talks.Source.TheVariants.{Controller, Terminal}
use Rattle.mil_bus.specs.declared.talks.Sent.{Sent}
use Rattle.mil_bus.specs.declared.counts.TalkCounts.{TalkCounts}
use Rattle.mil_bus.specs.Counts.{counts_of, seen_of}
use Rattle.mil_bus.specs.BlockStatus.{first_due, second_due, is_late, is_miscounted, has_other_address, is_line_b, block_of}
use Rattle.mil_bus.specs.Exchange.{contiguous_run}
use Rattle.mil_monitor.specs.Observed.{gap_half, observed}
use Rattle.ch11_f1.specs.Again.{as_message}
use Rattle.ch11_layout.specs.Stamps.{Recorded, counted}
use Rattle.ch11_layout.specs.Layouts.{first_gap, second_gap}
use Rattle.ch11_layout.specs.Replies.{gaps}
use Rattle.bench_judge.specs.Clean.{has_no_error, form_number_of, controller_sends, words_due, sends_no_data, data_fit, status_fits, is_in_time, replies_fit, clean}
use Rattle.judge_laws.specs.Messages.{IsDueReply}
use Rattle.judge_laws.proofs.Counting.{nothing_wrong, came}
use Rattle.judge_laws.proofs.Meets.{legal-sent}
use Rattle.judge_laws.proofs.Recorded.{talk, raw-run, small-append, fits-status, in-time, fit-one}
use Rattle.judge_laws.proofs.Transfers.{counts-commands, counts-sender, counts-receiver, transfer_bits, no-error, between-bit, reply-in-time, reply-counted, reply-own, block-with, two-clean, commands-two, front-came, back-not, back-came}

-- a form with two commands, the first of which is legal, and its numbers
pub record IsDouble (form : Form) (c1 c2 : ℕ) : Type 0 where
  pub lawful : IsLawful form
  pub small_first : c1 < 2 ^ 16
  pub small_second : c2 < 2 ^ 16
  pub legal : is_unknown c1 ≡ false
  pub first : c1 ≡ first_command form
  pub second : second_command form ≡ Some c2
  pub number : form_number_of true c1 ≡ form_number form
  pub sends : controller_sends (form_number form) ≡ false
  pub none : forms.data_words form ≡ []
  pub long : 2 ≡ length (controller_words form)

two-commands-of : (form : Form) (c2 : ℕ) → second_command form ≡ Some c2 → length (forms.commands form) ≡ 2
two-commands-of form c2 is = ap (λ o. length (first_command form ∷ option_to_list o)) is

raw-commands : (g c1 c2 : ℕ) → c1 < 2 ^ 16 → c2 < 2 ^ 16 → map (λ (w : Sent). raw_of w.wave) (contiguous_run 0 Controller g (command_wave c1 ∷ command_wave c2 ∷ [])) ≡ c1 ∷ c2 ∷ []
raw-commands g c1 c2 small1 small2 =
    let first = raw_of-wave (record { sync = CommandSync; value = c1 }) small1 in
    let second = raw_of-wave (record { sync = CommandSync; value = c2 }) small2 in
    cc

joined : {xs ys zs ws : List ℕ} → xs ≡ zs → ys ≡ ws → xs ++ ys ≡ zs ++ ws
joined a b = cc

fit-two : (form : Form) (n t1 s1 t2 s2 : ℕ) (vs ws times : List ℕ) (d1 d2 : Due) → replies_due form ≡ d1 ∷ d2 ∷ [] → n ≡ length (forms.data_words form) + d1.words → times ≡ t1 ∷ t2 ∷ []
    → IsDueReply d1 t1 s1 vs → IsDueReply d2 t2 s2 ws → (data_fit form n (s1 ∷ s2 ∷ []) && replies_fit (replies_due form) (s1 ∷ s2 ∷ []) times) ≡ true
fit-two form n t1 s1 t2 s2 vs ws times d1 d2 dues many is one two =
    ap (λ (d : List Due). ((n == length (forms.data_words form) + words_due d) || ((n == 0) && nat_lt 0 (words_due d) && sends_no_data (s1 ∷ s2 ∷ []))) && replies_fit d (s1 ∷ s2 ∷ []) times) dues
    ∙ ap (λ ts. ((n == length (forms.data_words form) + d1.words) || ((n == 0) && nat_lt 0 d1.words && sends_no_data (s1 ∷ s2 ∷ []))) && replies_fit (d1 ∷ d2 ∷ []) (s1 ∷ s2 ∷ []) ts) is
    ∙ of (n == length (forms.data_words form) + d1.words) ((n == 0) && nat_lt 0 d1.words && sends_no_data (s1 ∷ s2 ∷ [])) (status_fits d1.address s1) (is_in_time t1) (status_fits d2.address s2) (is_in_time t2)
    (eq-eqb n (length (forms.data_words form) + d1.words) many) (fits-status d1 t1 s1 vs one) (in-time t1 one.no_sooner one.no_later) (fits-status d2 t2 s2 ws two) (in-time t2 two.no_sooner two.no_later)
  where
    of : (a b c d e f : Bool) → a ≡ true → c ≡ true → d ≡ true → e ≡ true → f ≡ true → ((a || b) && (c && d && (e && f && true))) ≡ true
    of a b c d e f x y z u v = rw (x, y, z, u, v) refl

pub transfer-clean : (start : ℕ) (line : Line) (form : Form) (g c1 c2 : ℕ) (d1 d2 : Due) (t1 s1 t2 s2 : ℕ) (vs : List ℕ) (sent : List Sent) → IsDouble form c1 c2 → replies_due form ≡ d1 ∷ d2 ∷ []
    → IsDueReply d1 t1 s1 vs → IsDueReply d2 t2 s2 [] → d1.words ≤ 32
    → sent ≡ (contiguous_run 0 Controller g (command_wave c1 ∷ command_wave c2 ∷ []) ++ contiguous_run 1 (Terminal d1.address) t1 (command_wave s1 ∷ map data_wave vs)) ++ contiguous_run 2 (Terminal d2.address) t2 (command_wave s2 ∷ [])
    → clean (counted (as_message (observed (talk start line form sent)))) ≡ true
transfer-clean start line form g c1 c2 d1 d2 t1 s1 t2 s2 vs sent f dues one two few is =
    let m : Recorded = counted (as_message (observed (talk start line form sent))) in
    let w0 = contiguous_run 0 Controller g (command_wave c1 ∷ command_wave c2 ∷ []) in
    let w1 = contiguous_run 1 (Terminal d1.address) t1 (command_wave s1 ∷ map data_wave vs) in
    let w2 = contiguous_run 2 (Terminal d2.address) t2 (command_wave s2 ∷ []) in
    let seen : seen_of form sent ≡ nothing_wrong 2 (Some (came t1 s1 vs)) (Some (came t2 s2 [])) =
    ap (λ k. counts_of k (length (replies_due form)) sent) (two-commands-of form c2 f.second) ∙ ap (λ (d : List Due). counts_of 2 (length d) sent) dues ∙ ap (counts_of 2 2) is
    ∙ counts-receiver d2.address t2 s2 (came t1 s1 vs) (w0 ++ w1) two.small
    (counts-sender 2 d1.address t1 s1 vs w0 (omega arith) (omega arith) one.small one.words (counts-commands 2 g c1 c2 f.small_first f.small_second)) in
    let block : m.block ≡ transfer_bits (is_line_b line) =
    ap (block_of line form) seen
    ∙ block-with line form (Some (came t1 s1 vs)) (Some (came t2 s2 [])) (ap (λ (o : Option ℕ). is_some o) f.second) f.long
    (ap (λ d. is_late (first_due d) (Some (came t1 s1 vs))) dues ∙ reply-in-time d1 t1 s1 vs one) (ap (λ d. is_late (second_due d) (Some (came t2 s2 []))) dues ∙ reply-in-time d2 t2 s2 [] two)
    (ap (λ d. is_miscounted (first_due d) (Some (came t1 s1 vs))) dues ∙ reply-counted d1 t1 s1 vs one) (ap (λ d. is_miscounted (second_due d) (Some (came t2 s2 []))) dues ∙ reply-counted d2 t2 s2 [] two)
    (ap (λ d. has_other_address (first_due d) (Some (came t1 s1 vs))) dues ∙ reply-own d1 t1 s1 vs one) (ap (λ d. has_other_address (second_due d) (Some (came t2 s2 []))) dues ∙ reply-own d2 t2 s2 [] two) in
    let gap_is : m.gaps ≡ t2 * 256 + t1 = ap (λ (s : TalkCounts). gap_half s.two * 256 + gap_half s.one) seen ∙ least t1 t2 one.no_later two.no_later in
    let bytes : m.bytes ≡ flat_map (little_bytes 2) (c1 ∷ c2 ∷ (s1 ∷ (vs ++ (s2 ∷ [])))) =
    ap (λ ws. flat_map (little_bytes 2) (map (λ (w : Sent). raw_of w.wave) ws)) is
    ∙ ap (flat_map (little_bytes 2)) (map-append (λ (w : Sent). raw_of w.wave) (w0 ++ w1) w2
    ∙ joined (map-append (λ (w : Sent). raw_of w.wave) w0 w1 ∙ joined (raw-commands g c1 c2 f.small_first f.small_second) (raw-run 1 (Terminal d1.address) t1 s1 vs one.small one.words))
    (raw-run 2 (Terminal d2.address) t2 s2 [] two.small tt)) in
    let both : has_bit 11 m.block ≡ true = ap (has_bit 11) block ∙ between-bit (is_line_b line) in
    let first : first_gap m ≡ t1 = ap (λ n. n % 256) gap_is ∙ low t1 t2 one.no_later in
    let second : second_gap m ≡ t2 = ap (λ n. n / 256) gap_is ∙ high t1 t2 one.no_later in
    let some_first : (first_gap m == 0) ≡ false = ap (λ n. n == 0) first ∙ above t1 one.no_sooner in
    let some_second : (second_gap m == 0) ≡ false = ap (λ n. n == 0) second ∙ above t2 two.no_sooner in
    let long : 2 ≤ length (s1 ∷ (vs ++ (s2 ∷ []))) = omega (arith, length-append vs (s2 ∷ [])) in
    let front = front-came m c1 c2 (s1 ∷ (vs ++ (s2 ∷ []))) bytes both (omega arith) some_first in
    two-clean m form c1 c2 (s1 ∷ []) vs (s2 ∷ []) (record {
      laid = record {
        bytes = bytes;
        small = (f.small_first, (f.small_second, (one.small, small-append vs (s2 ∷ []) one.words (two.small, tt))));
        commands = commands-two m c1 c2 (s1 ∷ (vs ++ (s2 ∷ []))) bytes both;
        front = front;
        back = back-came m c1 c2 (s1 ∷ (vs ++ (s2 ∷ []))) bytes both front long some_second;
        one_front = omega arith;
        one_back = omega arith;
      };
      lawful = f.lawful;
      sound = ap has_no_error block ∙ no-error (is_line_b line);
      may_be = legal-sent c1 f.legal;
      first = f.first;
      second = f.second;
      number = f.number;
      sends = f.sends;
      none = f.none;
      few = omega (arith, one.many, few);
      fit = fit-two form (length vs) t1 s1 t2 s2 vs [] (gaps m) d1 d2 dues (omega (arith, one.many, ap (λ (ws : List ℕ). length ws) f.none)) (times first second) one two;
    })
  where
    least : (a b : ℕ) → a ≤ 120 → b ≤ 120 → min b 255 * 256 + min a 255 ≡ b * 256 + a
    least a b la lb = omega (arith, la, lb)

    low : (a b : ℕ) → a ≤ 120 → (b * 256 + a) % 256 ≡ a
    low a b la = omega (arith, la)

    high : (a b : ℕ) → a ≤ 120 → (b * 256 + a) / 256 ≡ b
    high a b la = omega (arith, la)

    above : (n : ℕ) → 40 ≤ n → (n == 0) ≡ false
    above n le = grind (arith, nat_tests)

    times : {x y : ℕ} → x ≡ t1 → y ≡ t2 → x ∷ y ∷ [] ≡ t1 ∷ t2 ∷ []
    times a b = cc

-- the same with one reply: the others do not answer a command to all
pub all-transfer-clean : (start : ℕ) (line : Line) (form : Form) (g c1 c2 : ℕ) (d1 : Due) (t1 s1 : ℕ) (vs : List ℕ) (sent : List Sent) → IsDouble form c1 c2 → replies_due form ≡ d1 ∷ []
    → IsDueReply d1 t1 s1 vs → d1.words ≤ 32
    → sent ≡ contiguous_run 0 Controller g (command_wave c1 ∷ command_wave c2 ∷ []) ++ contiguous_run 1 (Terminal d1.address) t1 (command_wave s1 ∷ map data_wave vs)
    → clean (counted (as_message (observed (talk start line form sent)))) ≡ true
all-transfer-clean start line form g c1 c2 d1 t1 s1 vs sent f dues one few is =
    let m : Recorded = counted (as_message (observed (talk start line form sent))) in
    let w0 = contiguous_run 0 Controller g (command_wave c1 ∷ command_wave c2 ∷ []) in
    let w1 = contiguous_run 1 (Terminal d1.address) t1 (command_wave s1 ∷ map data_wave vs) in
    let seen : seen_of form sent ≡ nothing_wrong 2 (Some (came t1 s1 vs)) None =
    ap (λ k. counts_of k (length (replies_due form)) sent) (two-commands-of form c2 f.second) ∙ ap (λ (d : List Due). counts_of 2 (length d) sent) dues ∙ ap (counts_of 2 1) is
    ∙ counts-sender 1 d1.address t1 s1 vs w0 (omega arith) (omega arith) one.small one.words (counts-commands 1 g c1 c2 f.small_first f.small_second) in
    let block : m.block ≡ transfer_bits (is_line_b line) =
    ap (block_of line form) seen
    ∙ block-with line form (Some (came t1 s1 vs)) None (ap (λ (o : Option ℕ). is_some o) f.second) f.long
    (ap (λ d. is_late (first_due d) (Some (came t1 s1 vs))) dues ∙ reply-in-time d1 t1 s1 vs one) (ap (λ d. is_late (second_due d) None) dues)
    (ap (λ d. is_miscounted (first_due d) (Some (came t1 s1 vs))) dues ∙ reply-counted d1 t1 s1 vs one) (ap (λ d. is_miscounted (second_due d) None) dues)
    (ap (λ d. has_other_address (first_due d) (Some (came t1 s1 vs))) dues ∙ reply-own d1 t1 s1 vs one) (ap (λ d. has_other_address (second_due d) None) dues) in
    let gap_is : m.gaps ≡ t1 = ap (λ (s : TalkCounts). gap_half s.two * 256 + gap_half s.one) seen ∙ least t1 one.no_later in
    let bytes : m.bytes ≡ flat_map (little_bytes 2) (c1 ∷ c2 ∷ (s1 ∷ vs)) =
    ap (λ ws. flat_map (little_bytes 2) (map (λ (w : Sent). raw_of w.wave) ws)) is
    ∙ ap (flat_map (little_bytes 2)) (map-append (λ (w : Sent). raw_of w.wave) w0 w1
    ∙ joined (raw-commands g c1 c2 f.small_first f.small_second) (raw-run 1 (Terminal d1.address) t1 s1 vs one.small one.words)) in
    let both : has_bit 11 m.block ≡ true = ap (has_bit 11) block ∙ between-bit (is_line_b line) in
    let first : first_gap m ≡ t1 = ap (λ n. n % 256) gap_is ∙ low t1 one.no_later in
    let second : second_gap m ≡ 0 = ap (λ n. n / 256) gap_is ∙ high t1 one.no_later in
    let some_first : (first_gap m == 0) ≡ false = ap (λ n. n == 0) first ∙ above t1 one.no_sooner in
    let front = front-came m c1 c2 (s1 ∷ vs) bytes both (omega arith) some_first in
    let same = append-nil vs in
    two-clean m form c1 c2 (s1 ∷ []) vs [] (record {
      laid = record {
        bytes = bytes ∙ ap (λ ws. flat_map (little_bytes 2) (c1 ∷ c2 ∷ (s1 ∷ ws))) (sym same);
        small = (f.small_first, (f.small_second, (one.small, small-append vs [] one.words tt)));
        commands = commands-two m c1 c2 (s1 ∷ vs) bytes both;
        front = front;
        back = back-not m c1 c2 (s1 ∷ vs) bytes both second;
        one_front = omega arith;
        one_back = omega arith;
      };
      lawful = f.lawful;
      sound = ap has_no_error block ∙ no-error (is_line_b line);
      may_be = legal-sent c1 f.legal;
      first = f.first;
      second = f.second;
      number = f.number;
      sends = f.sends;
      none = f.none;
      few = omega (arith, one.many, few);
      fit = fit-one form (length vs) t1 s1 vs (gaps m) d1 dues (omega (arith, one.many, ap (λ (ws : List ℕ). length ws) f.none)) (times first second) one;
    })
  where
    least : (a : ℕ) → a ≤ 120 → 0 * 256 + min a 255 ≡ a
    least a la = omega (arith, la)

    low : (a : ℕ) → a ≤ 120 → a % 256 ≡ a
    low a la = omega (arith, la)

    high : (a : ℕ) → a ≤ 120 → a / 256 ≡ 0
    high a la = omega (arith, la)

    above : (n : ℕ) → 40 ≤ n → (n == 0) ≡ false
    above n le = grind (arith, nat_tests)

    times : {x y : ℕ} → x ≡ t1 → y ≡ 0 → x ∷ y ∷ [] ≡ t1 ∷ 0 ∷ []
    times a b = cc
