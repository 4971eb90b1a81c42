-- What is recorded of a talk with one command is clean, where no reply is due and none came, or one is due and came.
use Rattle.std.proofs.Common.{◌≡◌, ℕ, ◌+◌, ◌*◌, ◌/◌, ◌%◌, ◌^◌, ◌<◌, ◌≤◌, ◌==◌, Bool, true, false, ◌&&◌, ◌||◌, List, [], ◌∷◌, ◌++◌, map, length, refl, sym, ap, ◌∙◌, arith, append-nil, Some, None}
use Rattle.std.specs.Prelude.{not, nat_lt, nat_le, min, if◌then◌else◌}
use Rattle.std.specs.List.{flat_map}
use Rattle.std.specs.Option.{option_to_list}
use Rattle.std.proofs.lemmas.Bool.{eq-eqb}
use Rattle.std.proofs.lemmas.Bool.Decides.{nat_tests}
use Rattle.std.proofs.lemmas.List.{map-append}
use Rattle.byteorder.specs.Endian.{little_bytes}
use Rattle.mil_word.specs.declared.Line.{Line}
use Rattle.mil_word.specs.declared.Sync.TheVariants.{CommandSync, DataSync}
use Rattle.mil_word.specs.Wave.{raw_of}
use Rattle.mil_word.specs.Words.{command_wave, data_wave}
use Rattle.mil_word.specs.Fields.{address_of, is_transmit, is_broadcast, has_bit}
use Rattle.mil_word.proofs.WaveLemmas.{raw_of-wave}
use Rattle.mil_message.specs.declared.forms.Due.{Due}
use Rattle.mil_message.specs.declared.forms.Form.{Form}
use Rattle.mil_message.specs.Forms as forms
use Rattle.mil_message.specs.Forms.{first_command, second_command, replies_due, controller_words, form_number}
use Rattle.mil_message.specs.Rules.{IsLawful}
use Rattle.mil_terminal.specs.Verdicts.{is_unknown}
use Rattle.mil_bus.specs.declared.talks.Source.{Source}
use Rattle.mil_bus.specs.declared.talks.Source.TheVariants.{Controller, Terminal}
use Rattle.mil_bus.specs.declared.talks.Sent.{Sent}
use Rattle.mil_bus.specs.declared.talks.Talk.{Talk}
use Rattle.mil_bus.specs.declared.counts.TalkCounts.{TalkCounts}
use Rattle.mil_bus.specs.Counts.{counts_of, seen_of}
use Rattle.mil_bus.specs.BlockStatus.{block_of, is_line_b}
use Rattle.mil_bus.specs.Exchange.{contiguous_run}
use Rattle.mil_monitor.specs.Observed.{gap_half, observed}
use Rattle.ch11_f1.specs.Again.{as_message}
use Rattle.ch11_layout.specs.Stamps.{Recorded, counted}
use Rattle.ch11_layout.specs.Layouts.{first_word, first_gap, has_front, word_of}
use Rattle.ch11_layout.specs.Replies.{gaps}
use Rattle.bench_judge.specs.Clean.{has_no_error, form_number_of, controller_sends, words_due, sends_no_data, data_fit, status_fits, is_in_time, replies_fit, clean}
use Rattle.judge_laws.specs.Messages.{IsDueReply}
use Rattle.judge_laws.proofs.Words.{AreSmall}
use Rattle.judge_laws.proofs.Bytes.{word-read}
use Rattle.judge_laws.proofs.Counting.{nothing_wrong, came, counts-controller, counts-reply}
use Rattle.judge_laws.proofs.Meets.{is-clean, legal-sent, front-none, back-none, front-some, back-behind, back-some, commands-one}
use Rattle.judge_laws.proofs.Sound.{line_bit, no-error, not-between, block-alone, block-one}

abbrev pub talk : ℕ → Line → Form → List Sent → Talk
talk start line form sent = record { start = start; line = line; message = form; sent = record { items = sent } }

raw-data : (run : ℕ) (source : Source) (gap : ℕ) (values : List ℕ) → AreSmall values → map (λ (w : Sent). raw_of w.wave) (contiguous_run run source gap (map data_wave values)) ≡ values
raw-data run source gap [] small = refl
raw-data run source gap (v ∷ vs) small =
    let first = raw_of-wave (record { sync = DataSync; value = v }) small.0 in
    let rest = raw-data run source 20 vs small.1 in
    cc

pub raw-run : (run : ℕ) (source : Source) (gap c : ℕ) (values : List ℕ) → c < 2 ^ 16 → AreSmall values → map (λ (w : Sent). raw_of w.wave) (contiguous_run run source gap (command_wave c ∷ map data_wave values)) ≡ c ∷ values
raw-run run source gap c values small words =
    let first = raw_of-wave (record { sync = CommandSync; value = c }) small in
    let rest = raw-data run source 20 values words in
    cc

pub small-append : (xs ys : List ℕ) → AreSmall xs → AreSmall ys → AreSmall (xs ++ ys)
small-append [] ys a b = b
small-append (x ∷ xs) ys a b = (a.0, small-append xs ys a.1 b)

-- a form with one command, which is legal, and its numbers
pub record IsSingle (form : Form) (c : ℕ) (values : List ℕ) : Type 0 where
  pub lawful : IsLawful form
  pub small : c < 2 ^ 16
  pub words : AreSmall values
  pub legal : is_unknown c ≡ false
  pub first : c ≡ first_command form
  pub alone : second_command form ≡ None
  pub number : form_number_of false c ≡ form_number form
  pub words_are : forms.data_words form ≡ values
  pub long : 1 + length values ≡ length (controller_words form)

commands-of : (form : Form) → second_command form ≡ None → length (forms.commands form) ≡ 1
commands-of form alone = ap (λ o. length (first_command form ∷ option_to_list o)) alone

fit-alone : (form : Form) (n : ℕ) (times : List ℕ) → replies_due form ≡ [] → n ≡ length (forms.data_words form) → times ≡ 0 ∷ 0 ∷ []
    → (data_fit form n [] && replies_fit (replies_due form) [] times) ≡ true
fit-alone form n times none many is =
    let same : (n == length (forms.data_words form) + 0) ≡ true = eq-eqb n (length (forms.data_words form) + 0) (omega (arith, many)) in
    ap (λ (d : List Due). ((n == length (forms.data_words form) + words_due d) || ((n == 0) && nat_lt 0 (words_due d) && sends_no_data [])) && replies_fit d [] times) none
    ∙ rw (same, is) refl

pub alone-clean : (start : ℕ) (line : Line) (form : Form) (g c : ℕ) (values : List ℕ) (sent : List Sent) → IsSingle form c values → length values ≤ 32
    → (if controller_sends (form_number form) then values else []) ≡ values → replies_due form ≡ []
    → sent ≡ contiguous_run 0 Controller g (command_wave c ∷ map data_wave values) → clean (counted (as_message (observed (talk start line form sent)))) ≡ true
alone-clean start line form g c values sent f few sends none is =
    let m : Recorded = counted (as_message (observed (talk start line form sent))) in
    let seen : seen_of form sent ≡ nothing_wrong (1 + length values) None None =
    ap (λ k. counts_of k (length (replies_due form)) sent) (commands-of form f.alone) ∙ ap (λ (d : List Due). counts_of 1 (length d) sent) none ∙ ap (counts_of 1 0) is
    ∙ counts-controller 0 g c values (omega arith) f.small f.words in
    let block : m.block ≡ line_bit line = ap (block_of line form) seen ∙ block-alone line form (1 + length values) none f.alone f.long in
    let no_gaps : m.gaps ≡ 0 = ap (λ (s : TalkCounts). gap_half s.two * 256 + gap_half s.one) seen in
    let bytes : m.bytes ≡ flat_map (little_bytes 2) (c ∷ values) = ap (λ ws. flat_map (little_bytes 2) (map (λ (w : Sent). raw_of w.wave) ws)) is ∙ ap (flat_map (little_bytes 2)) (raw-run 0 Controller g c values f.small f.words) in
    let between : has_bit 11 m.block ≡ false = ap (has_bit 11) block ∙ not-between (is_line_b line) in
    let first_none : first_gap m ≡ 0 = ap (λ n. n % 256) no_gaps in
    let same = append-nil values in
    is-clean m form c [] values [] (record {
      laid = record {
        bytes = bytes ∙ ap (λ ws. flat_map (little_bytes 2) (c ∷ ws)) (sym same);
        small = (f.small, small-append values [] f.words tt);
        commands = commands-one m c values bytes between;
        front = front-none m c values bytes between first_none;
        back = back-none m c values bytes between first_none;
        one_front = omega arith;
        one_back = omega arith;
      };
      lawful = f.lawful;
      sound = ap has_no_error block ∙ no-error (is_line_b line);
      may_be = legal-sent c f.legal;
      first = f.first;
      alone = f.alone;
      number = f.number;
      sends = sends ∙ sym f.words_are;
      few = few;
      fit = fit-alone form (length values) (gaps m) none (ap (λ (ws : List ℕ). length ws) (sym f.words_are)) (ap (λ n. n % 256 ∷ n / 256 ∷ []) no_gaps);
    })

-- ---- one reply

pub fits-status : (due : Due) (gap status : ℕ) (values : List ℕ) → IsDueReply due gap status values → status_fits due.address status ≡ true
fits-status due gap status values is = of (address_of status == due.address) (has_bit 9 status) (has_bit 7 status) (has_bit 6 status) (has_bit 5 status) (eq-eqb (address_of status) due.address is.address) is.reserved
  where
    of : (a b c d e : Bool) → a ≡ true → (b || c || d || e) ≡ false → (a && not b && not c && not d && not e) ≡ true
    of a true c d e x y = cc
    of a false true d e x y = cc
    of a false false true e x y = cc
    of a false false false true x y = cc
    of a false false false false x y = rw x refl

pub in-time : (gap : ℕ) → 40 ≤ gap → gap ≤ 120 → is_in_time gap ≡ true
in-time gap low high =
    let a : nat_le 40 gap ≡ true = grind (arith, nat_tests) in
    let b : nat_le gap 120 ≡ true = grind (arith, nat_tests) in
    rw (a, b) refl

pub fit-one : (form : Form) (n gap status : ℕ) (values times : List ℕ) (due : Due) → replies_due form ≡ due ∷ [] → n ≡ length (forms.data_words form) + due.words → times ≡ gap ∷ 0 ∷ [] → IsDueReply due gap status values
    → (data_fit form n (status ∷ []) && replies_fit (replies_due form) (status ∷ []) times) ≡ true
fit-one form n gap status values times due dues many is reply =
    let same : (n == length (forms.data_words form) + due.words) ≡ true = eq-eqb n (length (forms.data_words form) + due.words) many in
    let fits = fits-status due gap status values reply in
    let soon = in-time gap reply.no_sooner reply.no_later in
    ap (λ (d : List Due). ((n == length (forms.data_words form) + words_due d) || ((n == 0) && nat_lt 0 (words_due d) && sends_no_data (status ∷ []))) && replies_fit d (status ∷ []) times) dues
    ∙ ap (λ ts. ((n == length (forms.data_words form) + due.words) || ((n == 0) && nat_lt 0 due.words && sends_no_data (status ∷ []))) && replies_fit (due ∷ []) (status ∷ []) ts) is
    ∙ of (n == length (forms.data_words form) + due.words) ((n == 0) && nat_lt 0 due.words && sends_no_data (status ∷ [])) (status_fits due.address status) (is_in_time gap) same fits soon
  where
    of : (a b c d : Bool) → a ≡ true → c ≡ true → d ≡ true → ((a || b) && (c && d && true)) ≡ true
    of a b c d x y z = rw (x, y, z) refl

-- the words of a message with one reply: its status word in front of its data words, or behind those of the controller
pub record IsOne (start : ℕ) (line : Line) (form : Form) (g c : ℕ) (values : List ℕ) (due : Due) (gap status : ℕ) (back : List ℕ) (sent : List Sent) : Type 0 where
  pub single : IsSingle form c values
  pub dues : replies_due form ≡ due ∷ []
  pub own : is_broadcast c ≡ false
  pub reply : IsDueReply due gap status back
  pub few : length values + length back ≤ 32
  pub is_sent : sent ≡ contiguous_run 0 Controller g (command_wave c ∷ map data_wave values) ++ contiguous_run 1 (Terminal due.address) gap (command_wave status ∷ map data_wave back)

module _ (start : ℕ) (line : Line) (form : Form) (g c : ℕ) (values : List ℕ) (due : Due) (gap status : ℕ) (back : List ℕ) (sent : List Sent) (is : IsOne start line form g c values due gap status back sent) where
  abbrev m : Recorded
  m = counted (as_message (observed (talk start line form sent)))

  f : IsSingle form c values
  f = is.single

  seen : seen_of form sent ≡ nothing_wrong (1 + length values) (Some (came gap status back)) None
  seen =
      ap (λ k. counts_of k (length (replies_due form)) sent) (commands-of form is.single.alone) ∙ ap (λ (d : List Due). counts_of 1 (length d) sent) is.dues ∙ ap (counts_of 1 1) is.is_sent
      ∙ counts-reply (1 + length values) due.address gap status back (contiguous_run 0 Controller g (command_wave c ∷ map data_wave values)) is.reply.small is.reply.words
      (counts-controller 1 g c values (omega arith) is.single.small is.single.words)

  block : m.block ≡ line_bit line
  block = ap (block_of line form) seen ∙ block-one line form (1 + length values) due gap status back is.dues is.single.alone is.single.long is.reply.no_later is.reply.address is.reply.many

  gap-is : m.gaps ≡ gap
  gap-is = ap (λ (s : TalkCounts). gap_half s.two * 256 + gap_half s.one) seen ∙ least gap is.reply.no_later
    where
      least : (n : ℕ) → n ≤ 120 → 0 * 256 + min n 255 ≡ n
      least n le = omega (arith, le)

  bytes : m.bytes ≡ flat_map (little_bytes 2) (c ∷ (values ++ (status ∷ back)))
  bytes =
      ap (λ ws. flat_map (little_bytes 2) (map (λ (w : Sent). raw_of w.wave) ws)) is.is_sent
      ∙ ap (flat_map (little_bytes 2)) (map-append (λ (w : Sent). raw_of w.wave) (contiguous_run 0 Controller g (command_wave c ∷ map data_wave values)) (contiguous_run 1 (Terminal due.address) gap (command_wave status ∷ map data_wave back))
      ∙ both (raw-run 0 Controller g c values is.single.small is.single.words) (raw-run 1 (Terminal due.address) gap status back is.reply.small is.reply.words))
    where
      both : {xs ys zs ws : List ℕ} → xs ≡ zs → ys ≡ ws → xs ++ ys ≡ zs ++ ws
      both a b = cc

  between : has_bit 11 m.block ≡ false
  between = ap (has_bit 11) block ∙ not-between (is_line_b line)

  first-gap : first_gap m ≡ gap
  first-gap = ap (λ n. n % 256) gap-is ∙ omega (arith, is.reply.no_later)

  some-gap : (first_gap m == 0) ≡ false
  some-gap = ap (λ n. n == 0) first-gap ∙ above gap is.reply.no_sooner
    where
      above : (n : ℕ) → 40 ≤ n → (n == 0) ≡ false
      above n le = grind (arith, nat_tests)

  times : gaps m ≡ gap ∷ 0 ∷ []
  times = ap (λ n. n % 256 ∷ n / 256 ∷ []) gap-is ∙ halves gap is.reply.no_later
    where
      halves : (n : ℕ) → n ≤ 120 → n % 256 ∷ n / 256 ∷ [] ≡ n ∷ 0 ∷ []
      halves n le =
          let low : n % 256 ≡ n = omega (arith, le) in
          let high : n / 256 ≡ 0 = omega (arith, le) in
          rw (low, high) refl

  small-words : AreSmall (c ∷ (values ++ (status ∷ back)))
  small-words = (is.single.small, small-append values (status ∷ back) is.single.words (is.reply.small, is.reply.words))

  first-is : first_word m ≡ c
  first-is = ap (λ (bs : List ℕ). word_of bs 0) bytes ∙ word-read (c ∷ (values ++ (status ∷ back))) 0 (omega arith) small-words

  some-words : 1 ≤ length (values ++ (status ∷ back))
  some-words = behind values
    where
      behind : (xs : List ℕ) → 1 ≤ length (xs ++ (status ∷ back))
      behind [] = omega arith
      behind (x ∷ xs) = omega arith

  front : (t : Bool) → is_transmit c ≡ t → has_front m ≡ t
  front t transmit = front-some m c (values ++ (status ∷ back)) bytes between t some-words some-gap (ap is_transmit first-is ∙ transmit) (ap is_broadcast first-is ∙ is.own)

  sound : has_no_error m.block ≡ true
  sound = ap has_no_error block ∙ no-error (is_line_b line)

  -- the terminal sends data words, or none at all are sent
  pub transmit-clean : is_transmit c ≡ true → values ≡ [] → controller_sends (form_number form) ≡ false → clean m ≡ true
  transmit-clean transmit none sends =
      let rest : values ++ (status ∷ back) ≡ status ∷ back = ap (λ (vs : List ℕ). vs ++ (status ∷ back)) none in
      let same = append-nil back in
      is-clean m form c (status ∷ []) back [] (record {
        laid = record {
          bytes = bytes ∙ ap (λ ws. flat_map (little_bytes 2) (c ∷ ws)) (rest ∙ ap (λ ws. status ∷ ws) (sym same));
          small = (is.single.small, (is.reply.small, small-append back [] is.reply.words tt));
          commands = commands-one m c (values ++ (status ∷ back)) bytes between;
          front = front true transmit;
          back = back-behind m c (values ++ (status ∷ back)) bytes between (front true transmit);
          one_front = omega arith;
          one_back = omega arith;
        };
        lawful = is.single.lawful;
        sound = sound;
        may_be = legal-sent c is.single.legal;
        first = is.single.first;
        alone = is.single.alone;
        number = is.single.number;
        sends = ap (λ b. if b then back else []) sends ∙ sym (is.single.words_are ∙ none);
        few = omega (arith, is.few);
        fit = fit-one form (length back) gap status back (gaps m) due is.dues (omega (arith, is.reply.many, ap (λ (ws : List ℕ). length ws) (is.single.words_are ∙ none))) times is.reply;
      })

  -- the controller sends data words
  pub receive-clean : is_transmit c ≡ false → back ≡ [] → controller_sends (form_number form) ≡ true → clean m ≡ true
  receive-clean receive none sends =
      let rest : values ++ (status ∷ back) ≡ values ++ (status ∷ []) = ap (λ (ws : List ℕ). values ++ (status ∷ ws)) none in
      let no_more : due.words ≡ 0 = sym is.reply.many ∙ ap (λ (ws : List ℕ). length ws) none in
      is-clean m form c [] values (status ∷ []) (record {
        laid = record {
          bytes = bytes ∙ ap (λ ws. flat_map (little_bytes 2) (c ∷ ws)) rest;
          small = (is.single.small, small-append values (status ∷ []) is.single.words (is.reply.small, tt));
          commands = commands-one m c (values ++ (status ∷ back)) bytes between;
          front = front false receive;
          back = back-some m c (values ++ (status ∷ back)) bytes between (front false receive) some-words some-gap;
          one_front = omega arith;
          one_back = omega arith;
        };
        lawful = is.single.lawful;
        sound = sound;
        may_be = legal-sent c is.single.legal;
        first = is.single.first;
        alone = is.single.alone;
        number = is.single.number;
        sends = ap (λ b. if b then values else []) sends ∙ sym is.single.words_are;
        few = omega (arith, is.few);
        fit = fit-one form (length values) gap status back (gaps m) due is.dues (omega (arith, no_more, ap (λ (ws : List ℕ). length ws) is.single.words_are)) times is.reply;
      })
