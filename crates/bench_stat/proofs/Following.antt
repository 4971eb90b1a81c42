-- One more message for the flows, for those of entries, for status words and for slices.
use Rattle.std.proofs.Common.{◌≡◌, inl, inr, ℕ, ◌<◌, ◌==◌, Bool, true, false, not, ◌&&◌, ◌||◌, if◌then◌else◌, List, [], ◌∷◌, ◌++◌, length, set, get_or, Option, None, Some, refl, sym, ap, ◌∙◌, append_assoc, arith}
use Rattle.std.specs.List.{filter}
use Rattle.std.proofs.lemmas.Bool.{cases_eq, eq-eqb, ne_eqb}
use Rattle.std.proofs.lemmas.List.{length-set, get_or-set_same, get_or-set_other}
use Rattle.std.proofs.lemmas.List.Concat.{flat_map-cons}
use Rattle.mil_word.specs.Fields.{has_message_error, has_instrumentation, has_service_request, has_broadcast_received, has_busy, has_subsystem_flag, has_control_acceptance, has_terminal_flag}
use Rattle.ch11_layout.specs.Stamps.{Recorded}
use Rattle.bench_stat.specs.declared.flows.Flow.{Flow}
use Rattle.bench_stat.specs.declared.slices.Slice.{Slice}
use Rattle.bench_stat.specs.Sendings.{is_failed, sending_of}
use Rattle.std.specs.Prelude.{nat_lt, ◌+◌, ◌-◌, ◌^◌}
use Rattle.std.specs.List.{count_by}
use Rattle.ch11_reader.specs.Contents.{capped}
use Rattle.bench_stat.specs.Flows.{flow_by, flow_of, gap_behind, gaps, with_this_gap, with_message_by, with_message}
use Rattle.ch11_layout.specs.Layouts.{size_of}
use Rattle.bench_stat.specs.Measures.{duration, end_of, greatest, least, one_if}
use Rattle.bench_stat.specs.Figures.{traffic_of, errors_of, is_silent, is_miscounted, is_of_other_sync, is_unsound, is_otherwise_failed}
use Rattle.bench_stat.specs.Steps.{with_traffic, with_errors}
use Rattle.bench_stat.specs.Senders.{is_senders}
use Rattle.bench_stat.proofs.Stretched.{stretch_more}
use Rattle.bench_stat.specs.Entries.{entry_of, is_of, is_same, is_of_entry, is_error_of, is_first_failed, AreEntries, with_choice}
use Rattle.bench_stat.specs.Replies.{has_reserved, status_words, all_status_words, replies_with, replies_of, with_status, with_statuses}
use Rattle.bench_stat.specs.Slices.{overlap, IsBusy, with_part}
use Rattle.bench_stat.proofs.Counting.{one_more, counted_more, summed_more}

abbrev flow_with : (Recorded → Bool) → Recorded → List Recorded → List ℕ → Flow
flow_with failed m earlier more = record {
  messages = capped (length (m ∷ earlier));
  errors = capped (count_by failed (m ∷ earlier));
  begun = m.stamp;
  ended = Some (end_of m);
  least_gap = least (2 ^ 64 - 1) (more ++ gaps earlier);
  greatest_gap = greatest (more ++ gaps earlier);
}

abbrev with_more : Bool → Recorded → Flow → Flow → Flow
with_more failed m f g = record g { messages = capped (f.messages + 1); errors = capped (f.errors + one_if failed); begun = m.stamp; ended = Some (end_of m) }

-- with the gap behind the message before, unless the stamp falls
gap_more : (fell : Bool) (failed : Recorded → Bool) (m n : Recorded) (earlier : List Recorded)
    → with_more (failed m) m (flow_by failed (n ∷ earlier)) (if fell then flow_by failed (n ∷ earlier) else with_this_gap (gap_behind (end_of n) m) (flow_by failed (n ∷ earlier)))
    ≡ flow_with failed m (n ∷ earlier) (if fell then [] else gap_behind (end_of n) m ∷ [])
gap_more true failed m n earlier =
    let a = one_more m (n ∷ earlier) in
    let b = counted_more failed m (n ∷ earlier) in
    cc
gap_more false failed m n earlier =
    let a = one_more m (n ∷ earlier) in
    let b = counted_more failed m (n ∷ earlier) in
    cc

pub flow_by_more : (failed : Recorded → Bool) (m : Recorded) (history : List Recorded) → with_message_by (failed m) m (flow_by failed history) ≡ flow_by failed (m ∷ history)
flow_by_more failed m [] =
    let a = one_more m [] in
    let b = counted_more failed m [] in
    cc
flow_by_more failed m (n ∷ earlier) = gap_more (nat_lt m.stamp n.stamp) failed m n earlier

pub flow_more : (m : Recorded) (history : List Recorded) → with_message m (flow_of history) ≡ flow_of (m ∷ history)
flow_more m history = flow_by_more is_failed m history

pub traffic_more : (m : Recorded) (history : List Recorded) → with_traffic m (traffic_of history) ≡ traffic_of (m ∷ history)
traffic_more m history =
    let a = one_more m history in
    let b = summed_more size_of m history in
    let d = summed_more duration m history in
    let e = stretch_more m history in
    cc

pub errors_more : (m : Recorded) (history : List Recorded) → with_errors m (errors_of history) ≡ errors_of (m ∷ history)
errors_more m history =
    let a = counted_more is_failed m history in
    let b = counted_more is_silent m history in
    let d = counted_more is_miscounted m history in
    let e = counted_more is_of_other_sync m history in
    let f = counted_more is_unsound m history in
    let g = counted_more is_otherwise_failed m history in
    cc

-- what a place past the end is read as
abbrev pub none : Flow
none = flow_of []

choice_at : (choice : Option ℕ) (failed : Bool) (m : Recorded) (flows : List Flow) (k : ℕ) → k < length flows
    → get_or (with_choice choice failed m flows) k none ≡ (if is_of k choice then with_message_by failed m (get_or flows k none) else get_or flows k none)
choice_at None failed m flows k within = refl
choice_at (Some command) failed m flows k within = elim (cases_eq (entry_of command) k) [
  | inl e ↦ rw (eq-eqb (entry_of command) k e)
      (ap (λ (j : ℕ). get_or (set flows (entry_of command) new) j none) (sym e) ∙ get_or-set_same flows (entry_of command) new none (omega (arith, e, within)) ∙ ap (λ (j : ℕ). with_message_by failed m (get_or flows j none)) e)
  | inr n ↦ rw (ne_eqb (entry_of command) k n) (get_or-set_other flows (entry_of command) k new none (λ e. n (sym e)))
]
  where
    new : Flow
    new = with_message_by failed m (get_or flows (entry_of command) none)

choice_many : (choice : Option ℕ) (failed : Bool) (m : Recorded) (flows : List Flow) → length (with_choice choice failed m flows) ≡ length flows
choice_many None failed m flows = refl
choice_many (Some command) failed m flows = length-set flows (entry_of command) (with_message_by failed m (get_or flows (entry_of command) none))

-- two commands of one entry are of the same entries
together : (k : ℕ) (a b : Option ℕ) → is_same a b ≡ true → is_of k a ≡ is_of k b
together k None b same = absurd cc
together k (Some a) None same = absurd cc
together k (Some a) (Some b) same = elim (cases_eq (entry_of a) (entry_of b)) [
  | inl e ↦ ap (λ (i : ℕ). i == k) e
  | inr n ↦ absurd (let other = ne_eqb (entry_of a) (entry_of b) n in cc)
]

-- others are not
apart : (k : ℕ) (a b : Option ℕ) → is_same a b ≡ false → is_of k a ≡ true → is_of k b ≡ true → ⊥
apart k None b other this that = cc
apart k (Some a) None other this that = cc
apart k (Some a) (Some b) other this that = elim (cases_eq (entry_of a) k) [
  | inl e ↦ elim (cases_eq (entry_of b) k) [
    | inl f ↦ let same = eq-eqb (entry_of a) (entry_of b) (e ∙ sym f) in cc
    | inr n ↦ let other_one = ne_eqb (entry_of b) k n in cc
  ]
  | inr n ↦ let other_one = ne_eqb (entry_of a) k n in cc
]

-- whose the error is, of two commands of one entry, and of two of different ones
fault_same : (failed sender same : Bool) (k : ℕ) (a b : Option ℕ) → same ≡ true → is_of k a ≡ true → is_of k b ≡ true → (failed && (same || not sender)) ≡ (failed && is_of k (if sender then b else a))
fault_same true true true k a b is first second = sym second
fault_same true false true k a b is first second = sym first
fault_same true sender false k a b is first second = absurd cc
fault_same false sender same k a b is first second = refl

fault_first : (failed sender same : Bool) (k : ℕ) (a b : Option ℕ) → same ≡ false → is_of k a ≡ true → is_of k b ≡ false → (failed && (same || not sender)) ≡ (failed && is_of k (if sender then b else a))
fault_first true true false k a b is first second = sym second
fault_first true false false k a b is first second = sym first
fault_first true sender true k a b is first second = absurd cc
fault_first false sender same k a b is first second = refl

fault_second : (failed wrong : Bool) (k : ℕ) (a b : Option ℕ) → is_of k b ≡ true → is_of k a ≡ false → (failed && wrong) ≡ (failed && is_of k (if failed && wrong then b else a))
fault_second true true k a b second first = sym second
fault_second true false k a b second first = sym first
fault_second false wrong k a b second first = refl

is_not : (b : Bool) → (b ≡ true → ⊥) → b ≡ false
is_not true never = absurd (never refl)
is_not false never = refl

once : (e : Recorded → Bool) (failed a b : Bool) (m : Recorded) (hs : List Recorded) → a ≡ b → (a ≡ true → failed ≡ e m)
    → (if a then with_message_by failed m (flow_by e hs) else flow_by e hs) ≡ flow_by e (if a || b then m ∷ hs else hs)
once e failed true true m hs same told = ap (λ (f : Bool). with_message_by f m (flow_by e hs)) (told refl) ∙ flow_by_more e m hs
once e failed false false m hs same told = refl
once e failed true false m hs same told = absurd cc
once e failed false true m hs same told = absurd cc

each_once : (e : Recorded → Bool) (first second a b : Bool) (m : Recorded) (hs : List Recorded) → (a ≡ true → b ≡ true → ⊥) → (a ≡ true → first ≡ e m) → (b ≡ true → second ≡ e m)
    → (if b then with_message_by second m (if a then with_message_by first m (flow_by e hs) else flow_by e hs) else (if a then with_message_by first m (flow_by e hs) else flow_by e hs)) ≡ flow_by e (if a || b then m ∷ hs else hs)
each_once e first second true true m hs never one two = absurd (never refl refl)
each_once e first second true false m hs never one two = ap (λ (f : Bool). with_message_by f m (flow_by e hs)) (one refl) ∙ flow_by_more e m hs
each_once e first second false true m hs never one two = ap (λ (f : Bool). with_message_by f m (flow_by e hs)) (two refl) ∙ flow_by_more e m hs
each_once e first second false false m hs never one two = refl

-- the flows of entries, where both commands are of one entry, and where they are not
pub entries_same : (m : Recorded) (history : List Recorded) (flows : List Flow) → is_same (sending_of m).first (sending_of m).second ≡ true → AreEntries history flows
    → AreEntries (m ∷ history) (with_choice (sending_of m).first (is_first_failed (sending_of m)) m flows)
entries_same m history flows same are = record {
  many = choice_many a failed m flows ∙ are.many;
  each = λ k below. choice_at a failed m flows k (omega (arith, below, are.many)) ∙ ap (λ (f : Flow). if is_of k a then with_message_by failed m f else f) (are.each k below)
      ∙ once (is_error_of k) failed (is_of k a) (is_of k b) m (filter (is_of_entry k) history) (together k a b same) (told k);
}
  where
    a : Option ℕ
    a = (sending_of m).first

    b : Option ℕ
    b = (sending_of m).second

    failed : Bool
    failed = is_first_failed (sending_of m)

    told : (k : ℕ) → is_of k a ≡ true → failed ≡ is_error_of k m
    told k of = fault_same (is_failed m) (sending_of m).sender_failed (is_same a b) k a b same of (sym (together k a b same) ∙ of)

pub entries_apart : (m : Recorded) (history : List Recorded) (flows : List Flow) → is_same (sending_of m).first (sending_of m).second ≡ false → AreEntries history flows
    → AreEntries (m ∷ history) (with_choice (sending_of m).second (sending_of m).sender_failed m (with_choice (sending_of m).first (is_first_failed (sending_of m)) m flows))
entries_apart m history flows other are = record {
  many = choice_many b senders m (with_choice a failed m flows) ∙ choice_many a failed m flows ∙ are.many;
  each = λ k below. choice_at b senders m (with_choice a failed m flows) k (omega (arith, below, are.many, choice_many a failed m flows))
      ∙ ap (λ (f : Flow). if is_of k b then with_message_by senders m f else f) (choice_at a failed m flows k (omega (arith, below, are.many)) ∙ ap (λ (f : Flow). if is_of k a then with_message_by failed m f else f) (are.each k below))
      ∙ each_once (is_error_of k) failed senders (is_of k a) (is_of k b) m (filter (is_of_entry k) history) (apart k a b other) (first_told k) (second_told k);
}
  where
    a : Option ℕ
    a = (sending_of m).first

    b : Option ℕ
    b = (sending_of m).second

    failed : Bool
    failed = is_first_failed (sending_of m)

    senders : Bool
    senders = (sending_of m).sender_failed

    first_told : (k : ℕ) → is_of k a ≡ true → failed ≡ is_error_of k m
    first_told k of = fault_first (is_failed m) senders (is_same a b) k a b other of (is_not (is_of k b) (apart k a b other of))

    second_told : (k : ℕ) → is_of k b ≡ true → senders ≡ is_error_of k m
    second_told k of = fault_second (is_failed m) (is_senders m) k a b of (is_not (is_of k a) (λ first. apart k a b other first of))

status_more : (word : ℕ) (words : List ℕ) → with_status word (replies_with words) ≡ replies_with (word ∷ words)
status_more word words =
    let a = one_more word words in
    let b = counted_more has_message_error word words in
    let d = counted_more has_instrumentation word words in
    let e = counted_more has_service_request word words in
    let f = counted_more has_reserved word words in
    let g = counted_more has_broadcast_received word words in
    let h = counted_more has_busy word words in
    let i = counted_more has_subsystem_flag word words in
    let j = counted_more has_control_acceptance word words in
    let k = counted_more has_terminal_flag word words in
    cc

statuses_more : (more words : List ℕ) → with_statuses more (replies_with words) ≡ replies_with (more ++ words)
statuses_more [] words = refl
statuses_more (word ∷ more) words = ap (with_status word) (statuses_more more words) ∙ status_more word (more ++ words)

-- the status words behind the data words of one more message, and those in front of them
pub replies_more : (m : Recorded) (history : List Recorded) (back front : List ℕ) → status_words m ≡ back ++ front → with_statuses back (with_statuses front (replies_of history)) ≡ replies_of (m ∷ history)
replies_more m history back front are =
    ap (with_statuses back) (statuses_more front (all_status_words history)) ∙ statuses_more back (front ++ all_status_words history)
    ∙ ap replies_with (sym (append_assoc back front (all_status_words history)) ∙ ap (λ (ws : List ℕ). ws ++ all_status_words history) (sym are) ∙ sym (flat_map-cons status_words m history))

pub part_more : (m : Recorded) (history : List Recorded) (s : Slice) → IsBusy history s → IsBusy (m ∷ history) (with_part m s)
part_more m history s busy = rw busy (summed_more (overlap s.begin s.«end») m history)
