-- The words that are put up, and their ramps, after one more event.
use Rattle.std.proofs.Common.{◌≡◌, ℕ, zero, suc, ◌+◌, ◌*◌, ◌%◌, ◌<◌, ◌≤◌, List, [], ◌∷◌, ◌++◌, length, get_or, refl, ap, sym, ◌∙◌, arith, length-append, length-set, get_or-set_same, get_or-set_other, ap₂, subst, take, drop, set, replicate, ◌-◌}
use Rattle.std.proofs.lemmas.List.{same_lists, get_or_append_left, get_or-append_right, get_or_past, get_or_default, length-take, length-take-le, length-replicate, take_all, append_assoc, append-nil, drop_more, drop_all}
use Rattle.std.proofs.Math.Seq.{get_or-append_seam}
use Rattle.std.proofs.lemmas.Bool.Decides.{nat_tests}
use Rattle.std.proofs.lemmas.Bool.{eq-eqb, eqb-true, eqb-false, false≢true}
use Rattle.std.specs.Prelude.{Bool, true, false, ◌&&◌, ◌==◌, nat_lt, max, Option, Some, None, if◌then◌else◌, slice_index_or, slice_set, nat_eq, unwrap_or}
use Rattle.std.proofs.Math.Nat.{suc-mul}
use Rattle.mil_word.specs.declared.Line.{Line}
use Rattle.mil_word.specs.Fields.{sub_of, count_of}
use Rattle.mil_host.specs.declared.actions.Action.{Action}
use Rattle.mil_host.specs.declared.actions.Action.TheVariants.{Transmit, Busy, Service, Subsystem, Fault, Control, Vector, SelfTest, Illegal, Legal, Response, Deaf, Mute}
use Rattle.mil_host.specs.declared.actions.Action.TheVariants.{IllegalMode, LegalMode, Broadcast, Power, BitWord, ServiceOnce, Gap, Ramp}
use Rattle.mil_terminal.specs.declared.events.Event.TheVariants.{Heard, Quiet, Host}
use Rattle.mil_terminal.specs.History.{History}
use Rattle.mil_terminal.specs.Host.{told_bit, turns_on}
use Rattle.mil_terminal.specs.Answers.{gives_words, quiet_ends}
use Rattle.mil_terminal.specs.PutUp.{Source, stays, ramp, told_source, told_count, source_at, times_carried, next_word, word_put_up, count_put_up, first_words, words_put_up, added}
use Rattle.mil_host.specs.Values.{PutUp, Ramped}
use Rattle.mil_terminal.specs.Replies.{exactly}
use Rattle.mil_terminal.specs.Placing.{with_place, with_words, with_ramp, ramp_in, stepped, carried_from, carried}
use Rattle.mil_terminal.specs.StandsFor.{ArePutUp, AreReceived}
use Rattle.mil_terminal.proofs.Hears.{put_up_quiet}

-- ---- the words as a list

length-first : (own sub : ℕ) (h : History) (n : ℕ) → length (first_words own sub h n) ≡ n
length-first own sub h zero = refl
length-first own sub h (suc n) = omega (arith, length-append (first_words own sub h n) (word_put_up own sub n h ∷ []), length-first own sub h n)

first_at : (own sub : ℕ) (h : History) (n place d : ℕ) → place < n → get_or (first_words own sub h n) place d ≡ word_put_up own sub place h
first_at own sub h zero place d lt = absurd (omega arith)
first_at own sub h (suc n) place d lt = go (first_at own sub h n place d) (nat_lt place n) refl
  where
    long : length (first_words own sub h n) ≡ n
    long = length-first own sub h n

    go : (place < n → get_or (first_words own sub h n) place d ≡ word_put_up own sub place h) → (b : Bool) → nat_lt place n ≡ b
        → get_or (first_words own sub h n ++ word_put_up own sub n h ∷ []) place d ≡ word_put_up own sub place h
    go before true is =
        let within : place < n = grind (arith, nat_tests) in
        get_or_append_left (first_words own sub h n) (word_put_up own sub n h ∷ []) d place (omega (arith, within, long)) ∙ before within
    go before false is =
        let ge : n ≤ place = grind (arith, nat_tests) in
        let last : place ≡ length (first_words own sub h n) = omega (arith, ge, lt, long) in
        let same : place ≡ n = last ∙ long in
        ap (λ k. get_or (first_words own sub h n ++ word_put_up own sub n h ∷ []) k d) last
        ∙ get_or-append_seam (first_words own sub h n) (word_put_up own sub n h) [] d
        ∙ ap (λ k. word_put_up own sub k h) (sym same)

pub put_up_words : (own : ℕ) (block : List (List ℕ)) (sub : ℕ) (h : History) → sub < 32 → ArePutUp own block h → slice_index_or block (64 + sub) [] ≡ words_put_up own sub h
unfolding words_put_up
put_up_words own block sub h lt is =
    let n = count_put_up sub h in
    let count = is.count sub lt in
    same_lists _ _ (count ∙ sym (length-first own sub h n))
    (λ i d within. get_or_default (get_or block (64 + sub) []) i d 0 within ∙ is.words sub i lt ∙ sym (first_at own sub h n i d (omega (arith, count))))

-- ---- no source behind the last place

beyond_told : (sub place : ℕ) (action : Action) (past : History) → told_count sub action (count_put_up sub past) ≤ place → (count_put_up sub past ≤ place → source_at sub place past ≡ stays 0)
    → source_at sub place (Host action ∷ past) ≡ stays 0
beyond_told sub place (Transmit put) past le before = go (put.sub == sub) refl
  where
    go : (b : Bool) → (put.sub == sub) ≡ b → unwrap_or (if b then Some (stays (get_or put.words place 0)) else None) (source_at sub place past) ≡ stays 0
    go true is = ap stays (get_or_past put.words place 0 (rw is at le))
    go false is = before (rw is at le)
beyond_told sub place (Ramp r) past le before = go (r.sub == sub) refl
  where
    go : (b : Bool) → (r.sub == sub) ≡ b → unwrap_or (if b && r.index == suc place then Some (ramp r.start r.add) else None) (source_at sub place past) ≡ stays 0
    go true is =
        let most : max (count_put_up sub past) r.index ≤ place = rw is at le in
        let below : r.index ≤ place = omega (arith, most) in
        let other : (r.index == suc place) ≡ false = grind (arith, nat_tests) in
        rw other (before (omega (arith, most)))
    go false is = before (rw is at le)
beyond_told sub place (Busy on) past le before = before le
beyond_told sub place (Service on) past le before = before le
beyond_told sub place (Subsystem on) past le before = before le
beyond_told sub place (Fault on) past le before = before le
beyond_told sub place (Control on) past le before = before le
beyond_told sub place (Vector word) past le before = before le
beyond_told sub place (SelfTest word) past le before = before le
beyond_told sub place (Illegal mark) past le before = before le
beyond_told sub place (Legal mark) past le before = before le
beyond_told sub place (Response ticks) past le before = before le
beyond_told sub place (Deaf line on) past le before = before le
beyond_told sub place (Mute line on) past le before = before le
beyond_told sub place (IllegalMode mark) past le before = before le
beyond_told sub place (LegalMode mark) past le before = before le
beyond_told sub place (Broadcast on) past le before = before le
beyond_told sub place (Power on) past le before = before le
beyond_told sub place (BitWord word) past le before = before le
beyond_told sub place ServiceOnce past le before = before le
beyond_told sub place (Gap ticks) past le before = before le

pub beyond : (sub place : ℕ) (h : History) → count_put_up sub h ≤ place → source_at sub place h ≡ stays 0
beyond sub place [] le = refl
beyond sub place (Heard line wave gap ∷ past) le = beyond sub place past le
beyond sub place (Quiet line ∷ past) le = beyond sub place past le
beyond sub place (Host action ∷ past) le = beyond_told sub place action past le (beyond sub place past)

-- ---- the same words in another block

pub put_up_same : (own : ℕ) (block later : List (List ℕ)) (h : History) → ((slot : ℕ) → 64 ≤ slot → slice_index_or later slot [] ≡ slice_index_or block slot []) → length later ≡ length block
    → ArePutUp own block h → ArePutUp own later h
put_up_same own block later h same long is = record {
  long = long ∙ is.long;
  count = λ sub lt. ap length (same (64 + sub) (omega arith)) ∙ is.count sub lt;
  words = λ sub place lt. ap (λ (ws : List ℕ). get_or ws place 0) (same (64 + sub) (omega arith)) ∙ is.words sub place lt;
  ramps = λ sub place lt. ap₂ (λ (rs adds : List ℕ). if get_or rs place 0 == 1 then Some (get_or adds place 0) else None) (same (128 + sub) (omega arith)) (same (96 + sub) (omega arith)) ∙ is.ramps sub place lt;
}

-- ---- a reply carries words

length-carried : (block : List (List ℕ)) (sub count place : ℕ) (words : List ℕ) → length (carried_from block sub count place words) ≡ length words
length-carried block sub count place [] = refl
length-carried block sub count place (word ∷ words) = ap suc (length-carried block sub count (place + 1) words)

carried_at : (block : List (List ℕ)) (sub count from : ℕ) (words : List ℕ) (k : ℕ) → k < length words
    → get_or (carried_from block sub count from words) k 0 ≡ (if nat_lt (from + k) count then stepped (ramp_in block sub (from + k)) (get_or words k 0) else get_or words k 0)
carried_at block sub count from [] k lt = absurd (omega arith)
carried_at block sub count from (word ∷ words) zero lt = ap (λ k. if nat_lt k count then stepped (ramp_in block sub k) word else word) (omega arith)
carried_at block sub count from (word ∷ words) (suc k) lt =
    carried_at block sub count (from + 1) words k (omega arith)
    ∙ ap (λ n. if nat_lt n count then stepped (ramp_in block sub n) (get_or words k 0) else get_or words k 0) (omega arith)

-- of the words from the first place on
carried_here : (block : List (List ℕ)) (sub count : ℕ) (words : List ℕ) (k : ℕ) → k < length words
    → get_or (carried_from block sub count 0 words) k 0 ≡ (if nat_lt k count then stepped (ramp_in block sub k) (get_or words k 0) else get_or words k 0)
carried_here block sub count words k lt =
    carried_at block sub count 0 words k lt ∙ ap (λ n. if nat_lt n count then stepped (ramp_in block sub n) (get_or words k 0) else get_or words k 0) (omega arith)

step_is : (source : Source) (times : ℕ) → stepped (added source) (next_word source times) ≡ next_word source (suc times)
step_is (stays word) times = refl
step_is (ramp start add) times =
    let more : suc times * add ≡ times * add + add = suc-mul times add in
    omega (arith, more)

-- one more of the words
pub carried-more : (block : List (List ℕ)) (sub count place : ℕ) (words before whole : List ℕ) (word new d : ℕ) → place < length before → word ≡ get_or before place d
    → new ≡ (if nat_lt place count then stepped (ramp_in block sub place) word else word)
    → words ++ carried_from block sub count place (drop place before) ≡ whole
    → (words ++ new ∷ []) ++ carried_from block sub count (place + 1) (drop (place + 1) before) ≡ whole
carried-more block sub count place words before whole word new d lt word_is new_is is =
    let first : carried_from block sub count place (drop place before) ≡ new ∷ carried_from block sub count (place + 1) (drop (place + 1) before) =
    rw (drop_more before place d lt, ← word_is, new_is) refl in
    append_assoc words (new ∷ []) (carried_from block sub count (place + 1) (drop (place + 1) before)) ∙ ap (λ xs. words ++ xs) (sym first) ∙ is

pub carried-all : (block : List (List ℕ)) (sub count place : ℕ) (words before : List ℕ) → length before ≤ place
    → words ++ carried_from block sub count place (drop place before) ≡ carried_from block sub count 0 before → words ≡ carried_from block sub count 0 before
carried-all block sub count place words before le is =
    let none : carried_from block sub count place (drop place before) ≡ [] = rw (drop_all place before le) refl in
    sym (append-nil words) ∙ ap (λ xs. words ++ xs) (sym none) ∙ is

-- the lists of received words stay
pub received-carried : (own : ℕ) (block : List (List ℕ)) (at count : ℕ) (gave : Bool) (h : History) → AreReceived own block h → AreReceived own (if gave then carried block at count else block) h
received-carried own block at count false h is = is
received-carried own block at count true h is = record {
  addressed = λ sub lt. get_or-set_other block (64 + at) sub _ [] (λ e. absurd (omega arith)) ∙ is.addressed sub lt;
  from_all = λ sub lt. get_or-set_other block (64 + at) (32 + sub) _ [] (λ e. absurd (omega arith)) ∙ is.from_all sub lt;
}

-- the words after a quiet whose reply gave words of a subaddress, or none
pub put_up_given : (own : ℕ) (block : List (List ℕ)) (line : Line) (h : History) (c : ℕ) (gave : Bool)
    → ((sub place : ℕ) → quiet_ends own (gives_words own sub place) line h ≡ (gave && (sub_of c == sub && nat_lt place (count_of c))))
    → ArePutUp own block h → ArePutUp own (if gave then carried block (sub_of c) (count_of c) else block) (Quiet line ∷ h)
put_up_given own block line h c false gives is = put_up_quiet own block line h gives is
put_up_given own block line h c true gives is = record {
  long = length-set block (64 + at) new ∙ is.long;
  count = λ sub lt. counted sub lt (nat_eq at sub) refl;
  words = λ sub place lt. word sub place lt (nat_eq at sub) refl;
  ramps = λ sub place lt. ap₂ (λ (rs adds : List ℕ). if get_or rs place 0 == 1 then Some (get_or adds place 0) else None) (far (128 + sub) (omega arith)) (far (96 + sub) (omega arith)) ∙ is.ramps sub place lt;
}
  where
    at : ℕ
    at = sub_of c

    at_lt : at < 32
    at_lt = omega arith

    old : List ℕ
    old = get_or block (64 + at) []

    new : List ℕ
    new = carried_from block at (count_of c) 0 old

    far : (slot : ℕ) → 96 ≤ slot → get_or (slice_set block (64 + at) new) slot [] ≡ get_or block slot []
    far slot le = get_or-set_other block (64 + at) slot new [] (λ e. absurd (omega arith))

    other : (sub : ℕ) → nat_eq at sub ≡ false → get_or (slice_set block (64 + at) new) (64 + sub) [] ≡ get_or block (64 + sub) []
    other sub there = get_or-set_other block (64 + at) (64 + sub) new [] (λ e. false≢true (sym there ∙ eq-eqb at sub (omega arith)))

    here_is : get_or (slice_set block (64 + at) new) (64 + at) [] ≡ new
    here_is = get_or-set_same block (64 + at) new [] (omega (arith, is.long))

    counted : (sub : ℕ) → sub < 32 → (b : Bool) → nat_eq at sub ≡ b → length (get_or (slice_set block (64 + at) new) (64 + sub) []) ≡ count_put_up sub h
    counted sub lt true here = rw (← eqb-true at sub here) (ap length here_is ∙ length-carried block at (count_of c) 0 old ∙ is.count at at_lt)
    counted sub lt false there = ap length (other sub there) ∙ is.count sub lt

    carried_is : (place : ℕ) (b : Bool) → nat_lt place (count_of c) ≡ b
        → (if b then stepped (ramp_in block at place) (get_or old place 0) else get_or old place 0) ≡ next_word (source_at at place h) (if b then suc (times_carried own at place h) else times_carried own at place h)
    carried_is place true lt = rw (is.ramps at place at_lt, is.words at place at_lt) (step_is (source_at at place h) (times_carried own at place h))
    carried_is place false ge = is.words at place at_lt

    within : (place : ℕ) (b : Bool) → nat_lt place (length old) ≡ b
        → get_or new place 0 ≡ next_word (source_at at place h) (if nat_lt place (count_of c) then suc (times_carried own at place h) else times_carried own at place h)
    within place true lt = carried_here block at (count_of c) old place (grind (arith, nat_tests)) ∙ carried_is place (nat_lt place (count_of c)) refl
    within place false ge =
        let far : length old ≤ place = grind (arith, nat_tests) in
        let long : length old ≡ count_put_up at h = is.count at at_lt in
        let none : source_at at place h ≡ stays 0 = beyond at place h (omega (arith, far, long)) in
        rw none (get_or_past new place 0 (omega (arith, far, length-carried block at (count_of c) 0 old)))

    word_here : (place : ℕ) → get_or (get_or (slice_set block (64 + at) new) (64 + at) []) place 0 ≡ word_put_up own at place (Quiet line ∷ h)
    word_here place = rw (gives at place, eq-eqb at at refl) (ap (λ (ws : List ℕ). get_or ws place 0) here_is ∙ within place (nat_lt place (length old)) refl)

    word : (sub place : ℕ) → sub < 32 → (b : Bool) → nat_eq at sub ≡ b → get_or (get_or (slice_set block (64 + at) new) (64 + sub) []) place 0 ≡ word_put_up own sub place (Quiet line ∷ h)
    word sub place lt true here = subst (λ (k : ℕ). get_or (get_or (slice_set block (64 + at) new) (64 + k) []) place 0 ≡ word_put_up own k place (Quiet line ∷ h)) (eqb-true at sub here) (word_here place)
    word sub place lt false there = rw (gives sub place, there) (ap (λ (ws : List ℕ). get_or ws place 0) (other sub there) ∙ is.words sub place lt)

-- ---- an action that sets none of the words, and one that does

abbrev pub SetsNone : Action → Type 0
SetsNone action = ((sub place : ℕ) → told_source sub place action ≡ None) × ((sub before : ℕ) → told_count sub action before ≡ before)

pub puts_none : (own : ℕ) (block : List (List ℕ)) (action : Action) (h : History) → SetsNone action → ArePutUp own block h → ArePutUp own block (Host action ∷ h)
puts_none own block action h none is = record {
  long = is.long;
  count = λ sub lt. is.count sub lt ∙ sym (none.1 sub (count_put_up sub h));
  words = λ sub place lt. rw (none.0 sub place) (is.words sub place lt);
  ramps = λ sub place lt. rw (none.0 sub place) (is.ramps sub place lt);
}

pub told_none : (action : Action) → ((put : PutUp) → action ≡ Transmit put → ⊥) → ((r : Ramped) → action ≡ Ramp r → ⊥) → SetsNone action
told_none (Transmit put) other more = absurd (other put refl)
told_none (Ramp r) other more = absurd (more r refl)
told_none (Busy on) other more = (λ sub place. refl, λ sub before. refl)
told_none (Service on) other more = (λ sub place. refl, λ sub before. refl)
told_none (Subsystem on) other more = (λ sub place. refl, λ sub before. refl)
told_none (Fault on) other more = (λ sub place. refl, λ sub before. refl)
told_none (Control on) other more = (λ sub place. refl, λ sub before. refl)
told_none (Vector word) other more = (λ sub place. refl, λ sub before. refl)
told_none (SelfTest word) other more = (λ sub place. refl, λ sub before. refl)
told_none (Illegal mark) other more = (λ sub place. refl, λ sub before. refl)
told_none (Legal mark) other more = (λ sub place. refl, λ sub before. refl)
told_none (Response ticks) other more = (λ sub place. refl, λ sub before. refl)
told_none (Deaf line on) other more = (λ sub place. refl, λ sub before. refl)
told_none (Mute line on) other more = (λ sub place. refl, λ sub before. refl)
told_none (IllegalMode mark) other more = (λ sub place. refl, λ sub before. refl)
told_none (LegalMode mark) other more = (λ sub place. refl, λ sub before. refl)
told_none (Broadcast on) other more = (λ sub place. refl, λ sub before. refl)
told_none (Power on) other more = (λ sub place. refl, λ sub before. refl)
told_none (BitWord word) other more = (λ sub place. refl, λ sub before. refl)
told_none ServiceOnce other more = (λ sub place. refl, λ sub before. refl)
told_none (Gap ticks) other more = (λ sub place. refl, λ sub before. refl)

-- three lists of a subaddress are written
record IsWritten (block later : List (List ℕ)) (at : ℕ) (words adds ramps : List ℕ) : Type 0 where
  long : length later ≡ length block
  words_at : get_or later (64 + at) [] ≡ words
  adds_at : get_or later (96 + at) [] ≡ adds
  ramps_at : get_or later (128 + at) [] ≡ ramps
  other : (sub : ℕ) → sub < 32 → nat_eq at sub ≡ false → (get_or later (64 + sub) [] ≡ get_or block (64 + sub) []) × (get_or later (96 + sub) [] ≡ get_or block (96 + sub) []) × (get_or later (128 + sub) [] ≡ get_or block (128 + sub) [])
  received : (slot : ℕ) → slot < 64 → get_or later slot [] ≡ get_or block slot []

written : (block : List (List ℕ)) (at : ℕ) (words adds ramps : List ℕ) → length block ≡ 160 → at < 32
    → IsWritten block (slice_set (slice_set (slice_set block (64 + at) words) (96 + at) adds) (128 + at) ramps) at words adds ramps
written block at words adds ramps long at_lt = record {
  long = length-set two (128 + at) ramps ∙ length-set one (96 + at) adds ∙ length-set block (64 + at) words;
  words_at = get_or-set_other two (128 + at) (64 + at) ramps [] (λ e. absurd (omega arith)) ∙ get_or-set_other one (96 + at) (64 + at) adds [] (λ e. absurd (omega arith)) ∙ get_or-set_same block (64 + at) words [] (omega arith);
  adds_at = get_or-set_other two (128 + at) (96 + at) ramps [] (λ e. absurd (omega arith)) ∙ get_or-set_same one (96 + at) adds [] (omega (arith, long_one));
  ramps_at = get_or-set_same two (128 + at) ramps [] (omega (arith, long_two));
  other = λ sub lt there. (
    far (64 + sub) (λ e. eqb-false at sub there (omega arith)) (λ e. eqb-false at sub there (omega arith)) (λ e. eqb-false at sub there (omega arith)),
    far (96 + sub) (λ e. eqb-false at sub there (omega arith)) (λ e. eqb-false at sub there (omega arith)) (λ e. eqb-false at sub there (omega arith)),
    far (128 + sub) (λ e. eqb-false at sub there (omega arith)) (λ e. eqb-false at sub there (omega arith)) (λ e. eqb-false at sub there (omega arith)),
  );
  received = λ slot lt. far slot (λ e. absurd (omega arith)) (λ e. absurd (omega arith)) (λ e. absurd (omega arith));
}
  where
    one : List (List ℕ)
    one = slice_set block (64 + at) words

    two : List (List ℕ)
    two = slice_set one (96 + at) adds

    long_one : length one ≡ 160
    long_one = length-set block (64 + at) words ∙ long

    long_two : length two ≡ 160
    long_two = length-set one (96 + at) adds ∙ long_one

    far : (slot : ℕ) → (64 + at ≡ slot → ⊥) → (96 + at ≡ slot → ⊥) → (128 + at ≡ slot → ⊥) → get_or (slice_set two (128 + at) ramps) slot [] ≡ get_or block slot []
    far slot a b c = get_or-set_other two (128 + at) slot ramps [] (λ e. c (sym e)) ∙ get_or-set_other one (96 + at) slot adds [] (λ e. b (sym e)) ∙ get_or-set_other block (64 + at) slot words [] (λ e. a (sym e))

written_placed : (block : List (List ℕ)) (at place start add : ℕ) → length block ≡ 160 → at < 32
    → IsWritten block (with_ramp block at place start add) at (with_place (get_or block (64 + at) []) place start) (with_place (get_or block (96 + at) []) place add) (with_place (get_or block (128 + at) []) place 1)
written_placed block at place start add long at_lt = rw (two_is, one_is) (written block at words (with_place (get_or block (96 + at) []) place add) (with_place (get_or block (128 + at) []) place 1) long at_lt)
  where
    words : List ℕ
    words = with_place (get_or block (64 + at) []) place start

    one_is : get_or (slice_set block (64 + at) words) (96 + at) [] ≡ get_or block (96 + at) []
    one_is = get_or-set_other block (64 + at) (96 + at) words [] (λ e. absurd (omega arith))

    two_is : (adds : List ℕ) → get_or (slice_set (slice_set block (64 + at) words) (96 + at) adds) (128 + at) [] ≡ get_or block (128 + at) []
    two_is adds = get_or-set_other (slice_set block (64 + at) words) (96 + at) (128 + at) adds [] (λ e. absurd (omega arith)) ∙ get_or-set_other block (64 + at) (128 + at) words [] (λ e. absurd (omega arith))

ramp_same : (later block : List (List ℕ)) (sub place : ℕ) → get_or later (96 + sub) [] ≡ get_or block (96 + sub) [] → get_or later (128 + sub) [] ≡ get_or block (128 + sub) [] → ramp_in later sub place ≡ ramp_in block sub place
ramp_same later block sub place adds ramps = rw (adds, ramps) refl

-- words that stay are put up
pub puts_words : (own : ℕ) (block : List (List ℕ)) (put : PutUp) (h : History) → put.sub < 32 → ArePutUp own block h → ArePutUp own (with_words block put.sub put.words) (Host (Transmit put) ∷ h)
puts_words own block put h at_lt is = record {
  long = w.long ∙ is.long;
  count = λ sub lt. counted sub lt (nat_eq put.sub sub) refl;
  words = λ sub place lt. word sub place lt (nat_eq put.sub sub) refl;
  ramps = λ sub place lt. ramped sub place lt (nat_eq put.sub sub) refl;
}
  where
    later : List (List ℕ)
    later = with_words block put.sub put.words

    w : IsWritten block later put.sub put.words [] []
    w = written block put.sub put.words [] [] is.long at_lt

    counted : (sub : ℕ) → sub < 32 → (b : Bool) → nat_eq put.sub sub ≡ b → length (get_or later (64 + sub) []) ≡ count_put_up sub (Host (Transmit put) ∷ h)
    counted sub lt true here = rw (here, ← eqb-true put.sub sub here) (ap length w.words_at)
    counted sub lt false there = rw there (ap length (w.other sub lt there).0 ∙ is.count sub lt)

    word : (sub place : ℕ) → sub < 32 → (b : Bool) → nat_eq put.sub sub ≡ b → get_or (get_or later (64 + sub) []) place 0 ≡ word_put_up own sub place (Host (Transmit put) ∷ h)
    word sub place lt true here = rw (here, ← eqb-true put.sub sub here) (ap (λ (ws : List ℕ). get_or ws place 0) w.words_at)
    word sub place lt false there = rw there (ap (λ (ws : List ℕ). get_or ws place 0) (w.other sub lt there).0 ∙ is.words sub place lt)

    ramped : (sub place : ℕ) → sub < 32 → (b : Bool) → nat_eq put.sub sub ≡ b → ramp_in later sub place ≡ added (source_at sub place (Host (Transmit put) ∷ h))
    ramped sub place lt true here = rw (here, ← eqb-true put.sub sub here, w.ramps_at) refl
    ramped sub place lt false there = rw there (ramp_same later block sub place (w.other sub lt there).1 (w.other sub lt there).2 ∙ is.ramps sub place lt)

length-exactly : (n : ℕ) (words : List ℕ) → length words ≤ n → length (exactly n words) ≡ n
length-exactly n words le = omega (arith, length-append (take n words) (replicate (n - length words) 0), length-take-le n words, length-replicate {A = ℕ} (n - length words) 0, length-take n words)

zeros : (z m i : ℕ) → get_or (replicate m z) i z ≡ z
zeros z zero i = refl
zeros z (suc m) zero = refl
zeros z (suc m) (suc i) = zeros z m i

filled-at : (n : ℕ) (words : List ℕ) (k : ℕ) → length words ≤ n → get_or (exactly n words) k 0 ≡ get_or words k 0
filled-at n words k le = rw (take_all n words le) (go (nat_lt k (length words)) refl)
  where
    go : (b : Bool) → nat_lt k (length words) ≡ b → get_or (words ++ replicate (n - length words) 0) k 0 ≡ get_or words k 0
    go true lt = get_or_append_left words (replicate (n - length words) 0) 0 k (grind (arith, nat_tests))
    go false ge =
        get_or-append_right words (replicate (n - length words) 0) (length words) k 0 refl (grind (arith, nat_tests)) ∙ zeros 0 (n - length words) (k - length words) ∙ sym (get_or_past words k 0 (grind (arith, nat_tests)))

starts : (start add : ℕ) → start < 65536 → start ≡ (start + 0 * add) % 65536
starts start add small = omega arith

suc-eq : (a b : ℕ) → nat_eq (suc a) (suc b) ≡ nat_eq a b
suc-eq a b = go (nat_eq a b) refl
  where
    go : (c : Bool) → nat_eq a b ≡ c → nat_eq (suc a) (suc b) ≡ c
    go true is = eq-eqb (suc a) (suc b) (ap suc (eqb-true a b is))
    go false is = grind (arith, nat_tests)

-- a list with a word set, and zeros before it where there are fewer
length-with : (words : List ℕ) (place value : ℕ) → length (with_place words place value) ≡ max (length words) (suc place)
length-with words place value = length-set (exactly (max (length words) (suc place)) words) place value ∙ length-exactly (max (length words) (suc place)) words (omega arith)

with_at : (words : List ℕ) (place value k : ℕ) → get_or (with_place words place value) k 0 ≡ (if nat_eq place k then value else get_or words k 0)
with_at words place value k = go (nat_eq place k) refl
  where
    n : ℕ
    n = max (length words) (suc place)

    go : (b : Bool) → nat_eq place k ≡ b → get_or (with_place words place value) k 0 ≡ (if b then value else get_or words k 0)
    go true here = rw (← eqb-true place k here) (get_or-set_same (exactly n words) place value 0 (omega (arith, length-exactly n words (omega arith))))
    go false there = get_or-set_other (exactly n words) place k value 0 (λ e. eqb-false place k there (sym e)) ∙ filled-at n words k (omega arith)

-- a ramp is put up
pub puts_ramp : (own : ℕ) (block : List (List ℕ)) (r : Ramped) (h : History) (place : ℕ) → r.sub < 32 → r.index ≡ suc place → r.start < 65536
    → ArePutUp own block h → ArePutUp own (with_ramp block r.sub place r.start r.add) (Host (Ramp r) ∷ h)
puts_ramp own block r h place at_lt index small is = record {
  long = w.long ∙ is.long;
  count = λ sub lt. counted sub lt (nat_eq r.sub sub) refl;
  words = λ sub k lt. word sub k lt (nat_eq r.sub sub) refl;
  ramps = λ sub k lt. ramped sub k lt (nat_eq r.sub sub) refl;
}
  where
    old : ℕ → List ℕ
    old base = get_or block (base + r.sub) []

    later : List (List ℕ)
    later = with_ramp block r.sub place r.start r.add

    w : IsWritten block later r.sub (with_place (old 64) place r.start) (with_place (old 96) place r.add) (with_place (old 128) place 1)
    w = written_placed block r.sub place r.start r.add is.long at_lt

    counted_here : length (get_or later (64 + r.sub) []) ≡ count_put_up r.sub (Host (Ramp r) ∷ h)
    counted_here = rw (eq-eqb r.sub r.sub refl, index) (ap length w.words_at ∙ length-with (old 64) place r.start ∙ ap (λ (n : ℕ). max n (suc place)) (is.count r.sub at_lt))

    counted : (sub : ℕ) → sub < 32 → (b : Bool) → nat_eq r.sub sub ≡ b → length (get_or later (64 + sub) []) ≡ count_put_up sub (Host (Ramp r) ∷ h)
    counted sub lt true here = subst (λ (k : ℕ). length (get_or later (64 + k) []) ≡ count_put_up k (Host (Ramp r) ∷ h)) (eqb-true r.sub sub here) counted_here
    counted sub lt false there = rw there (ap length (w.other sub lt there).0 ∙ is.count sub lt)

    tests : (k : ℕ) (b : Bool) → nat_eq place k ≡ b → nat_eq r.index (suc k) ≡ b
    tests k b here = rw index (suc-eq place k ∙ here)

    at_place : (k : ℕ) (b : Bool) → nat_eq place k ≡ b → (if b then r.start else get_or (old 64) k 0) ≡ word_put_up own r.sub k (Host (Ramp r) ∷ h)
    at_place k true here = rw (eq-eqb r.sub r.sub refl, tests k true here) (starts r.start r.add small)
    at_place k false there = rw (eq-eqb r.sub r.sub refl, tests k false there) (is.words r.sub k at_lt)

    word : (sub k : ℕ) → sub < 32 → (b : Bool) → nat_eq r.sub sub ≡ b → get_or (get_or later (64 + sub) []) k 0 ≡ word_put_up own sub k (Host (Ramp r) ∷ h)
    word sub k lt true here =
        subst (λ (n : ℕ). get_or (get_or later (64 + n) []) k 0 ≡ word_put_up own n k (Host (Ramp r) ∷ h)) (eqb-true r.sub sub here)
        (ap (λ (ws : List ℕ). get_or ws k 0) w.words_at ∙ with_at (old 64) place r.start k ∙ at_place k (nat_eq place k) refl)
    word sub k lt false there = rw there (ap (λ (ws : List ℕ). get_or ws k 0) (w.other sub lt there).0 ∙ is.words sub k lt)

    ramp_at_place : (k : ℕ) (b : Bool) → nat_eq place k ≡ b
        → (if (if b then 1 else get_or (old 128) k 0) == 1 then Some (if b then r.add else get_or (old 96) k 0) else None) ≡ added (source_at r.sub k (Host (Ramp r) ∷ h))
    ramp_at_place k true here = rw (eq-eqb r.sub r.sub refl, tests k true here) refl
    ramp_at_place k false there = rw (eq-eqb r.sub r.sub refl, tests k false there) (is.ramps r.sub k at_lt)

    ramped_here : (k : ℕ) → ramp_in later r.sub k ≡ added (source_at r.sub k (Host (Ramp r) ∷ h))
    ramped_here k = rw (w.ramps_at, w.adds_at, with_at (old 128) place 1 k, with_at (old 96) place r.add k) (ramp_at_place k (nat_eq place k) refl)

    ramped : (sub k : ℕ) → sub < 32 → (b : Bool) → nat_eq r.sub sub ≡ b → ramp_in later sub k ≡ added (source_at sub k (Host (Ramp r) ∷ h))
    ramped sub k lt true here = subst (λ (n : ℕ). ramp_in later n k ≡ added (source_at n k (Host (Ramp r) ∷ h))) (eqb-true r.sub sub here) (ramped_here k)
    ramped sub k lt false there = rw there (ramp_same later block sub k (w.other sub lt there).1 (w.other sub lt there).2 ∙ is.ramps sub k lt)

-- the words that were received stay
pub keeps_received : (own : ℕ) (block later : List (List ℕ)) (h : History) → ((slot : ℕ) → slot < 64 → get_or later slot [] ≡ get_or block slot []) → AreReceived own block h → AreReceived own later h
keeps_received own block later h same is = record {
  addressed = λ sub lt. same sub (omega arith) ∙ is.addressed sub lt;
  from_all = λ sub lt. same (32 + sub) (omega arith) ∙ is.from_all sub lt;
}

pub words_keep : (block : List (List ℕ)) (put : PutUp) → length block ≡ 160 → put.sub < 32 → (slot : ℕ) → slot < 64 → get_or (with_words block put.sub put.words) slot [] ≡ get_or block slot []
words_keep block put long lt = (written block put.sub put.words [] [] long lt).received

pub ramp_keeps : (block : List (List ℕ)) (at place start add : ℕ) → length block ≡ 160 → at < 32 → (slot : ℕ) → slot < 64 → get_or (with_ramp block at place start add) slot [] ≡ get_or block slot []
ramp_keeps block at place start add long lt = (written_placed block at place start add long lt).received

-- ---- no ramp at a subaddress

pub no_ramps : (block : List (List ℕ)) (sub count : ℕ) → length (get_or block (128 + sub) []) ≡ 0 → (place : ℕ) (words : List ℕ) → carried_from block sub count place words ≡ words
no_ramps block sub count none place [] = refl
no_ramps block sub count none place (word ∷ words) =
    let no : get_or (get_or block (128 + sub) []) place 0 ≡ 0 = get_or_past (get_or block (128 + sub) []) place 0 (omega arith) in
    let word_is : (if nat_lt place count then stepped (ramp_in block sub place) word else word) ≡ word = rw no (same (nat_lt place count) word) in
    ap₂ (λ (w : ℕ) (ws : List ℕ). w ∷ ws) word_is (no_ramps block sub count none (place + 1) words)
  where
    same : (b : Bool) (word : ℕ) → (if b then word else word) ≡ word
    same true word = refl
    same false word = refl

set-itself : (xs : List (List ℕ)) (i : ℕ) → set xs i (get_or xs i []) ≡ xs
set-itself [] i = refl
set-itself (x ∷ xs) zero = refl
set-itself (x ∷ xs) (suc i) = ap (λ (ys : List (List ℕ)). x ∷ ys) (set-itself xs i)

pub carries_none : (block : List (List ℕ)) (sub count : ℕ) → length (get_or block (128 + sub) []) ≡ 0 → block ≡ carried block sub count
carries_none block sub count none =
    sym (ap (λ (ws : List ℕ). set block (64 + sub) ws) (no_ramps block sub count none 0 (get_or block (64 + sub) [])) ∙ set-itself block (64 + sub))

-- ---- lists are emptied, one after the other

empty-at : (xs : List (List ℕ)) (i : ℕ) → get_or (set xs i []) i [] ≡ []
empty-at [] i = refl
empty-at (x ∷ xs) zero = refl
empty-at (x ∷ xs) (suc i) = empty-at xs i

pub emptied-more : (block later : List (List ℕ)) (slot : ℕ) → later ≡ slice_set block slot [] → ((k : ℕ) → k < slot → get_or block k [] ≡ []) → (k : ℕ) → k < slot + 1 → get_or later k [] ≡ []
emptied-more block later slot is before k lt = go (nat_eq slot k) refl
  where
    go : (b : Bool) → nat_eq slot k ≡ b → get_or later k [] ≡ []
    go true here = rw (is, ← eqb-true slot k here) (empty-at block slot)
    go false there = rw is (get_or-set_other block slot k [] [] (λ e. eqb-false slot k there (sym e)) ∙ before k (grind (arith, nat_tests)))

pub kept-more : (block later : List (List ℕ)) (slot : ℕ) → later ≡ slice_set block slot [] → (k : ℕ) → slot + 1 ≤ k → get_or later k [] ≡ get_or block k []
kept-more block later slot is k le = rw is (get_or-set_other block slot k [] [] (λ e. absurd (omega arith)))

-- an action that sets no BIT word, and one that does not turn the terminal on
pub sets_no_bit : (action : Action) (word : ℕ) → ((w : ℕ) → action ≡ BitWord w → ⊥) → word ≡ unwrap_or (told_bit action) word
sets_no_bit (BitWord w) word other = absurd (other w refl)
sets_no_bit (Transmit put) word other = refl
sets_no_bit (Ramp r) word other = refl
sets_no_bit (Busy on) word other = refl
sets_no_bit (Service on) word other = refl
sets_no_bit (Subsystem on) word other = refl
sets_no_bit (Fault on) word other = refl
sets_no_bit (Control on) word other = refl
sets_no_bit (Vector w) word other = refl
sets_no_bit (SelfTest w) word other = refl
sets_no_bit (Illegal mark) word other = refl
sets_no_bit (Legal mark) word other = refl
sets_no_bit (Response ticks) word other = refl
sets_no_bit (Deaf line on) word other = refl
sets_no_bit (Mute line on) word other = refl
sets_no_bit (IllegalMode mark) word other = refl
sets_no_bit (LegalMode mark) word other = refl
sets_no_bit (Broadcast on) word other = refl
sets_no_bit (Power on) word other = refl
sets_no_bit ServiceOnce word other = refl
sets_no_bit (Gap ticks) word other = refl

pub turns_not_on : (action : Action) → ((on : Bool) → action ≡ Power on → ⊥) → turns_on action ≡ false
turns_not_on (Power on) other = absurd (other on refl)
turns_not_on (Transmit put) other = refl
turns_not_on (Ramp r) other = refl
turns_not_on (Busy on) other = refl
turns_not_on (Service on) other = refl
turns_not_on (Subsystem on) other = refl
turns_not_on (Fault on) other = refl
turns_not_on (Control on) other = refl
turns_not_on (Vector w) other = refl
turns_not_on (SelfTest w) other = refl
turns_not_on (Illegal mark) other = refl
turns_not_on (Legal mark) other = refl
turns_not_on (Response ticks) other = refl
turns_not_on (Deaf line on) other = refl
turns_not_on (Mute line on) other = refl
turns_not_on (IllegalMode mark) other = refl
turns_not_on (LegalMode mark) other = refl
turns_not_on (Broadcast on) other = refl
turns_not_on (BitWord w) other = refl
turns_not_on ServiceOnce other = refl
turns_not_on (Gap ticks) other = refl
