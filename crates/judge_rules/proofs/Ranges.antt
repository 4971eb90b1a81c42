-- The numbers of the rules that a text spells are in their ranges.
use Rattle.std.proofs.Common.{◌≡◌, ℕ, zero, suc, ◌≤◌, Bool, true, false, List, [], ◌∷◌, length, drop, refl, subst, arith}
use Rattle.std.specs.Prelude.{Option, Some, None, Result, Ok, Err, IfOk, ◌&&◌, nat_le, not, if◌then◌else◌, codes}
use Rattle.std.specs.List.{AllByRecursion}
use Rattle.std.specs.Str.{bytes_eq}
use Rattle.std.proofs.lemmas.Bool.{and_parts}
use Rattle.std.proofs.lemmas.Bool.Decides.{nat_tests}
use Rattle.numerals.specs.Numerals as numerals
use Rattle.text_lines.specs.Words.{Text, begins_with}
use Rattle.mil_mode.specs.Codes.{last_code}
use Rattle.mil_word.specs.Fields.{highest_address, highest_subaddress, most_words}
use Rattle.judge_rules.specs.declared.fault.RuleFault.{RuleFault}
use Rattle.judge_rules.specs.declared.fault.RuleFault.TheVariants.{Word, Range}
use Rattle.judge_rules.specs.declared.rules.Bounds.{Bounds}
use Rattle.mil_word.specs.declared.Line.{Line}
use Rattle.judge_rules.specs.declared.rules.Check.{Check}
use Rattle.judge_rules.specs.declared.rules.Check.TheVariants.{Status, Data, Response, Period, DataStep, DataWord}
use Rattle.judge_rules.specs.declared.checks.CheckName.{CheckName}
use Rattle.judge_rules.specs.declared.checks.CheckName.TheVariants as names
use Rattle.judge_rules.specs.declared.rules.Check.TheVariants as check
use Rattle.judge_rules.specs.declared.rules.Kind.{Kind}
use Rattle.judge_rules.specs.declared.rules.Span.{Span}
use Rattle.judge_rules.specs.declared.rules.Datum.{Datum}
use Rattle.judge_rules.specs.declared.rules.Rule.{Rule}
use Rattle.judge_rules.specs.declared.rules.Selector.{Selector}
use Rattle.judge_rules.specs.declared.rules.Selector.TheVariants.{Any, ReceiveAll, ModeAll}
use Rattle.judge_rules.specs.Checks.{behind_place, check_behind, check_in, count_in, counting, data_word_in, in_order, name_of, only_bounds, place_in, range_in, status_in}
use Rattle.judge_rules.specs.Kinds.{counted_in}
use Rattle.judge_rules.specs.Faults.{Read, both, ended, made}
use Rattle.judge_rules.specs.Lines.{Expected, behind_channel, bus_in, channel_in, expected_in, fitting_in, from_selector, from_times, is_any_bus, is_any_message, is_any_time, is_whole}
use Rattle.judge_rules.specs.Ranges.{AreBounds, AreOrdered, IsCheck, IsChoice, IsFrom, AreInRange, IsSelector, IsSpan, IsWordRange, IsAddress, IsSubaddress, IsCode, last_tick}
use Rattle.judge_rules.specs.Spans as spans
use Rattle.judge_rules.specs.Spans.{are_ordered, behind_end, span_in, span_of, tick_in}
use Rattle.judge_rules.specs.Times.{ticks_spelled}
use Rattle.judge_rules.specs.Parts.{IsInRange}
use Rattle.judge_rules.specs.Selectors.{address_in, behind_selector, between_all_in, between_in, code_in, end_in, mode_all_in, mode_in, receive_all_in, receive_in, selector_in, subaddress_in, transmit_in}
use Rattle.judge_rules.specs.Values.{all_data, and_then, bounds_in, bounds_of, choice_in, data_in, datum_of, number_in, number_of, within, word_in}

-- ---- what is read in parts

pub if_made : {X Y : Type 0} (P : X → Type 0) (Q : Y → Type 0) (make : X → Y) (read : Read X) → ((x : X) → P x → Q (make x)) → IfOk read P → IfOk (made make read) Q
if_made P Q make (Ok x) on is = on x is
if_made P Q make (Err f) on is = tt

pub if_both : {X Y : Type 0} (P : X → Type 0) (Q : Y → Type 0) (a : Read X) (b : Read Y) → IfOk a P → IfOk b Q → IfOk (both a b) (λ (x : X × Y). P x.0 × Q x.1)
if_both P Q (Ok a) (Ok b) p q = (p, q)
if_both P Q (Ok a) (Err f) p q = tt
if_both P Q (Err f) (Ok b) p q = tt
if_both P Q (Err f) (Err g) p q = tt

pub if_more : {X : Type 0} (P Q : X → Type 0) (read : Read X) → ((x : X) → P x → Q x) → IfOk read P → IfOk read Q
if_more P Q (Ok x) on is = on x is
if_more P Q (Err f) on is = tt

any_ok : {X : Type 0} (read : Read X) → IfOk read (λ (x : X). Unit {0})
any_ok (Ok x) = tt
any_ok (Err f) = tt

if_ended : {X : Type 0} (P : X → Type 0) (read : Read X) (rest : List Text) → IfOk read P → IfOk (ended read rest) P
if_ended P read [] is = is
if_ended P read (word ∷ rest) is = tt

if_then : {X Y : Type 0} (P : X → Type 0) (Q : Y → Type 0) (read : Read X) (next : X → Read Y) → IfOk read P → ((x : X) → P x → IfOk (next x) Q) → IfOk (and_then read next) Q
if_then P Q (Ok x) next is on = on x is
if_then P Q (Err f) next is on = tt

pub if_either : {X E : Type 0} (P : X → Type 0) (b : Bool) (first second : Result X E) → IfOk first P → IfOk second P → IfOk (if b then first else second) P
if_either P true first second f s = f
if_either P false first second f s = s

-- one of eight, or none
if_any : {X : Type 0} (P : X → Type 0) (a b c d e f g h : Bool) (ra rb rc rd re rf rg rh : Read X) → IfOk ra P → IfOk rb P → IfOk rc P → IfOk rd P → IfOk re P → IfOk rf P → IfOk rg P → IfOk rh P
    → IfOk (if a then ra else if b then rb else if c then rc else if d then rd else if e then re else if f then rf else if g then rg else if h then rh else Err Word) P
if_any P true b c d e f g h ra rb rc rd re rf rg rh pa pb pc pd pe pf pg ph = pa
if_any P false true c d e f g h ra rb rc rd re rf rg rh pa pb pc pd pe pf pg ph = pb
if_any P false false true d e f g h ra rb rc rd re rf rg rh pa pb pc pd pe pf pg ph = pc
if_any P false false false true e f g h ra rb rc rd re rf rg rh pa pb pc pd pe pf pg ph = pd
if_any P false false false false true f g h ra rb rc rd re rf rg rh pa pb pc pd pe pf pg ph = pe
if_any P false false false false false true g h ra rb rc rd re rf rg rh pa pb pc pd pe pf pg ph = pf
if_any P false false false false false false true h ra rb rc rd re rf rg rh pa pb pc pd pe pf pg ph = pg
if_any P false false false false false false false true ra rb rc rd re rf rg rh pa pb pc pd pe pf pg ph = ph
if_any P false false false false false false false false ra rb rc rd re rf rg rh pa pb pc pd pe pf pg ph = tt

-- ---- values

range_within : (low high : ℕ) (n : Option ℕ) → IfOk (within low high n) (IsFrom low high)
range_within low high None = tt
range_within low high (Some n) = go (nat_le low n && nat_le n high) refl
  where
    go : (b : Bool) → (nat_le low n && nat_le n high) ≡ b → IfOk {E = RuleFault} (if b then Ok n else Err Range) (IsFrom low high)
    go true is =
        let parts = and_parts (nat_le low n) (nat_le n high) is in
        let least : nat_le low n ≡ true = parts.0 in
        let most : nat_le n high ≡ true = parts.1 in
        (grind (arith, nat_tests), grind (arith, nat_tests))
    go false is = tt

pub range_number : (low high : ℕ) (rest : List Text) → IfOk (number_in low high rest) (IsFrom low high)
range_number low high [] = tt
range_number low high (word ∷ rest) = range_within low high (numerals.number_of word)

range_choice : (low high : ℕ) (rest : List Text) → IfOk (choice_in low high rest) (IsChoice low high)
range_choice low high [] = tt
range_choice low high (word ∷ rest) =
    if_either (IsChoice low high) (bytes_eq word (codes "*")) (Ok None) (made Some (number_of low high word)) tt
    (if_made (IsFrom low high) (IsChoice low high) Some (number_of low high word) (λ n is. is) (range_within low high (numerals.number_of word)))

ordered : (most : ℕ) (read : Read (ℕ × ℕ)) → IfOk read (λ (x : ℕ × ℕ). IsFrom 0 most x.0 × IsFrom 0 most x.1) → IfOk (bounds_of read) (AreBounds most)
ordered most (Err f) is = tt
ordered most (Ok (low, high)) is = go (nat_le low high) refl
  where
    go : (b : Bool) → nat_le low high ≡ b → IfOk {E = RuleFault} (if b then Ok (record { low = low; high = high }) else Err Range) (AreBounds most)
    go true least = (grind (arith, nat_tests), is.1.1)
    go false least = tt

range_bounds : (most : ℕ) (rest : List Text) → IfOk (bounds_in most rest) (AreBounds most)
range_bounds most rest =
    ordered most (both (number_in 0 most rest) (number_in 0 most (drop 1 rest)))
    (if_both (IsFrom 0 most) (IsFrom 0 most) (number_in 0 most rest) (number_in 0 most (drop 1 rest)) (range_number 0 most rest) (range_number 0 most (drop 1 rest)))

range_data : (room : ℕ) (rest : List Text) → IfOk (all_data room rest) (λ (ds : List Datum). length ds ≤ room)
range_data room [] = omega arith
range_data zero (word ∷ rest) = tt
range_data (suc room) (word ∷ rest) =
    if_then (λ (d : Datum). Unit {0}) (λ (ds : List Datum). length ds ≤ suc room) (datum_of word) (λ d. and_then (all_data room rest) (λ ds. Ok (d ∷ ds))) (always (datum_of word))
    (λ d is. if_then (λ (ds : List Datum). length ds ≤ room) (λ (ds : List Datum). length ds ≤ suc room) (all_data room rest) (λ ds. Ok (d ∷ ds)) (range_data room rest) (λ ds few. omega (arith, few)))
  where
    always : (read : Read Datum) → IfOk read (λ (d : Datum). Unit {0})
    always (Ok d) = tt
    always (Err f) = tt

-- ---- selectors and checks

range_end : (rest : List Text) → IfOk (end_in rest) (λ (x : Option ℕ × Option ℕ). IsAddress x.0 × IsSubaddress x.1)
range_end rest = if_both IsAddress IsSubaddress (address_in rest) (subaddress_in (drop 1 rest)) (range_choice 0 highest_address rest) (range_choice 1 highest_subaddress (drop 1 rest))

abbrev IsEnd : Option ℕ × Option ℕ → Type 0
IsEnd end = IsAddress end.0 × IsSubaddress end.1

range_between : (rest : List Text) → IfOk (between_in rest) IsSelector
unfolding between_in
range_between rest =
    if_made (λ (x : (Option ℕ × Option ℕ) × (Option ℕ × Option ℕ)). IsEnd x.0 × IsEnd x.1) IsSelector _ (both (end_in rest) (end_in (drop 2 rest))) (λ x is. is)
    (if_both IsEnd IsEnd (end_in rest) (end_in (drop 2 rest)) (range_end rest) (range_end (drop 2 rest)))

range_between_all : (rest : List Text) → IfOk (between_all_in rest) IsSelector
range_between_all rest =
    if_made (λ (x : (Option ℕ × Option ℕ) × Option ℕ). IsEnd x.0 × IsSubaddress x.1) IsSelector _ (both (end_in rest) (subaddress_in (drop 2 rest))) (λ x is. is)
    (if_both IsEnd IsSubaddress (end_in rest) (subaddress_in (drop 2 rest)) (range_end rest) (range_choice 1 highest_subaddress (drop 2 rest)))

range_mode : (rest : List Text) → IfOk (mode_in rest) IsSelector
range_mode rest =
    if_made (λ (x : Option ℕ × Option ℕ). IsAddress x.0 × IsCode x.1) IsSelector _ (both (address_in rest) (code_in (drop 1 rest))) (λ x is. is)
    (if_both IsAddress IsCode (address_in rest) (code_in (drop 1 rest)) (range_choice 0 highest_address rest) (range_choice 0 last_code (drop 1 rest)))

pub range_selector : (rest : List Text) → IfOk (selector_in rest) IsSelector
range_selector [] = tt
range_selector (name ∷ rest) =
    if_any IsSelector (bytes_eq name (codes "any")) (bytes_eq name (codes "rx")) (bytes_eq name (codes "tx")) (bytes_eq name (codes "rt")) (bytes_eq name (codes "mode")) (bytes_eq name (codes "brx")) (bytes_eq name (codes "brt")) (bytes_eq name (codes "bmode")) (Ok Any) (receive_in rest) (transmit_in rest)
    (between_in rest) (mode_in rest) (receive_all_in rest) (between_all_in rest) (mode_all_in rest) tt (if_made IsEnd IsSelector _ (end_in rest) (λ x is. is) (range_end rest)) (if_made IsEnd IsSelector _ (end_in rest) (λ x is. is) (range_end rest)) (range_between rest) (range_mode rest)
    (if_made IsSubaddress IsSelector ReceiveAll (subaddress_in rest) (λ x is. is) (range_choice 1 highest_subaddress rest)) (range_between_all rest) (if_made IsCode IsSelector ModeAll (code_in rest) (λ x is. is) (range_choice 0 last_code rest))

range_only : (most : ℕ) (make : Bounds → Check) (rest : List Text) → ((b : Bounds) → AreBounds most b → IsCheck (make b)) → IfOk (made make (only_bounds most rest)) IsCheck
range_only most make rest on = if_made (AreBounds most) IsCheck make (only_bounds most rest) on (if_ended (AreBounds most) (bounds_in most rest) (drop 2 rest) (range_bounds most rest))

any_status : (read : Read Datum) → IfOk (made Status read) IsCheck
any_status (Ok d) = tt
any_status (Err f) = tt

range_counting : (read : Read (Bounds × Option Kind)) → IfOk read (λ (x : Bounds × Option Kind). AreBounds 9999999 x.0 × Unit {0}) → IfOk (made counting read) IsCheck
range_counting (Ok (b, None)) is = is.0
range_counting (Ok (b, Some k)) is = is.0
range_counting (Err f) is = tt

range_count : (rest : List Text) → IfOk (count_in rest) IsCheck
range_count rest =
    range_counting (both (bounds_in 9999999 rest) (counted_in (drop 2 rest)))
    (if_both (AreBounds 9999999) (λ (k : Option Kind). Unit {0}) (bounds_in 9999999 rest) (counted_in (drop 2 rest)) (range_bounds 9999999 rest) (any_ok (counted_in (drop 2 rest))))

range_order : (read : Read (ℕ × (ℕ × ℕ))) → IfOk read (λ (x : ℕ × (ℕ × ℕ)). IsFrom 1 most_words x.0 × Unit {0}) → IfOk (in_order read) IsWordRange
range_order (Err f) is = tt
range_order (Ok (place, (low, high))) is = go (nat_le low high) refl
  where
    go : (b : Bool) → nat_le low high ≡ b → IfOk {E = RuleFault} (if b then Ok (record { place = place; low = low; high = high }) else Err Range) IsWordRange
    go true least = (is.0, grind (arith, nat_tests))
    go false least = tt

range_range : (place : Read ℕ) (rest : List Text) → IfOk place (IsFrom 1 most_words) → IfOk (range_in place rest) IsWordRange
range_range place rest on =
    let values = both (word_in rest) (word_in (drop 1 rest)) in
    if_ended IsWordRange (in_order (both place values)) (drop 2 rest) (range_order (both place values) (if_both (IsFrom 1 most_words) (λ (x : ℕ × ℕ). Unit {0}) place values on (any_ok values)))

range_behind : (place : Read ℕ) (rest : List Text) → IfOk place (IsFrom 1 most_words) → IfOk (behind_place place rest) IsCheck
range_behind place rest on =
    if_either IsCheck (begins_with (codes "step") rest) (made DataStep (range_in place (drop 1 rest))) (made DataWord (range_in place rest))
    (if_made IsWordRange IsCheck DataStep (range_in place (drop 1 rest)) (λ r is. is) (range_range place (drop 1 rest) on))
    (if_made IsWordRange IsCheck DataWord (range_in place rest) (λ r is. is) (range_range place rest on))

range_data_word : (rest : List Text) → IfOk (data_word_in rest) IsCheck
unfolding data_word_in
range_data_word rest = range_behind (place_in rest) (drop 1 rest) (range_number 1 most_words rest)

range_check_behind : (name : Option CheckName) (rest : List Text) → IfOk (check_behind name rest) IsCheck
range_check_behind None rest = tt
range_check_behind (Some names.Sound) rest = if_ended IsCheck (Ok check.Sound) rest tt
range_check_behind (Some names.Failed) rest = if_ended IsCheck (Ok check.Failed) rest tt
range_check_behind (Some names.Clean) rest = if_ended IsCheck (Ok check.Clean) rest tt
range_check_behind (Some names.Status) rest = any_status (status_in rest)
range_check_behind (Some names.Data) rest = if_made (λ (ds : List Datum). length ds ≤ most_words) IsCheck (λ (found : List Datum). Data (record { items = found })) (data_in rest) (λ ds few. few) (range_data most_words rest)
range_check_behind (Some names.Response) rest = range_only 255 Response rest (λ b is. is)
range_check_behind (Some names.Period) rest = range_only 9999999 Period rest (λ b is. is)
range_check_behind (Some names.Count) rest = range_count rest
range_check_behind (Some names.DataWord) rest = range_data_word rest
range_check_behind (Some names.Whole) rest = if_ended IsCheck (Ok check.Whole) rest tt

pub range_check : (rest : List Text) → IfOk (check_in rest) IsCheck
range_check [] = tt
range_check (name ∷ rest) = range_check_behind (name_of name) rest

-- ---- times

range_tick : (rest : List Text) → IfOk (tick_in rest) (IsFrom 0 last_tick)
range_tick [] = tt
range_tick (word ∷ rest) = range_within 0 last_tick (ticks_spelled word)

range_time : (keyword : Text) (rest : List Text) → IfOk (spans.end_in keyword rest) (IsChoice 0 last_tick)
range_time keyword rest =
    if_either (IsChoice 0 last_tick) (begins_with keyword rest) (made Some (tick_in (drop 1 rest))) (Ok None)
    (if_made (IsFrom 0 last_tick) (IsChoice 0 last_tick) Some (tick_in (drop 1 rest)) (λ n is. is) (range_tick (drop 1 rest))) tt

are_in_order : (first last : Option ℕ) → are_ordered first last ≡ true → AreOrdered first last
are_in_order (Some a) (Some b) is = grind (arith, nat_tests)
are_in_order (Some a) None is = tt
are_in_order None last is = tt

range_span_of : (read : Read (Option ℕ × Option ℕ)) → IfOk read (λ (x : Option ℕ × Option ℕ). IsChoice 0 last_tick x.0 × IsChoice 0 last_tick x.1) → IfOk (span_of read) IsSpan
range_span_of (Err f) is = tt
range_span_of (Ok (first, last)) is = go (are_ordered first last) refl
  where
    go : (b : Bool) → are_ordered first last ≡ b → IfOk {E = RuleFault} (if b then Ok (record { from = first; to = last }) else Err Range) IsSpan
    go true in_order = (is, are_in_order first last in_order)
    go false in_order = tt

pub range_span : (rest : List Text) → IfOk (span_in rest) IsSpan
range_span rest =
    let first = spans.end_in (codes "from") rest in
    let last = spans.end_in (codes "to") (behind_end (codes "from") rest) in
    range_span_of (both first last) (if_both (IsChoice 0 last_tick) (IsChoice 0 last_tick) first last (range_time (codes "from") rest) (range_time (codes "to") (behind_end (codes "from") rest)))

-- ---- rules

pub range_channel : (rest : List Text) → IfOk (channel_in rest) (IsChoice 1 65535)
range_channel rest =
    if_either (IsChoice 1 65535) (begins_with (codes "channel") rest) (made Some (number_in 1 65535 (drop 1 rest))) (Ok None)
    (if_made (IsFrom 1 65535) (IsChoice 1 65535) Some (number_in 1 65535 (drop 1 rest)) (λ n is. is) (range_number 1 65535 (drop 1 rest))) tt

abbrev IsExpectedInRange : Expected → Type 0
IsExpectedInRange x = AreInRange x.0.0.0 x.0.1 x.1.0 x.1.1

range_fitting : (rest : List Text) → IfOk (fitting_in rest) IsCheck
range_fitting rest =
    let bus = bus_in (behind_channel rest) in
    let span = span_in (from_times rest) in
    let selector = selector_in (from_selector rest) in
    let read = check_in (behind_selector (from_selector rest)) in
    if_either IsCheck (is_whole read && not (is_any_bus bus && is_any_time span && is_any_message selector)) (Err Word) read tt (range_check (behind_selector (from_selector rest)))

abbrev IsPlace : Option ℕ × Option Line → Type 0
IsPlace x = IsChoice 1 65535 x.0 × Unit {0}

range_expected : (rest : List Text) → IfOk (expected_in rest) IsExpectedInRange
unfolding expected_in
range_expected rest =
    let channel = channel_in rest in
    let bus = bus_in (behind_channel rest) in
    let span = span_in (from_times rest) in
    let selector = selector_in (from_selector rest) in
    if_more (λ (x : Expected). (IsPlace x.0.0 × IsSpan x.0.1) × (IsSelector x.1.0 × IsCheck x.1.1)) IsExpectedInRange (both (both (both channel bus) span) (both selector (fitting_in rest)))
    (λ x is. ((is.0.0.0, is.0.1), is.1))
    (if_both (λ (x : (Option ℕ × Option Line) × Span). IsPlace x.0 × IsSpan x.1) (λ (x : Selector × Check). IsSelector x.0 × IsCheck x.1) (both (both channel bus) span) (both selector (fitting_in rest))
    (if_both IsPlace IsSpan (both channel bus) span (if_both (IsChoice 1 65535) (λ (b : Option Line). Unit {0}) channel bus (range_channel rest) (any_ok bus)) (range_span (from_times rest)))
    (if_both IsSelector IsCheck selector (fitting_in rest) (range_selector (from_selector rest)) (range_fitting rest)))

-- what is read of a text is in its ranges where the rule of its parts is made
pub made_in_range : (rest : List Text) (channel : Option ℕ) (bus : Option Line) (span : Span) (selector : Selector) (check : Check) → expected_in rest ≡ Ok (((channel, bus), span), (selector, check)) → AreInRange channel span selector check
made_in_range rest channel bus span selector check is = subst (λ (r : Read Expected). IfOk r IsExpectedInRange) is (range_expected rest)

-- all rules are
pub all_in_range : (rules : List Rule) → AllByRecursion IsInRange rules
all_in_range [] = tt
all_in_range (rule ∷ rules) = (rule.in_range, all_in_range rules)
