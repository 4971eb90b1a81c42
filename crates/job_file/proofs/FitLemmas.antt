-- Lines in their ranges make a head that keeps the ranges of a job.
use Rattle.std.proofs.Common.{◌≡◌, ℕ, zero, suc, ◌+◌, ◌<◌, ◌≤◌, List, [], ◌∷◌, ◌++◌, length, map, refl, ◌∙◌, arith}
use Rattle.std.specs.Prelude.{Bool, true, false, not, ◌&&◌, ◌||◌, ◌==◌, nat_le, nat_lt, Result, Ok, Err}
use Rattle.std.specs.Option.{option_to_list}
use Rattle.std.specs.Result.{is_ok}
use Rattle.std.specs.List.{list_any, list_all, range_with_len}
use Rattle.std.proofs.lemmas.Bool.{le-leb}
use Rattle.std.proofs.lemmas.Bool.Decides.{nat_tests}
use Rattle.std.proofs.lemmas.List.Folds.{list_any-append, list_all-append, list_all-map}
use Rattle.mil_host.specs.Reading.{in_words}
use Rattle.mil_host.specs.declared.actions.Action.{Action}
use Rattle.mil_host.specs.declared.reading.BadAction.{BadAction}
use Rattle.mil_bus.specs.Addresses.{is_fit}
use Rattle.bc_machine.specs.declared.placed.Placed.{Placed}
use Rattle.bc_machine.specs.declared.placed.HostAction.{HostAction}
use Rattle.bc_machine.specs.declared.placed.HostAction.TheVariants.{Terminal, Controller}
use Rattle.controller_host.specs.declared.controls.Control.{Control}
use Rattle.controller_text.specs.Reading.{control_in}
use Rattle.job_file.specs.Lines.{Said, blank, script, channel, start, terminal, action, control, fault, faults, series, timed_action, timed_control, timed_fault}
use Rattle.job_file.specs.declared.spans.Series.{Series}
use Rattle.job_file.specs.Spans.{IsSpan, span_count, span_number, placed_at, placed_by}
use Rattle.job_file.proofs.SpanLemmas.{number_high, all_counted}
use Rattle.job_file.specs.Entries.{IsInRange}
use Rattle.job_file.specs.HeadLines.{Head, has, has_room, placing, asking, placing_then, asking_then, turn_at, may_plan, may_stand, is_none_yet}
use Rattle.job_file.specs.JobRanges.{is_for, may_act, IsFit, IsFitTimed}
use Rattle.job_file.specs.Drafts.{with_line}
use Rattle.mil_line.specs.Plans.{Planned, faults_of}
use Rattle.mil_line.specs.Ranges.{is_number, is_in_range}
use Rattle.mil_line.specs.declared.faults.Fault.{Fault}
use Rattle.job_moments.specs.Planning.{PlannedFault}
use Rattle.job_moments.specs.declared.moments.Moment.{Moment}
use Rattle.job_moments.specs.declared.occasions.Occasion.{Occasion}
use Rattle.job_moments.specs.declared.occasions.Occasion.TheVariants.{Numbers}
use Rattle.job_file.specs.Whens.{turns_of}
use Rattle.job_file.specs.TimedLines.{with_fault}
use Rattle.job_file.specs.declared.timed.TimedAction.{TimedAction}
use Rattle.job_file.specs.declared.spans.Span.{Span}

and_left : (a b : Bool) → (a && b) ≡ true → a ≡ true
and_left true b h = refl
and_left false b h = cc

and_right : (a b : Bool) → (a && b) ≡ true → b ≡ true
and_right true b h = h
and_right false b h = cc

or_left : (a b : Bool) → (a || b) ≡ false → a ≡ false
or_left true b h = cc
or_left false b h = refl

or_right : (a b : Bool) → (a || b) ≡ false → b ≡ false
or_right true b h = cc
or_right false b h = h

both : {a b : Bool} → a ≡ true → b ≡ true → (a && b) ≡ true
both e f = rw (e, f) refl

not_true : (a : Bool) → not a ≡ true → a ≡ false
not_true true h = cc
not_true false h = refl

other_way : (a b : ℕ) → (a == b) ≡ false → (b == a) ≡ false
other_way a b h = grind (arith, nat_tests)

-- one more address
fit_push : (xs : List ℕ) (a : ℕ) → is_fit xs ≡ true → has a xs ≡ false → a ≤ 30 → is_fit (xs ++ a ∷ []) ≡ true
fit_push [] a fit new le = rw (le-leb a 30 le) refl
fit_push (x ∷ xs) a fit new le =
    let front = and_left (nat_le x 30 && not (list_any (λ b. b == x) xs)) (is_fit xs) fit in
    let low : nat_le x 30 ≡ true = and_left (nat_le x 30) (not (list_any (λ b. b == x) xs)) front in
    let alone : list_any (λ b. b == x) xs ≡ false = not_true _ (and_right (nat_le x 30) (not (list_any (λ b. b == x) xs)) front) in
    let more : is_fit (xs ++ a ∷ []) ≡ true = fit_push xs a (and_right (nat_le x 30 && not (list_any (λ b. b == x) xs)) (is_fit xs) fit) (or_right (x == a) (has a xs) new) le in
    let differs : (a == x) ≡ false = other_way x a (or_left (x == a) (has a xs) new) in
    rw (low, list_any-append (λ b. b == x) xs (a ∷ []), alone, differs, more) refl

has_more : (b a : ℕ) (xs : List ℕ) → has b xs ≡ true → has b (xs ++ a ∷ []) ≡ true
has_more b a xs h = rw (list_any-append (λ c. c == b) xs (a ∷ []), h) refl

for_more : (a : ℕ) (xs : List ℕ) (x : HostAction) → is_for xs x ≡ true → is_for (xs ++ a ∷ []) x ≡ true
for_more a xs (Terminal address does) h = has_more address a xs h
for_more a xs (Controller asked) h = refl

acts_more : (a : ℕ) (xs : List ℕ) (ps : List Placed) → list_all (may_act xs) ps ≡ true → list_all (may_act (xs ++ a ∷ [])) ps ≡ true
acts_more a xs [] h = refl
acts_more a xs (p ∷ ps) h =
    let here = and_left (may_act xs p) (list_all (may_act xs) ps) h in
    let range = and_left (nat_le 1 p.number && nat_le p.number 1000000) (is_for xs p.action) here in
    rw (range, for_more a xs p.action (and_right (nat_le 1 p.number && nat_le p.number 1000000) (is_for xs p.action) here), acts_more a xs ps (and_right (may_act xs p) (list_all (may_act xs) ps) h)) refl

act_push : (xs : List ℕ) (ps : List Placed) (number address : ℕ) (r : Result Action BadAction) → list_all (may_act xs) ps ≡ true
    → 1 ≤ number → number ≤ 1000000 → (has address xs && is_ok r) ≡ true → list_all (may_act xs) (ps ++ option_to_list (placing number address r)) ≡ true
act_push xs ps number address (Ok a) all low high h =
    rw (list_all-append (may_act xs) ps, all, le-leb 1 number low, le-leb number 1000000 high, and_left (has address xs) true h) refl
act_push xs ps number address (Err bad) all low high h = let no = and_right (has address xs) false h in cc

-- what the controller's host asks for needs no terminal
control_push : (xs : List ℕ) (ps : List Placed) (number : ℕ) (r : Result Control BadAction) → list_all (may_act xs) ps ≡ true
    → 1 ≤ number → number ≤ 1000000 → is_ok r ≡ true → list_all (may_act xs) (ps ++ option_to_list (asking number r)) ≡ true
control_push xs ps number (Ok asked) all low high h = rw (list_all-append (may_act xs) ps, all, le-leb 1 number low, le-leb number 1000000 high) refl
control_push xs ps number (Err bad) all low high h = cc

first_channel : (h : Head) (ns : List ℕ) (n : ℕ) → h.channels ≡ ns → IsFit h → 1 ≤ n → n ≤ 65535 → is_none_yet ns ≡ true → IsFit (record h { channels = ns ++ n ∷ [] })
first_channel h [] n is fit low high none = record { channels = ((low, high), tt); starts = fit.starts; addresses = fit.addresses; actions = fit.actions; timed = fit.timed }
first_channel h (m ∷ ms) n is fit low high none = cc

first_start : (h : Head) (ns : List ℕ) (n : ℕ) → h.starts ≡ ns → IsFit h → n ≤ 140737488355328 → is_none_yet ns ≡ true → IsFit (record h { starts = ns ++ n ∷ [] })
first_start h [] n is fit high none = record { channels = fit.channels; starts = (high, tt); addresses = fit.addresses; actions = fit.actions; timed = fit.timed }
first_start h (m ∷ ms) n is fit high none = cc

-- the actions of a series
series_acts : (xs : List ℕ) (s : Series) → IsSpan s.span → has s.address xs ≡ true → list_all (may_act xs) (placed_by s) ≡ true
series_acts xs s i here =
    list_all-map (may_act xs) (placed_at s) (range_with_len 0 (span_count s.span))
    ∙ all_counted (λ k. may_act xs (placed_at s k)) 0 (span_count s.span) (λ k lt. one k lt)
  where
    one : (k : ℕ) → k < 0 + span_count s.span → may_act xs (placed_at s k) ≡ true
    one k lt =
        let low : 1 ≤ span_number s.span k = omega (arith, i.low) in
        rw (le-leb 1 (span_number s.span k) low, le-leb (span_number s.span k) 1000000 (number_high s.span k i (omega (arith, lt))), here) refl

-- what is said by time and by command

whens_more : (a : ℕ) (xs : List ℕ) (ws : List TimedAction) → list_all (λ (w : TimedAction). is_for xs w.action) ws ≡ true
    → list_all (λ (w : TimedAction). is_for (xs ++ a ∷ []) w.action) ws ≡ true
whens_more a xs [] h = refl
whens_more a xs (w ∷ ws) h =
    let rest = list_all (λ (v : TimedAction). is_for xs v.action) ws in
    rw (for_more a xs w.action (and_left (is_for xs w.action) rest h), whens_more a xs ws (and_right (is_for xs w.action) rest h)) refl

when_push : (xs : List ℕ) (ws : List TimedAction) (moment : Moment) (address : ℕ) (r : Result Action BadAction) → list_all (λ (w : TimedAction). is_for xs w.action) ws ≡ true
    → (has address xs && is_ok r) ≡ true → list_all (λ (w : TimedAction). is_for xs w.action) (ws ++ option_to_list (placing_then moment address r)) ≡ true
when_push xs ws moment address (Ok a) all h =
    rw (list_all-append (λ (w : TimedAction). is_for xs w.action) ws, all, and_left (has address xs) true h) refl
when_push xs ws moment address (Err bad) all h = let no = and_right (has address xs) false h in cc

when_control_push : (xs : List ℕ) (ws : List TimedAction) (moment : Moment) (r : Result Control BadAction) → list_all (λ (w : TimedAction). is_for xs w.action) ws ≡ true
    → is_ok r ≡ true → list_all (λ (w : TimedAction). is_for xs w.action) (ws ++ option_to_list (asking_then moment r)) ≡ true
when_control_push xs ws moment (Ok asked) all h = rw (list_all-append (λ (w : TimedAction). is_for xs w.action) ws, all) refl
when_control_push xs ws moment (Err bad) all h = cc

may_plan_range : (number : ℕ) (f : Fault) (plan : List Planned) → may_plan number f plan ≡ true → is_in_range f ≡ true
may_plan_range number f plan h =
    and_right (is_number number) (is_in_range f) (and_right (nat_lt (length (faults_of number plan)) 4) (is_number number && is_in_range f) h)

-- a fault of many messages may be planned for the first of them
planned_in_range : (h : Head) (s : Span) (f : Fault) → IsSpan s → may_stand (faults s f) h ≡ true → is_in_range f ≡ true
planned_in_range h s f i stands = may_plan_range (span_number s 0) f h.plan (go (span_count s) (omega arith) stands)
  where
    go : (n : ℕ) → 1 ≤ n → list_all (λ number. may_plan number f h.plan) (map (span_number s) (range_with_len 0 n)) ≡ true → may_plan (span_number s 0) f h.plan ≡ true
    go zero some all = absurd (omega (arith, some))
    go (suc n) some all =
        and_left (may_plan (span_number s 0) f h.plan) (list_all (λ number. may_plan number f h.plan) (map (span_number s) (range_with_len (0 + 1) n))) all

with_fault_fit : (h : Head) (f : Fault) (occasion : Occasion) → is_in_range f ≡ true → IsFit h
    → IsFitTimed h.addresses (with_fault occasion f h.timed)
with_fault_fit h f occasion range fit = record {
  whens = fit.timed.whens;
  faults = list_all-append (λ (p : PlannedFault). is_in_range p.fault) h.timed.faults (record { occasion = occasion; fault = f } ∷ []) ∙ both fit.timed.faults (both range refl);
}

-- one more line
pub fit_with : (s : Said) (h : Head) → IsInRange s → may_stand s h ≡ true → IsFit h → IsFit (with_line s h)
fit_with blank h range stands fit = fit
fit_with script h range stands fit = fit
fit_with (channel n) h range stands fit = first_channel h h.channels n refl fit range.0 range.1 stands
fit_with (start n) h range stands fit = first_start h h.starts n refl fit range stands
fit_with (terminal n) h range stands fit = record {
  channels = fit.channels;
  starts = fit.starts;
  addresses = fit_push h.addresses n fit.addresses (not_true (has n h.addresses) stands) range;
  actions = acts_more n h.addresses h.actions fit.actions;
  timed = record { whens = whens_more n h.addresses h.timed.whens fit.timed.whens; faults = fit.timed.faults };
}
fit_with (action number address text) h range stands fit = record {
  channels = fit.channels;
  starts = fit.starts;
  addresses = fit.addresses;
  actions = act_push h.addresses h.actions number address (in_words text) fit.actions range.0 range.1 stands;
  timed = fit.timed;
}
fit_with (control number text) h range stands fit = record {
  channels = fit.channels;
  starts = fit.starts;
  addresses = fit.addresses;
  actions = control_push h.addresses h.actions number (control_in text) fit.actions range.0 range.1 stands;
  timed = fit.timed;
}
fit_with (series s) h range stands fit = record {
  channels = fit.channels;
  starts = fit.starts;
  addresses = fit.addresses;
  actions = list_all-append (may_act h.addresses) h.actions (placed_by s) ∙ both fit.actions (series_acts h.addresses s range.0 (and_right (has_room (span_count s.span) h) (has s.address h.addresses) stands));
  timed = fit.timed;
}
fit_with (faults span f) h range stands fit = record {
  channels = fit.channels;
  starts = fit.starts;
  addresses = fit.addresses;
  actions = fit.actions;
  timed = with_fault_fit h f (Numbers (turns_of span)) (planned_in_range h span f range stands) fit;
}
fit_with (fault number f) h range stands fit = record {
  channels = fit.channels;
  starts = fit.starts;
  addresses = fit.addresses;
  actions = fit.actions;
  timed = with_fault_fit h f (Numbers (turn_at number)) (may_plan_range number f h.plan stands) fit;
}
fit_with (timed_action moment address text) h range stands fit = record {
  channels = fit.channels;
  starts = fit.starts;
  addresses = fit.addresses;
  actions = fit.actions;
  timed = record { whens = when_push h.addresses h.timed.whens moment address (in_words text) fit.timed.whens stands; faults = fit.timed.faults };
}
fit_with (timed_control moment text) h range stands fit = record {
  channels = fit.channels;
  starts = fit.starts;
  addresses = fit.addresses;
  actions = fit.actions;
  timed = record { whens = when_control_push h.addresses h.timed.whens moment (control_in text) fit.timed.whens stands; faults = fit.timed.faults };
}
fit_with (timed_fault occasion f) h range stands fit = record {
  channels = fit.channels;
  starts = fit.starts;
  addresses = fit.addresses;
  actions = fit.actions;
  timed = let t = with_fault_fit h f occasion stands fit in record { whens = t.whens; faults = t.faults };
}
