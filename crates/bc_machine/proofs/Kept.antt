-- What an agenda keeps.
use Rattle.std.proofs.Common.{◌≡◌, ℕ, ◌+◌, ◌-◌, ◌<◌, ◌≤◌, Bool, true, cond, eqb, Option, Some, None, List, [], ◌∷◌, ◌++◌, length, map, refl, sym, ap, ap₂, ◌∙◌, subst, arith}
use Rattle.std.specs.Prelude.{max, min, Result, Ok, Err, OnOk, OnErr}
use Rattle.std.proofs.lemmas.List.Sums.{length-filter, count_by-le-length}
use Rattle.std.proofs.lemmas.Option.{slice_get_within}
use Rattle.std.specs.Option.{option_map, option_or}
use Rattle.std.proofs.lemmas.Bool.{eq-eqb, and_from}
use Rattle.std.proofs.lemmas.List.{append-nil, append_assoc, length-append}
use Rattle.std.proofs.lemmas.List.Elements.{All-head, All-tail}
use Rattle.mil_message.specs.declared.forms.Form.{Form}
use Rattle.controller_host.specs.declared.destinations.Destination.{Destination}
use Rattle.controller_host.specs.declared.destinations.Destination.TheVariants as to
use Rattle.controller_host.specs.declared.controls.Control.TheVariants as control
use Rattle.controller_host.specs.declared.sources.Source.{Source}
use Rattle.controller_host.specs.declared.sources.Row.{Row as SourceRow}
use Rattle.controller_host.specs.Destinations.{IsPlace, is_same}
use Rattle.controller_host.specs.Sources.{AreRows, advanced_by, source_in}
use Rattle.bc_machine.specs.declared.placed.Placed.{Placed}
use Rattle.bc_machine.specs.declared.placed.HostAction.{HostAction}
use Rattle.bc_machine.specs.declared.placed.HostAction.TheVariants.{Terminal, Controller}
use Rattle.bc_machine.specs.declared.agenda.Agenda.TheInside.{Inside}
use Rattle.bc_machine.specs.declared.agenda.SavedAgenda.{SavedAgenda}
use Rattle.bc_machine.specs.declared.agenda.Cursor.{Cursor}
use Rattle.bc_machine.specs.MadeMessages.{MadeMessage, own, inserted}
use Rattle.bc_machine.specs.Hosting.{placed_at, placed_up_to, inserted_in, last_set, set_by_action, source_since}
use Rattle.bc_machine.specs.Agendas.{AgendaState, agenda_in, with_message, with_capacity, IsAgenda, IsCursor, IsHead, IsSavedAgenda, StandsForSources}
use Rattle.bc_machine.specs.Asking.{controls_at, with_controls}
use Rattle.bc_machine.specs.Schedules.{ScheduleState, HaveRoom, sets_sources}
use Rattle.bc_machine.proofs.Queued.{cursor_begins, cursor_inserted, cursor_own, cursor_added, more_made, more_inserted, more_own}
use Rattle.bc_machine.proofs.Carried.{next_rows, stand_inserted, stand_own, stand_added, stand_begins, up_to_all}

abbrev pub all_of : Inside → List Placed
all_of a = a.placed.actions ++ a.posted.actions

pub agenda_begins : (b : Inside) → b.placed.sources.rows ≡ [] → HaveRoom b.placed.sources.ready b.placed.actions → b.posted.actions ≡ [] → b.posted.capacity ≡ 0 → b.made ≡ [] → b.number ≡ 0 → b.inserted ≡ 0
    → b.cursor ≡ record { number = 1; passed = 0 } → IsAgenda b
agenda_begins b rows sets none room made number inserts cursor =
    let all : all_of b ≡ b.placed.actions = ap (λ (ps : List Placed). b.placed.actions ++ ps) none ∙ append-nil b.placed.actions in
    let no_made : length b.made ≡ 0 = ap length made in
    record {
      number = omega (arith, number, no_made);
      inserted = inserts ∙ sym (ap inserted_in made);
      cursor = subst (λ (c : Cursor). IsCursor c (all_of b) b.made) (sym cursor) (subst (IsCursor (record { number = 1; passed = 0 }) (all_of b)) (sym made) (cursor_begins (all_of b)));
      sources = subst (λ (rs : List SourceRow). StandsForSources rs (all_of b) b.made) (sym rows) (subst (StandsForSources [] (all_of b)) (sym made) (stand_begins (all_of b)));
      ready = λ less. absurd (omega (arith, less, room));
      sets = subst (HaveRoom b.placed.sources.ready) (sym all) sets;
    }

-- the same list of actions
module _ (a b : Inside) (is : IsAgenda a) (placed : b.placed.actions ≡ a.placed.actions) (posted : b.posted ≡ a.posted) (ready : b.placed.sources.ready ≡ a.placed.sources.ready) where
  all_same : all_of b ≡ all_of a
  all_same = ap₂ (λ (ps qs : List Placed). ps ++ qs) placed (ap (λ (s : ScheduleState). s.actions) posted)

  still_ready : length b.posted.actions < b.posted.capacity → b.placed.sources.ready ≡ true
  still_ready less = ready ∙ is.ready (subst (λ (s : ScheduleState). length s.actions < s.capacity) posted less)

  still_sets : HaveRoom b.placed.sources.ready (all_of b)
  still_sets = subst (λ (r : Bool). HaveRoom r (all_of b)) (sym ready) (subst (HaveRoom a.placed.sources.ready) (sym all_same) is.sets)

  -- an inserted message was made
  pub agenda_inserted : (head : Cursor) → IsHead head (all_of a) a.made
      → ((d : Destination) (place : ℕ) → IsPlace d place → source_in b.placed.sources.rows d place ≡ with_controls (controls_at (length a.made + 1) (all_of a)) (source_in a.placed.sources.rows d place) d place)
      → b.made ≡ a.made ++ inserted ∷ [] → b.number ≡ a.number + 1 → b.inserted ≡ a.inserted + 1 → b.cursor ≡ record { number = head.number; passed = head.passed + 1 } → IsAgenda b
  agenda_inserted head there set made number inserts cursor =
      let more = ap length made in
      let long = more_made a.made inserted in
      let count = ap inserted_in made in
      let plus = more_inserted a.made in
      record {
        number = omega (arith, number, more, long, is.number);
        inserted = omega (arith, inserts, count, plus, is.inserted);
        cursor = subst (λ (c : Cursor). IsCursor c (all_of b) b.made) (sym cursor) (subst (λ (ps : List Placed). IsCursor (record { number = head.number; passed = head.passed + 1 }) ps b.made) (sym all_same)
            (subst (IsCursor (record { number = head.number; passed = head.passed + 1 }) (all_of a)) (sym made) (cursor_inserted head (all_of a) a.made there)));
        sources = subst (λ (ps : List Placed). StandsForSources b.placed.sources.rows ps b.made) (sym all_same) (subst (StandsForSources b.placed.sources.rows (all_of a)) (sym made)
            (stand_inserted (all_of a) a.made b.placed.sources.rows (next_rows (all_of a) a.made a.placed.sources.rows b.placed.sources.rows is.sources set)));
        ready = still_ready;
        sets = still_sets;
      }

  -- a message of the script was made, and the rows stand for the sources behind it
  pub agenda_sent : (form : Form) → StandsForSources b.placed.sources.rows (all_of a) (a.made ++ own form ∷ [])
      → b.made ≡ a.made ++ own form ∷ [] → b.number ≡ a.number + 1 → b.inserted ≡ a.inserted → b.cursor ≡ a.cursor → IsAgenda b
  agenda_sent form stand made number inserts cursor =
      let more = ap length made in
      let long = more_made a.made (own form) in
      let count = ap inserted_in made ∙ more_own a.made form in
      record {
        number = omega (arith, number, more, long, is.number);
        inserted = inserts ∙ is.inserted ∙ sym count;
        cursor = subst (λ (c : Cursor). IsCursor c (all_of b) b.made) (sym cursor) (subst (λ (ps : List Placed). IsCursor a.cursor ps b.made) (sym all_same)
            (subst (IsCursor a.cursor (all_of a)) (sym made) (cursor_own a.cursor (all_of a) a.made form is.cursor)));
        sources = subst (λ (ps : List Placed). StandsForSources b.placed.sources.rows ps b.made) (sym all_same) (subst (StandsForSources b.placed.sources.rows (all_of a)) (sym made) stand);
        ready = still_ready;
        sets = still_sets;
      }

  -- the same, from these rows, which go on behind it
  pub agenda_own : (form : Form) (rows : List SourceRow)
      → ((d : Destination) (place : ℕ) → IsPlace d place → source_in rows d place ≡ with_controls (controls_at (length a.made + 1) (all_of a)) (source_in a.placed.sources.rows d place) d place)
      → b.placed.sources.rows ≡ map (advanced_by form) rows
      → b.made ≡ a.made ++ own form ∷ [] → b.number ≡ a.number + 1 → b.inserted ≡ a.inserted → b.cursor ≡ a.cursor → IsAgenda b
  agenda_own form rows set carried =
      agenda_sent form
      (subst (λ (rs : List SourceRow). StandsForSources rs (all_of a) (a.made ++ own form ∷ [])) (sym carried)
      (stand_own (all_of a) a.made form rows (next_rows (all_of a) a.made a.placed.sources.rows rows is.sources set)))

-- the cursor was moved
pub agenda_moved : (a b : Inside) → IsAgenda a → b.placed ≡ a.placed → b.posted ≡ a.posted → b.made ≡ a.made → b.number ≡ a.number → b.inserted ≡ a.inserted → IsCursor b.cursor (all_of a) a.made → IsAgenda b
agenda_moved a b is placed posted made number inserts cursor =
    let all : all_of b ≡ all_of a = ap₂ (λ (s t : ScheduleState). s.actions ++ t.actions) placed posted in
    record {
      number = number ∙ is.number ∙ sym (ap length made);
      inserted = inserts ∙ is.inserted ∙ sym (ap inserted_in made);
      cursor = subst (λ (ps : List Placed). IsCursor b.cursor ps b.made) (sym all) (subst (IsCursor b.cursor (all_of a)) (sym made) cursor);
      sources = subst (λ (ps : List Placed). StandsForSources b.placed.sources.rows ps b.made) (sym all) (subst (StandsForSources b.placed.sources.rows (all_of a)) (sym made)
          (subst (λ (s : ScheduleState). StandsForSources s.sources.rows (all_of a) a.made) (sym placed) is.sources));
      ready = subst (λ (s : ScheduleState). length b.posted.actions < b.posted.capacity → s.sources.ready ≡ true) (sym placed)
          (subst (λ (s : ScheduleState). length s.actions < s.capacity → a.placed.sources.ready ≡ true) (sym posted) is.ready);
      sets = subst (λ (s : ScheduleState). HaveRoom s.sources.ready (all_of b)) (sym placed) (subst (HaveRoom a.placed.sources.ready) (sym all) is.sets);
    }

all_ready : (ready : Bool) (ps : List Placed) → ready ≡ true → HaveRoom ready ps
all_ready ready ps is k d less sets = is

-- an action was added to those that were placed later
pub agenda_added : (a b : Inside) (one : Placed) → IsAgenda a → one.number ≡ length a.made + 1 → b.placed ≡ a.placed → b.posted.actions ≡ a.posted.actions ++ one ∷ [] → b.posted.capacity ≡ a.posted.capacity
    → length a.posted.actions < a.posted.capacity → b.made ≡ a.made → b.number ≡ a.number → b.inserted ≡ a.inserted → b.cursor ≡ a.cursor → IsAgenda b
agenda_added a b one is at placed posted capacity room made number inserts cursor =
    let all : all_of b ≡ all_of a ++ one ∷ [] = ap₂ (λ (s : ScheduleState) (qs : List Placed). s.actions ++ qs) placed posted ∙ sym (append_assoc a.placed.actions a.posted.actions (one ∷ [])) in
    let ready : b.placed.sources.ready ≡ true = ap (λ (s : ScheduleState). s.sources.ready) placed ∙ is.ready room in
    record {
      number = number ∙ is.number ∙ sym (ap length made);
      inserted = inserts ∙ is.inserted ∙ sym (ap inserted_in made);
      cursor = subst (λ (c : Cursor). IsCursor c (all_of b) b.made) (sym cursor) (subst (λ (ps : List Placed). IsCursor a.cursor ps b.made) (sym all)
          (subst (IsCursor a.cursor (all_of a ++ one ∷ [])) (sym made) (cursor_added a.cursor (all_of a) a.made one at is.cursor)));
      sources = subst (λ (ps : List Placed). StandsForSources b.placed.sources.rows ps b.made) (sym all) (subst (StandsForSources b.placed.sources.rows (all_of a ++ one ∷ [])) (sym made)
          (subst (λ (s : ScheduleState). StandsForSources s.sources.rows (all_of a ++ one ∷ []) a.made) (sym placed) (stand_added a.placed.sources.rows (all_of a) a.made one at is.sources)));
      ready = λ less. ready;
      sets = all_ready b.placed.sources.ready (all_of b) ready;
    }

-- room was made or given up: the actions stay; where there may be more, there is room for sources
pub agenda_room : (a b : Inside) → IsAgenda a → b.placed.actions ≡ a.placed.actions → b.placed.sources.rows ≡ a.placed.sources.rows → (b.placed.sources.ready ≡ a.placed.sources.ready) → b.posted.actions ≡ a.posted.actions
    → (length b.posted.actions < b.posted.capacity → b.placed.sources.ready ≡ true) → b.made ≡ a.made → b.number ≡ a.number → b.inserted ≡ a.inserted → b.cursor ≡ a.cursor → IsAgenda b
agenda_room a b is placed rows same posted ready made number inserts cursor =
    let all : all_of b ≡ all_of a = ap₂ (λ (ps qs : List Placed). ps ++ qs) placed posted in
    record {
      number = number ∙ is.number ∙ sym (ap length made);
      inserted = inserts ∙ is.inserted ∙ sym (ap inserted_in made);
      cursor = subst (λ (c : Cursor). IsCursor c (all_of b) b.made) (sym cursor) (subst (λ (ps : List Placed). IsCursor a.cursor ps b.made) (sym all) (subst (IsCursor a.cursor (all_of a)) (sym made) is.cursor));
      sources = subst (λ (ps : List Placed). StandsForSources b.placed.sources.rows ps b.made) (sym all) (subst (StandsForSources b.placed.sources.rows (all_of a)) (sym made)
          (subst (λ (rs : List SourceRow). StandsForSources rs (all_of a) a.made) (sym rows) is.sources));
      ready = ready;
      sets = subst (λ (r : Bool). HaveRoom r (all_of b)) (sym same) (subst (HaveRoom a.placed.sources.ready) (sym all) is.sets);
    }

-- the same, where room for all sources was made
pub agenda_grown : (a b : Inside) → IsAgenda a → b.placed.actions ≡ a.placed.actions → b.placed.sources.rows ≡ a.placed.sources.rows → b.placed.sources.ready ≡ true → b.posted.actions ≡ a.posted.actions
    → b.made ≡ a.made → b.number ≡ a.number → b.inserted ≡ a.inserted → b.cursor ≡ a.cursor → IsAgenda b
agenda_grown a b is placed rows ready posted made number inserts cursor =
    let all : all_of b ≡ all_of a = ap₂ (λ (ps qs : List Placed). ps ++ qs) placed posted in
    record {
      number = number ∙ is.number ∙ sym (ap length made);
      inserted = inserts ∙ is.inserted ∙ sym (ap inserted_in made);
      cursor = subst (λ (c : Cursor). IsCursor c (all_of b) b.made) (sym cursor) (subst (λ (ps : List Placed). IsCursor a.cursor ps b.made) (sym all) (subst (IsCursor a.cursor (all_of a)) (sym made) is.cursor));
      sources = subst (λ (ps : List Placed). StandsForSources b.placed.sources.rows ps b.made) (sym all) (subst (StandsForSources b.placed.sources.rows (all_of a)) (sym made)
          (subst (λ (rs : List SourceRow). StandsForSources rs (all_of a) a.made) (sym rows) is.sources));
      ready = λ less. ready;
      sets = all_ready b.placed.sources.ready (all_of b) ready;
    }

-- ---- what was saved

same_itself : (d : Destination) → is_same d d ≡ true
same_itself (to.Terminal address subaddress) = and_from (eqb address address) (eqb subaddress subaddress) (eq-eqb address address refl) (eq-eqb subaddress subaddress refl)
same_itself (to.All subaddress) = eq-eqb subaddress subaddress refl
same_itself (to.Mode address code) = and_from (eqb address address) (eqb code code) (eq-eqb address address refl) (eq-eqb code code refl)
same_itself (to.ModeToAll code) = eq-eqb code code refl

-- where a source is set, an action sets it
sets_one : (a : HostAction) (d : Destination) (place : ℕ) (s : Source) → set_by_action a d place ≡ Some s → sets_sources a ≡ true
sets_one (Terminal address action) d place s e = absurd cc
sets_one (Controller (control.Data new)) d place s e = refl
sets_one (Controller (control.Ramp ramp)) d place s e = refl
sets_one (Controller (control.Insert x)) d place s e = absurd cc

set_sets : (d : Destination) (place : ℕ) (ready : Bool) (ps : List Placed) (t : ℕ × Source) → last_set d place ps ≡ Some t → HaveRoom ready ps → ready ≡ true
set_sets d place ready [] t e sets = absurd cc
set_sets d place ready (p ∷ ps) t e sets =
    by_rest (last_set d place ps) refl (set_by_action p.action d place) refl e
    (λ u h. set_sets d place ready ps u h (All-tail (λ (q : Placed). sets_sources q.action ≡ true → ready ≡ true) p ps sets))
  where
    by_rest : (o : Option (ℕ × Source)) → last_set d place ps ≡ o → (v : Option Source) → set_by_action p.action d place ≡ v → option_or o (option_map (λ source. (p.number, source)) v) ≡ Some t
        → ((u : ℕ × Source) → last_set d place ps ≡ Some u → ready ≡ true) → ready ≡ true
    by_rest (Some u) h v g is more = more u h
    by_rest None h (Some s) g is more = All-head (λ (q : Placed). sets_sources q.action ≡ true → ready ≡ true) p ps sets (sets_one p.action d place s g)
    by_rest None h None g is more = absurd cc

found_first : (r : SourceRow) (rs : List SourceRow) → source_in (r ∷ rs) r.destination r.place ≡ Some r.source
found_first r rs =
    ap (λ b. cond b (Some r.source) (source_in rs r.destination r.place)) (and_from (is_same r.destination r.destination) (eqb r.place r.place) (same_itself r.destination) (eq-eqb r.place r.place refl))

-- a source that stands was set by an action
source_ready : (ready : Bool) (n : ℕ) (ps : List Placed) (made : List MadeMessage) (d : Destination) (place : ℕ) (s : Source) (o : Option (ℕ × Source)) → last_set d place (placed_up_to n ps) ≡ o
    → Some s ≡ option_map (source_since d place made) o → HaveRoom ready ps → ready ≡ true
source_ready ready n ps made d place s None e h sets = absurd cc
source_ready ready n ps made d place s (Some t) e h sets = set_sets d place ready (placed_up_to n ps) t e (up_to_all (λ (q : Placed). sets_sources q.action ≡ true → ready ≡ true) n ps sets)

rows_ready : (ready : Bool) (ps : List Placed) (made : List MadeMessage) (rows : List SourceRow) → AreRows rows → StandsForSources rows ps made → HaveRoom ready ps → 0 < length rows → ready ≡ true
rows_ready ready ps made [] good stand sets some = absurd (omega (arith, some))
rows_ready ready ps made (row ∷ rest) good stand sets some =
    source_ready ready (length made) ps made row.destination row.place row.source (last_set row.destination row.place (placed_up_to (length made) ps)) refl
    (sym (found_first row rest) ∙ stand row.destination row.place good.1) sets

-- saved sources were set by actions, so there is room for them
pub saved_ready : (ready : Bool) (ps : List Placed) (s : SavedAgenda) → IsSavedAgenda ps s → HaveRoom ready ps → 0 < length s.sources.items → ready ≡ true
saved_ready ready ps s is sets some = rows_ready ready ps s.made s.sources.items is.rows is.sources sets some

pub agenda_restored : (a b : Inside) (s : SavedAgenda) → IsAgenda a → IsSavedAgenda (all_of a) s → b.placed.actions ≡ a.placed.actions → b.placed.sources.rows ≡ s.sources.items → b.placed.sources.ready ≡ a.placed.sources.ready
    → b.posted ≡ a.posted → b.made ≡ s.made → b.number ≡ s.number → b.inserted ≡ s.inserted → b.cursor ≡ s.cursor → IsAgenda b
agenda_restored a b s is saved placed rows ready posted made number inserts cursor =
    let all : all_of b ≡ all_of a = ap₂ (λ (ps qs : List Placed). ps ++ qs) placed (ap (λ (t : ScheduleState). t.actions) posted) in
    record {
      number = number ∙ saved.number ∙ sym (ap length made);
      inserted = inserts ∙ saved.inserted ∙ sym (ap inserted_in made);
      cursor = subst (λ (c : Cursor). IsCursor c (all_of b) b.made) (sym cursor) (subst (λ (ps : List Placed). IsCursor s.cursor ps b.made) (sym all) (subst (IsCursor s.cursor (all_of a)) (sym made) saved.cursor));
      sources = subst (λ (ps : List Placed). StandsForSources b.placed.sources.rows ps b.made) (sym all) (subst (StandsForSources b.placed.sources.rows (all_of a)) (sym made)
          (subst (λ (rs : List SourceRow). StandsForSources rs (all_of a) s.made) (sym rows) saved.sources));
      ready = still_ready a b is placed posted ready;
      sets = still_sets a b is placed posted ready;
    }

-- what an agenda keeps is what is saved of it
pub agenda_saved : (a : Inside) (s : SavedAgenda) → IsAgenda a → AreRows a.placed.sources.rows → s.sources.items ≡ a.placed.sources.rows → s.made ≡ a.made → s.number ≡ a.number → s.inserted ≡ a.inserted → s.cursor ≡ a.cursor → IsSavedAgenda (all_of a) s
agenda_saved a s is good rows made number inserts cursor = record {
  number = number ∙ is.number ∙ sym (ap length made);
  inserted = inserts ∙ is.inserted ∙ sym (ap inserted_in made);
  cursor = subst (λ (c : Cursor). IsCursor c (all_of a) s.made) (sym cursor) (subst (IsCursor a.cursor (all_of a)) (sym made) is.cursor);
  rows = subst AreRows (sym rows) good;
  sources = subst (λ (rs : List SourceRow). StandsForSources rs (all_of a) s.made) (sym rows) (subst (StandsForSources a.placed.sources.rows (all_of a)) (sym made) is.sources);
}

-- ---- what contracts see

pub begun_is : (b : Inside) (placed : List Placed) → b.placed.actions ≡ placed → b.posted.actions ≡ [] → b.posted.capacity ≡ 0 → b.made ≡ [] → agenda_in b ≡ record { placed = placed; capacity = length placed; made = [] }
begun_is b placed first second room made =
    let all : all_of b ≡ placed = ap₂ (λ (ps qs : List Placed). ps ++ qs) first second ∙ append-nil placed in
    let count : length b.placed.actions + b.posted.capacity ≡ length placed = ap₂ (λ (ps : List Placed) (k : ℕ). length ps + k) first room ∙ (omega arith) in
    ap₂ (λ (ps : List Placed) (k : ℕ). record { placed = ps; capacity = k; made = b.made }) all count ∙ ap (λ (ms : List MadeMessage). record { placed = placed; capacity = length placed; made = ms }) made

pub message_made : (a b : Inside) (m : MadeMessage) → b.placed.actions ≡ a.placed.actions → b.posted ≡ a.posted → b.made ≡ a.made ++ m ∷ [] → agenda_in b ≡ with_message (agenda_in a) m
message_made a b m placed posted made =
    ap₂ (λ (ps : List Placed) (s : ScheduleState). record { placed = ps ++ s.actions; capacity = length ps + s.capacity; made = b.made }) placed posted
    ∙ ap (λ (ms : List MadeMessage). record { placed = all_of a; capacity = length a.placed.actions + a.posted.capacity; made = ms }) made

pub room_left_is : (a : Inside) (room : ℕ) → length a.posted.actions ≤ a.posted.capacity → room ≡ a.posted.capacity - length a.posted.actions → length (all_of a) + room ≡ (agenda_in a).capacity
room_left_is a room within is = omega (arith, length-append a.placed.actions a.posted.actions, within, is)

pub head_within : (s : AgendaState) (head : Cursor) → IsHead head s.placed s.made → head.passed + 1 ≤ length s.placed
head_within s head is =
    let here = slice_get_within (placed_at head.number s.placed) head.passed is.one is.there in
    let few = length-filter (λ (p : Placed). eqb p.number head.number) s.placed in
    let most = count_by-le-length (λ (p : Placed). eqb p.number head.number) s.placed in
    omega (arith, here, few, most)

pub added_or_same : {U F : Type 0} (r : Result U F) (a b : Inside) (one : Placed) → IsAgenda a → one.number ≡ length a.made + 1 → b.placed ≡ a.placed → OnOk r (b.posted.actions ≡ a.posted.actions ++ one ∷ [])
    → OnOk r (length a.posted.actions < a.posted.capacity) → OnErr r (b.posted ≡ a.posted) → b.posted.capacity ≡ a.posted.capacity → b.made ≡ a.made → b.number ≡ a.number → b.inserted ≡ a.inserted → b.cursor ≡ a.cursor → IsAgenda b
added_or_same (Ok u) a b one is at placed added there same capacity made number inserts cursor = agenda_added a b one is at placed added capacity there made number inserts cursor
added_or_same (Err f) a b one is at placed added there same capacity made number inserts cursor =
    agenda_moved a b is placed same made number inserts (subst (λ (c : Cursor). IsCursor c (all_of a) a.made) (sym cursor) is.cursor)

-- ---- room

pub room_made : {U F : Type 0} (r : Result U F) (a b : Inside) (count : ℕ) → b.placed.actions ≡ a.placed.actions → b.posted.actions ≡ a.posted.actions → b.made ≡ a.made
    → OnOk r (b.posted.capacity ≡ max a.posted.capacity (length a.posted.actions + count)) → OnOk r (agenda_in b ≡ with_capacity (agenda_in a) (max (agenda_in a).capacity (length (all_of a) + count)))
room_made (Err f) a b count placed posted made room = tt
room_made (Ok u) a b count placed posted made room =
    let all : all_of b ≡ all_of a = ap₂ (λ (ps qs : List Placed). ps ++ qs) placed posted in
    let long = length-append a.placed.actions a.posted.actions in
    let first : length b.placed.actions ≡ length a.placed.actions = ap length placed in
    let capacity : length b.placed.actions + b.posted.capacity ≡ max (length a.placed.actions + a.posted.capacity) (length (all_of a) + count) = omega (arith, first, room, long) in
    ap₂ (λ (ps : List Placed) (k : ℕ). record { placed = ps; capacity = k; made = b.made }) all capacity
    ∙ ap (λ (ms : List MadeMessage). record { placed = all_of a; capacity = max (length a.placed.actions + a.posted.capacity) (length (all_of a) + count); made = ms }) made

-- no more was asked for
pub no_more : (s : AgendaState) (more : ℕ) → more ≡ 0 → length s.placed ≤ s.capacity → s ≡ with_capacity s (max s.capacity (length s.placed + more))
no_more s more none within =
    let same : s.capacity ≡ max s.capacity (length s.placed + more) = omega (arith, none, within) in
    ap (λ (k : ℕ). with_capacity s k) same

-- no less is there
pub no_less : (s : AgendaState) (left more : ℕ) → length s.placed + left ≡ s.capacity → left ≤ more → s ≡ with_capacity s (min s.capacity (length s.placed + more))
no_less s left more room few =
    let same : s.capacity ≡ min s.capacity (length s.placed + more) = omega (arith, room, few) in
    ap (λ (k : ℕ). with_capacity s k) same

-- as much as there are, and so much more at most
pub less_room : (a b : Inside) (more : ℕ) → b.placed.actions ≡ a.placed.actions → b.posted.actions ≡ a.posted.actions → b.made ≡ a.made → b.posted.capacity ≡ min a.posted.capacity (length a.posted.actions + more)
    → agenda_in b ≡ with_capacity (agenda_in a) (min (agenda_in a).capacity (length (all_of a) + more))
less_room a b more placed posted made room =
    let all : all_of b ≡ all_of a = ap₂ (λ (ps qs : List Placed). ps ++ qs) placed posted in
    let long = length-append a.placed.actions a.posted.actions in
    let first : length b.placed.actions ≡ length a.placed.actions = ap length placed in
    let capacity : length b.placed.actions + b.posted.capacity ≡ min (length a.placed.actions + a.posted.capacity) (length (all_of a) + more) = omega (arith, first, room, long) in
    ap₂ (λ (ps : List Placed) (k : ℕ). record { placed = ps; capacity = k; made = b.made }) all capacity
    ∙ ap (λ (ms : List MadeMessage). record { placed = all_of a; capacity = min (length a.placed.actions + a.posted.capacity) (length (all_of a) + more); made = ms }) made

-- what is seen of two that are made of the same
pub seen_same : (a b : Inside) → b.placed.actions ≡ a.placed.actions → b.posted.actions ≡ a.posted.actions → b.posted.capacity ≡ a.posted.capacity → b.made ≡ a.made → agenda_in b ≡ agenda_in a
seen_same a b placed posted room made =
    ap₂ (λ (ps qs : List Placed). record { placed = ps ++ qs; capacity = length ps + b.posted.capacity; made = b.made }) placed posted
    ∙ ap₂ (λ (k : ℕ) (ms : List MadeMessage). record { placed = all_of a; capacity = length a.placed.actions + k; made = ms }) room made

pub room_same : {U F : Type 0} (r : Result U F) (a b : Inside) → b.placed.actions ≡ a.placed.actions → b.posted.actions ≡ a.posted.actions → b.made ≡ a.made → OnErr r (b.posted ≡ a.posted) → OnErr r (agenda_in b ≡ agenda_in a)
room_same (Ok u) a b placed posted made same = tt
room_same (Err f) a b placed posted made same = seen_same a b placed posted (ap (λ (s : ScheduleState). s.capacity) same) made

-- an equal one
pub agenda_same : (a b : Inside) → IsAgenda a → b.placed ≡ a.placed → b.posted ≡ a.posted → b.made ≡ a.made → b.number ≡ a.number → b.inserted ≡ a.inserted → b.cursor ≡ a.cursor → IsAgenda b
agenda_same a b is placed posted made number inserts cursor =
    agenda_moved a b is placed posted made number inserts (subst (λ (c : Cursor). IsCursor c (all_of a) a.made) (sym cursor) is.cursor)

-- room was made for as much as was saved, and no more is kept
pub restored_is : (a b c d : AgendaState) (room : ℕ) (made : List MadeMessage) → b ≡ with_capacity a (max a.capacity (length a.placed + room)) → c ≡ with_capacity b (min b.capacity (length b.placed + room))
    → d ≡ record { placed = c.placed; capacity = c.capacity; made = made } → d ≡ record { placed = a.placed; capacity = length a.placed + room; made = made }
restored_is a b c d room made grown shrunk is =
    let placed : c.placed ≡ a.placed = ap (λ (s : AgendaState). s.placed) shrunk ∙ ap (λ (s : AgendaState). s.placed) grown in
    let long : length b.placed ≡ length a.placed = ap (λ (s : AgendaState). length s.placed) grown in
    let first : b.capacity ≡ max a.capacity (length a.placed + room) = ap (λ (s : AgendaState). s.capacity) grown in
    let second : c.capacity ≡ min b.capacity (length b.placed + room) = ap (λ (s : AgendaState). s.capacity) shrunk in
    let capacity : c.capacity ≡ length a.placed + room = omega (arith, long, first, second) in
    is ∙ ap₂ (λ (ps : List Placed) (k : ℕ). record { placed = ps; capacity = k; made = made }) placed capacity

-- and where nothing comes of it, as much as there was
pub back_again : (a b c : AgendaState) (room before : ℕ) → length a.placed + before ≡ a.capacity → b ≡ with_capacity a (max a.capacity (length a.placed + room)) → c ≡ with_capacity b (min b.capacity (length b.placed + before)) → c ≡ a
back_again a b c room before was grown shrunk =
    let long : length b.placed ≡ length a.placed = ap (λ (s : AgendaState). length s.placed) grown in
    let first : b.capacity ≡ max a.capacity (length a.placed + room) = ap (λ (s : AgendaState). s.capacity) grown in
    let capacity : min b.capacity (length b.placed + before) ≡ a.capacity = omega (arith, long, first, was) in
    shrunk ∙ ap₂ (λ (s : AgendaState) (k : ℕ). with_capacity s k) grown capacity
