-- Placed actions, and for how many there is room.
use Rattle.std.specs.Prelude.{◌≡◌, ℕ, ◌+◌, ◌<◌, ◌≤◌, Bool, true, false, List, [], ◌∷◌, ◌++◌, length, All, vec_len}
use Rattle.std.specs.Prelude.{vec_capacity}
use Rattle.std.specs.List.{AllWithin}
use Rattle.std.specs.List.Sorted.{IsNonDecreasingBy}
use Rattle.controller_host.specs.Sources.{SourcesState, is_source_control}
use Rattle.bc_machine.specs.declared.placed.Placed.{Placed}
use Rattle.bc_machine.specs.declared.placed.HostAction.{HostAction}
use Rattle.bc_machine.specs.declared.placed.HostAction.TheVariants.{Terminal, Controller}
use Rattle.bc_machine.specs.declared.action_rows.Row.{Row}
use Rattle.bc_machine.specs.declared.schedule.Schedule.TheInside.{Inside}
use Rattle.bc_machine.specs.declared.lookup.Lookup.{Lookup}
use Rattle.bc_machine.specs.declared.lookup.Lookup.TheVariants as lookup
use Rattle.bc_machine.specs.Beside.{BesideLists}
use Rattle.bc_machine.specs.Rows.{all_placed, rows_at, IsRow}

pub record ScheduleState : Type 0 where
  pub actions : List Placed
  -- for how many actions there is room, these among them
  pub capacity : ℕ
  -- the sources that a controller has set by them
  pub sources : SourcesState

abbrev pub schedule_in : Inside → ScheduleState
schedule_in s = record { actions = all_placed s.beside.lists s.rows.items; capacity = s.most; sources = s.sources }

-- whether the host of a controller sets sources
abbrev pub sets_sources : HostAction → Bool
sets_sources (Terminal address action) = false
sets_sources (Controller asked) = is_source_control asked

-- whether it is an action of the host of the controller
abbrev pub is_control : HostAction → Bool
is_control (Terminal address action) = false
is_control (Controller asked) = true

-- where one of these actions sets sources, this is so
abbrev pub HaveRoom : Bool → List Placed → Type 0
HaveRoom ready placed = All (λ (p : Placed). sets_sources p.action ≡ true → ready ≡ true) placed

-- where one of them is of the host of the controller, this is so
abbrev pub MayControl : Bool → List Placed → Type 0
MayControl controls placed = All (λ (p : Placed). is_control p.action ≡ true → controls ≡ true) placed

-- one action more, behind the others
abbrev pub with_action : ScheduleState → Placed → ScheduleState
with_action s one = record { actions = s.actions ++ one ∷ []; capacity = s.capacity; sources = s.sources }

-- rows whose numbers never fall
abbrev pub AreRising : List Row → Type 0
AreRising rows = IsNonDecreasingBy (λ (r : Row). r.number) rows

-- so many rows have numbers below one, and the others have not
pub record BeginsAt (least : ℕ) (rows : List Row) (place : ℕ) : Type 0 where
  pub within : place ≤ length rows
  pub below : AllWithin (λ (r : Row). r.number < least) rows 0 place
  pub others : AllWithin (λ (r : Row). least ≤ r.number) rows place (length rows)

-- the same rows by rising number, those of each number in their order
pub record AreSorted (beside : BesideLists) (rows sorted : List Row) : Type 0 where
  pub all : All (IsRow beside) sorted
  pub rising : AreRising sorted
  pub same : (n : ℕ) → rows_at n sorted ≡ rows_at n rows

-- what is known of rows by how those of a number are found among them
abbrev pub FindsRows : Lookup → BesideLists → List Row → Type 0
FindsRows lookup.Rising beside rows = AreRising rows
FindsRows (lookup.Sorted sorted) beside rows = AreSorted beside rows sorted.items
FindsRows lookup.Each beside rows = Unit {0}

-- whether the rows that are found are of one number alone
abbrev pub finds_alone : Lookup → Bool
finds_alone lookup.Rising = true
finds_alone (lookup.Sorted sorted) = true
finds_alone lookup.Each = false

abbrev pub AreOf : ℕ → List Row → Type 0
AreOf number rows = All (λ (r : Row). r.number ≡ number) rows

pub record IsSchedule (s : Inside) : Type 0 where
  pub rows : All (IsRow s.beside.lists) s.rows.items
  pub found : FindsRows s.lookup s.beside.lists s.rows.items
  pub within : vec_len s.rows ≤ s.most
  pub room : s.most ≤ vec_capacity s.rows
  -- there is room beside the rows for those to come, each of which may stand there whole
  pub beside : length s.beside.lists.wholes + s.most ≤ s.beside.capacity + vec_len s.rows
  pub few : length s.beside.lists.wholes + s.most ≤ 4294967295 + vec_len s.rows
  pub controls : MayControl s.controls (all_placed s.beside.lists s.rows.items)
  -- there is room for sources where an action sets some, or where there is room for one more
  pub sets : HaveRoom s.sources.ready (all_placed s.beside.lists s.rows.items)
  pub ready : vec_len s.rows < s.most → s.sources.ready ≡ true
