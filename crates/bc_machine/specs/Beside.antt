-- What does not fit into the rows of placed actions, in lists beside them.
use Rattle.std.specs.Prelude.{◌≡◌, ℕ, ◌+◌, ◌<◌, ◌≤◌, false, List, [], ◌∷◌, ◌++◌, map, length, slice_index_or, All}
use Rattle.std.specs.Prelude.{vec_capacity}
use Rattle.mil_word.specs.declared.Line.{Line}
use Rattle.mil_word.specs.declared.Line.TheVariants.{A}
use Rattle.mil_host.specs.Values.{PutUp}
use Rattle.mil_host.specs.declared.actions.Action.TheVariants.{Busy}
use Rattle.mil_message.specs.declared.forms.Form.{Form}
use Rattle.mil_message.specs.declared.forms.Form.TheVariants.{Mode}
use Rattle.mil_message.specs.declared.drafts.ModeSubaddress.TheVariants.{Zero}
use Rattle.controller_host.specs.Values.{InsertionValue, latest_tick}
use Rattle.bc_machine.specs.declared.placed.HostAction.{HostAction}
use Rattle.bc_machine.specs.declared.placed.HostAction.TheVariants.{Terminal}
use Rattle.bc_machine.specs.declared.beside.KeptInsert.{KeptInsert}
use Rattle.bc_machine.specs.declared.beside.Beside.TheInside.{Inside}

pub record BesideLists : Type 0 where
  -- the data words that terminals put up
  pub words : List PutUp
  -- the messages that the host of the controller has inserted
  pub inserts : List InsertionValue
  -- all else
  pub wholes : List HostAction

pub record BesideState : Type 0 where
  pub lists : BesideLists
  -- for how many whole actions there is room, those that are there among them
  pub capacity : ℕ

abbrev pub nothing_beside : BesideLists
nothing_beside = record { words = []; inserts = []; wholes = [] }

-- ---- what stands at a place

abbrev pub no_message : Form
no_message = Mode 0 Zero 2

abbrev pub no_words : PutUp
no_words = record { sub = 1; words = [] }

abbrev pub no_insert : InsertionValue
no_insert = record { tick = 0; line = A; message = no_message }

abbrev pub no_action : HostAction
no_action = Terminal 0 (Busy false)

abbrev pub words_beside : BesideLists → ℕ → PutUp
words_beside b place = slice_index_or b.words place no_words

abbrev pub insert_beside : BesideLists → ℕ → InsertionValue
insert_beside b place = slice_index_or b.inserts place no_insert

abbrev pub whole_beside : BesideLists → ℕ → HostAction
whole_beside b place = slice_index_or b.wholes place no_action

-- ---- one more behind the others of its kind

abbrev pub with_words : BesideLists → PutUp → BesideLists
with_words b put = record { words = b.words ++ put ∷ []; inserts = b.inserts; wholes = b.wholes }

abbrev pub with_insert : BesideLists → InsertionValue → BesideLists
with_insert b insertion = record { words = b.words; inserts = b.inserts ++ insertion ∷ []; wholes = b.wholes }

abbrev pub with_whole : BesideLists → HostAction → BesideLists
with_whole b action = record { words = b.words; inserts = b.inserts; wholes = b.wholes ++ action ∷ [] }

-- a list with more behind
pub record IsBehind {X : Type 0} (old new : List X) : Type 0 where
  pub rest : List X
  pub is : new ≡ old ++ rest

-- the same lists with more behind, at most one whole action among it
pub record IsMore (old new : BesideLists) : Type 0 where
  pub words : IsBehind old.words new.words
  pub inserts : IsBehind old.inserts new.inserts
  pub wholes : IsBehind old.wholes new.wholes
  pub few : length new.wholes ≤ length old.wholes + 1

-- ---- how they are kept: the message of an insert stands in a list of messages, where inserts share it

abbrev pub insertion_in : List Form → KeptInsert → InsertionValue
insertion_in messages x =
    record { tick = x.tick; line = x.line; message = slice_index_or messages x.message no_message }

abbrev pub beside_in : Inside → BesideState
beside_in b = record {
  lists = record {
    words = b.words.items;
    inserts = map (insertion_in b.messages.items) b.inserts.items;
    wholes = b.wholes.items;
  };
  capacity = vec_capacity b.wholes;
}

-- the tick of an insert is in its range, and its message is there
abbrev pub IsKeptInsert : ℕ → KeptInsert → Type 0
IsKeptInsert count x = (x.tick ≤ latest_tick) × (x.message < count)

abbrev pub IsBeside : Inside → Type 0
IsBeside b = All (IsKeptInsert (length b.messages.items)) b.inserts.items
