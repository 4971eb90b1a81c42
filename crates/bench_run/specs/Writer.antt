-- What the writer has recorded of the entries that it received.
use Rattle.std.specs.Prelude.{◌≡◌, ℕ, ◌+◌, ◌*◌, ◌^◌, ◌<◌, ◌≤◌, ◌==◌, Bool, true, false, List, [], ◌∷◌, ◌++◌, length}
use Rattle.std.specs.Prelude.{map, if◌then◌else◌, slice_get, Option, Some, ⊤}
use Rattle.std.specs.List.{AllByRecursion}
use Rattle.ch11_f1.specs.declared.Record.{Record}
use Rattle.ch11_builder.specs.Packet.{Numbered}
use Rattle.ch11_builder.specs.Held.{Held, latest_number}
use Rattle.ch11_recording.specs.declared.item.Item.{Item}
use Rattle.ch11_recording.specs.declared.item.Item.TheVariants as item
use Rattle.ch11_recording.specs.Items.{numbered, last_number}
use Rattle.ch11_recording.specs.WrittenFile.{Format}
use Rattle.ch11_recording.specs.Recording.{Recording, IsRecordingOf}
use Rattle.bench_settings.specs.declared.settings.Settings.{Settings}
use Rattle.bench_settings.specs.Lawful.{format_of}
use Rattle.bench_run.specs.declared.entry.Entry.{Entry}
use Rattle.bench_run.specs.declared.entry.Entry.TheVariants as entry
use Rattle.bench_run.specs.Entries.{index_of, item_of}

-- the item that an entry is on a channel
abbrev pub item_with : Entry → ℕ → Item
item_with (entry.Message index number message) channel = item.Message channel number message
item_with (entry.End index) channel = item.End channel

-- the record of an entry, none of an end mark
abbrev pub record_of : Entry → List Numbered
record_of (entry.Message index number message) = numbered number message ∷ []
record_of (entry.End index) = []

-- the records of the job at an index, in their order
abbrev pub records_at : ℕ → List Entry → List Numbered
records_at index [] = []
records_at index (x ∷ later) = (if index_of x == index then record_of x else []) ++ records_at index later

-- a number that is above an earlier one, and a stamp below 2^48
pub record IsNextNumber (low number : ℕ) (message : Record) : Type 0 where
  pub above : low < number
  pub stamp : message.stamp < 2 ^ 48

-- a message of a job, behind the job's message before
pub record MessageFits (channels : List ℕ) (earlier : List Entry) (index number : ℕ) (message : Record) : Type 0 where
  pub index_low : index < length channels
  pub next : IsNextNumber (last_number (records_at index earlier)) number message

-- it can be recorded behind the earlier ones: there is a job at its index, the number of a message is above that of the
-- job's message before, and its stamp is below 2^48
abbrev pub FitsRecording : List ℕ → List Entry → Entry → Type 0
FitsRecording channels earlier (entry.Message index number message) = MessageFits channels earlier index number message
FitsRecording channels earlier (entry.End index) = index < length channels

-- some entry could not be recorded where it stood
pub record IsUnfit (channels : List ℕ) (got : List Entry) : Type 0 where
  pub earlier : List Entry
  pub later : List Entry
  pub here : Entry
  pub split : got ≡ earlier ++ here ∷ later
  pub unfit : ¬ FitsRecording channels earlier here

-- What a recorder has of the entries `got`: all of them, where `whole`, and else some could not be recorded.
pub record IsLogged {S : Type 0} (taken : S → Option (List ℕ)) (failures : S → ℕ) (f : Format) (prologue : List ℕ)
    (before : S) (channels : List ℕ) (got : List Entry) (r : Recording S) (whole : Bool) : Type 0 where
  pub items : List Item
  pub recording : IsRecordingOf taken f prologue (taken before) channels items r
  pub all : whole ≡ true → items ≡ map (item_of channels) got
  pub indices : whole ≡ true → AllByRecursion (λ x. index_of x < length channels) got
  pub unfit : whole ≡ false → IsUnfit channels got
  pub rose : r.writing.failed ≡ true → failures before < failures r.writing.sink
  pub not_fewer : failures before ≤ failures r.writing.sink
  pub unfinished : r.writing.finished ≡ false
  pub few : r.writing.taken ≤ length prologue + 524288 * length got

-- the same of the recorder of a run with these settings
abbrev pub IsRunLogged : {S : Type 0} → (S → Option (List ℕ)) → (S → ℕ) → Settings → S → List ℕ → List Entry
    → Recording S → Bool → Type 0
IsRunLogged taken failures s before channels got r whole =
    IsLogged taken failures (format_of s) s.prologue.items before channels got r whole

-- what was recorded of a run with these settings before it was stopped: some entries, on some channels
pub record HasBegun {S : Type 0} (taken : S → Option (List ℕ)) (failures : S → ℕ) (s : Settings) (before : S)
    (r : Recording S) (whole : Bool) : Type 0 where
  pub channels : List ℕ
  pub got : List Entry
  pub logged : IsRunLogged taken failures s before channels got r whole

-- whatever was recorded of the entries that were received before, is recorded of those that are received now
abbrev pub Records : {S : Type 0} → (S → Option (List ℕ)) → (S → ℕ) → List ℕ → List Entry → Recording S → Bool
    → List Entry → Recording S → Bool → Type 0
Records taken failures channels got old old_whole got' new new_whole =
    (f : Format) (prologue : List ℕ) (before : _) → IsLogged taken failures f prologue before channels got old old_whole
    → IsLogged taken failures f prologue before channels got' new new_whole

-- a channel that takes a message
pub record TakesMessage (held : List Held) (index number : ℕ) (message : Record) (h : Held) : Type 0 where
  pub there : slice_get held index ≡ Some h
  pub next : IsNextNumber (latest_number h) number message

-- a channel that takes the entry
abbrev pub IsTakenBy : List Held → Entry → Held → Type 0
IsTakenBy held (entry.Message index number message) h = TakesMessage held index number message h
IsTakenBy held (entry.End index) h = slice_get held index ≡ Some h

-- numbers that rise from above `low` on, and stamps below 2^48
abbrev pub AreOrdered : ℕ → List Numbered → Type 0
AreOrdered low [] = ⊤
AreOrdered low (n ∷ ns) = IsNextNumber low n.number n.message × AreOrdered n.number ns
