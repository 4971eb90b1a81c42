-- What goes through the trunk, and the items of the recording that it stands for.
use Rattle.std.specs.Prelude.{ℕ, List, [], ◌∷◌, ◌++◌, map, slice_index}
use Rattle.ch11_builder.specs.Packet.{Numbered}
use Rattle.ch11_recording.specs.declared.item.Item.{Item}
use Rattle.ch11_recording.specs.declared.item.Item.TheVariants as item
use Rattle.bench_run.specs.declared.entry.Entry.{Entry}
use Rattle.bench_run.specs.declared.entry.Entry.TheVariants as entry

-- the index of its job
abbrev pub index_of : Entry → ℕ
index_of (entry.Message index number message) = index
index_of (entry.End index) = index

-- the item that it stands for, where these are the channels of the jobs
abbrev pub item_of : List ℕ → Entry → Item
item_of channels (entry.Message index number message) = item.Message (slice_index channels index) number message
item_of channels (entry.End index) = item.End (slice_index channels index)

-- numbered records of the job at an index, and then its end mark
abbrev pub entry_of : ℕ → Numbered → Entry
entry_of index n = entry.Message index n.number n.message

abbrev pub entries_to_the_end : ℕ → List Numbered → List Entry
entries_to_the_end index ns = map (entry_of index) ns ++ entry.End index ∷ []
