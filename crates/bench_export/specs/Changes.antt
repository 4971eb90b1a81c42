-- The changes of the lines of a recording over time (own choice): a word begins, or the line is idle.
use Rattle.std.specs.Prelude.{ℕ, zero, suc, ◌+◌, ◌-◌, ◌==◌, Bool, ◌&&◌, nat_lt, if◌then◌else◌}
use Rattle.std.specs.Prelude.{List, [], ◌∷◌, ◌++◌, length, Option, Some, None}
use Rattle.std.specs.List.Sorted.{IsPermutation, IsStableByKey, IsNonDecreasingBy}
use Rattle.std.specs.Ordering.{nat_cmp}
use Rattle.mil_word.specs.Fields.{address_of}
use Rattle.mil_word.specs.Timing.{word_time}
use Rattle.ch11_f1.specs.BodyReading.{Message}
use Rattle.ch11_layout.specs.Stamps.{Recorded, recorded, kind_of, has_time}
use Rattle.ch11_layout.specs.declared.stamps.StampKind.{StampKind}
use Rattle.ch11_layout.specs.BlockStatus.{has_error, is_on_line_b}
use Rattle.ch11_layout.specs.declared.layouts.Role.{Role}
use Rattle.ch11_layout.specs.declared.layouts.Role.TheVariants as roles
use Rattle.ch11_layout.specs.Layouts.{size_of, word_of, data_start, layout_of, role_at}
use Rattle.ch11_reader.specs.Recording.{Found}
use Rattle.bench_select.specs.declared.selection.Selection.{Selection}
use Rattle.bench_select.specs.Selecting.{selects}
use Rattle.bench_export.specs.Moments.{begin_of}
use Rattle.bench_export.specs.declared.changes.Change.{Change}
use Rattle.bench_export.specs.declared.changes.Driven.{Driven}

-- the word that has the terminal's address: of data words the one in front of them
abbrev pub teller_of : Role → ℕ → ℕ → ℕ
teller_of roles.Command start place = place
teller_of roles.Status start place = place
teller_of roles.Data start place = start - 1

-- the terminal that a command calls, that a status word is of, and that sends or receives data words
abbrev pub terminal_at : Recorded → ℕ → ℕ
terminal_at m place = address_of (word_of m.bytes (teller_of (role_at (layout_of m) place) (data_start m) place))

-- the word at a place of message n
abbrev pub driven_at : ℕ → Recorded → ℕ → Driven
driven_at n m place = record {
  word = word_of m.bytes place;
  role = role_at (layout_of m) place;
  terminal = terminal_at m place;
  number = n;
}

-- whether a message with an error (IRIG 106-17 Chapter 11, block status word) is still there behind the word at a place
abbrev pub error_behind : Recorded → ℕ → Bool
error_behind m place = has_error m.block && nat_lt (place + 1) (size_of m)

-- a change of the line of a message
abbrev pub change_of : Recorded → ℕ → ℕ → Option Driven → Bool → Change
change_of m channel tick driven error =
    record { tick = tick; channel = channel; on_b = is_on_line_b m.block; driven = driven; error = error }

-- a word begins; 200 ticks later the line is idle, unless the next word of the message begins then
unfoldable pub changes_at : ℕ → ℕ → Recorded → ℕ → List Change
changes_at n channel m place =
    change_of m channel (begin_of m place) (Some (driven_at n m place)) (has_error m.block)
    ∷ (if nat_lt (place + 1) (size_of m) && (begin_of m (place + 1) == begin_of m place + word_time) then []
    else change_of m channel (begin_of m place + word_time) None (error_behind m place) ∷ [])

-- the changes of so many words of message n on a channel
unfoldable pub changes_up_to : ℕ → ℕ → ℕ → Recorded → List Change
changes_up_to zero n channel m = []
changes_up_to (suc count) n channel m = changes_up_to count n channel m ++ changes_at n channel m count

abbrev pub changes_of : ℕ → ℕ → Recorded → List Change
changes_of n channel m = changes_up_to (size_of m) n channel m

-- the changes of message n, if it is selected and its time is known
unfoldable pub changes_if : Selection → ℕ → ℕ → Recorded → List Change
changes_if selection n channel m =
    if selects selection n channel m && has_time m then changes_of n channel m else []

-- the changes of messages of one channel, behind so many messages of the file, whose stamps are of this kind
abbrev pub changes_among : Selection → StampKind → ℕ → ℕ → List Message → List Change
changes_among selection kind before channel [] = []
changes_among selection kind before channel (m ∷ ms) =
    changes_if selection (before + 1) channel (recorded kind m)
    ++ changes_among selection kind (before + 1) channel ms

-- the changes of a recording's selected messages, in the file's order
abbrev pub changes_behind : Selection → ℕ → List Found → List Change
changes_behind selection before [] = []
changes_behind selection before (p ∷ ps) =
    changes_among selection (kind_of p.header) before p.header.channel p.messages
    ++ changes_behind selection (before + length p.messages) ps

abbrev pub changes_in : Selection → List Found → List Change
changes_in selection ps = changes_behind selection 0 ps

abbrev pub tick_of : Change → ℕ
tick_of c = c.tick

-- the same changes by rising tick, those of one tick in their order
pub record AreInOrder (changes ordered : List Change) : Type 0 where
  pub same : IsPermutation changes ordered
  pub rising : IsNonDecreasingBy tick_of ordered
  pub stable : IsStableByKey tick_of nat_cmp changes ordered
