-- The words that the host put up at a subaddress, as queries on the history: at each place a word that stays, or a
-- ramp, which changes with each reply that carries it (own choice).
use Rattle.std.specs.Prelude.{ℕ, ◌+◌, ◌*◌, ◌%◌, Bool, ◌&&◌, ◌==◌, max, List, [], ◌∷◌, ◌++◌, length, slice_index_or}
use Rattle.std.specs.Prelude.{Option, Some, None, if◌then◌else◌}
use Rattle.std.proofs.Common.{zero, suc}
use Rattle.std.specs.Option.{is_some}
use Rattle.mil_host.specs.declared.actions.Action.{Action}
use Rattle.mil_host.specs.declared.actions.Action.TheVariants.{Transmit, Ramp}
use Rattle.mil_terminal.specs.declared.events.Event.TheVariants.{Heard, Quiet, Host}
use Rattle.mil_terminal.specs.History.{History, latest_set}
use Rattle.mil_terminal.specs.Answers.{gives_words, quiet_ends}

-- where the word of a place comes from: it stays, or it is a ramp with its first word and what is added each time
pub data Source : Type 0 where
  stays : ℕ → Source
  ramp : ℕ → ℕ → Source

-- what an action sets at a place, counted from 0, of a subaddress: words that are put up set all its places
abbrev pub told_source : ℕ → ℕ → Action → Option Source
told_source sub place (Transmit put) = if put.sub == sub then Some (stays (slice_index_or put.words place 0)) else None
told_source sub place (Ramp r) = if r.sub == sub && r.index == suc place then Some (ramp r.start r.add) else None
told_source sub place _ = None

-- where the word of a place comes from: what the latest action that names it set; zeros stand where none did
abbrev pub source_at : ℕ → ℕ → History → Source
source_at sub place h = latest_set (told_source sub place) (stays 0) h

-- how many replies have carried the word of a place since its source was set, be they heard or not
abbrev pub times_carried : ℕ → ℕ → ℕ → History → ℕ
times_carried own sub place [] = 0
times_carried own sub place (Heard line wave gap ∷ past) = times_carried own sub place past
times_carried own sub place (Quiet line ∷ past) =
    if quiet_ends own (gives_words own sub place) line past then suc (times_carried own sub place past)
    else times_carried own sub place past
times_carried own sub place (Host action ∷ past) =
    if is_some (told_source sub place action) then 0 else times_carried own sub place past

-- the word of a source that so many replies have carried
abbrev pub next_word : Source → ℕ → ℕ
next_word (stays word) times = word
next_word (ramp start add) times = (start + times * add) % 65536

-- the word of a place in the next reply
abbrev pub word_put_up : ℕ → ℕ → ℕ → History → ℕ
word_put_up own sub place h = next_word (source_at sub place h) (times_carried own sub place h)

-- how many places there are: as many as words were put up last, and up to each ramp since then
abbrev pub told_count : ℕ → Action → ℕ → ℕ
told_count sub (Transmit put) before = if put.sub == sub then length put.words else before
told_count sub (Ramp r) before = if r.sub == sub then max before r.index else before
told_count sub _ before = before

abbrev pub count_put_up : ℕ → History → ℕ
count_put_up sub [] = 0
count_put_up sub (Heard line wave gap ∷ past) = count_put_up sub past
count_put_up sub (Quiet line ∷ past) = count_put_up sub past
count_put_up sub (Host action ∷ past) = told_count sub action (count_put_up sub past)

abbrev pub first_words : ℕ → ℕ → History → ℕ → List ℕ
first_words own sub h zero = []
first_words own sub h (suc n) = first_words own sub h n ++ word_put_up own sub n h ∷ []

-- the words that the next reply from a subaddress has, before they are cut or filled with zeros to its count
unfoldable pub words_put_up : ℕ → ℕ → History → List ℕ
words_put_up own sub h = first_words own sub h (count_put_up sub h)

-- what a ramp adds each time, where one stands at a place
abbrev pub added : Source → Option ℕ
added (stays word) = None
added (ramp start add) = Some add

-- what the ramp at a place adds each time, if there is one
unfoldable pub ramp_at : ℕ → ℕ → History → Option ℕ
ramp_at sub place h = added (source_at sub place h)
