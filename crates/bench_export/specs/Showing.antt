-- What the lines of buses show over time, and what of it a value change dump tells (IEEE 1364-2001 section 18.2: a
-- value stays until another one is told; own choice of the signals).
use Rattle.std.specs.Prelude.{◌≡◌, ℕ, ◌==◌, Bool, true, false, not, ◌&&◌, if◌then◌else◌, List, [], ◌∷◌, ◌++◌, reverse}
use Rattle.std.specs.List.{find}
use Rattle.std.specs.Prelude.{Option, Some, None, option_map, unwrap_or}
use Rattle.ch11_layout.specs.declared.layouts.Role.{Role}
use Rattle.ch11_layout.specs.declared.layouts.Role.TheVariants as roles
use Rattle.bench_export.specs.declared.changes.Change.{Change}
use Rattle.bench_export.specs.declared.changes.Driven.{Driven}
use Rattle.bench_export.specs.declared.lines.Shown.{Shown}

-- an idle line
abbrev pub idle : Shown
idle = record { driven = None; error = false }

-- what the line shows from a change on
abbrev pub shown_of : Change → Shown
shown_of c = record { driven = c.driven; error = c.error }

-- whether a change is one of a line
abbrev pub is_of : Bool → ℕ → Change → Bool
is_of on_b channel c = (c.channel == channel) && (if on_b then c.on_b else not c.on_b)

-- what a line shows behind changes: that from its latest one on; at first it is idle
unfoldable pub shown_behind : Bool → ℕ → List Change → Shown
shown_behind on_b channel cs = unwrap_or (option_map shown_of (find (is_of on_b channel) (reverse cs))) idle

-- what the kind of a word is shown as
abbrev pub kind_of : Role → ℕ
kind_of roles.Command = 1
kind_of roles.Data = 2
kind_of roles.Status = 3

-- the values of the signals of a line; no number is z
pub record Signals : Type 0 where
  pub word : Option ℕ
  pub kind : Option ℕ
  pub terminal : Option ℕ
  pub message : Option ℕ
  pub error : Bool

abbrev pub signals_of : Shown → Signals
signals_of s = record {
  word = option_map (λ (d : Driven). d.word) s.driven;
  kind = option_map (λ (d : Driven). kind_of d.role) s.driven;
  terminal = option_map (λ (d : Driven). d.terminal) s.driven;
  message = option_map (λ (d : Driven). d.number) s.driven;
  error = s.error;
}

-- whether a value is the same as before
abbrev pub is_same : Option ℕ → Option ℕ → Bool
is_same None None = true
is_same None (Some b) = false
is_same (Some a) None = false
is_same (Some a) (Some b) = a == b

-- a value that is told only where it is another than before
abbrev pub told_if : Option ℕ → Option ℕ → Option (Option ℕ)
told_if before now = if is_same before now then None else Some now

abbrev pub error_if : Bool → Bool → Option Bool
error_if true true = None
error_if true false = Some false
error_if false true = Some true
error_if false false = None

-- the values of the signals of a line that are told; none is not told
pub record Told : Type 0 where
  pub word : Option (Option ℕ)
  pub kind : Option (Option ℕ)
  pub terminal : Option (Option ℕ)
  pub message : Option (Option ℕ)
  pub error : Option Bool

-- of a line that showed something and shows something else the word is told always, what else there is where it changes
abbrev pub told_in : Shown → Shown → Told
told_in before now = record {
  word = Some (signals_of now).word;
  kind = told_if (signals_of before).kind (signals_of now).kind;
  terminal = told_if (signals_of before).terminal (signals_of now).terminal;
  message = told_if (signals_of before).message (signals_of now).message;
  error = error_if before.error now.error;
}

-- the values that a reader has who keeps of each signal the one told last
abbrev pub taken : Signals → Told → Signals
taken had told = record {
  word = unwrap_or told.word had.word;
  kind = unwrap_or told.kind had.kind;
  terminal = unwrap_or told.terminal had.terminal;
  message = unwrap_or told.message had.message;
  error = unwrap_or told.error had.error;
}

-- the values of a line that such a reader has behind changes, of which some are read already
abbrev pub read_on : Bool → ℕ → Signals → List Change → List Change → Signals
read_on on_b channel had earlier [] = had
read_on on_b channel had earlier (c ∷ cs) = read_on on_b channel
    (if is_of on_b channel c then taken had (told_in (shown_behind on_b channel earlier) (shown_of c)) else had)
    (earlier ++ c ∷ []) cs

-- who reads a dump so has behind each change, of each line, all that it shows there
abbrev pub ReadAsShown : Type 0
ReadAsShown = (on_b : Bool) (channel : ℕ) (cs : List Change)
    → read_on on_b channel (signals_of idle) [] cs ≡ signals_of (shown_behind on_b channel cs)
