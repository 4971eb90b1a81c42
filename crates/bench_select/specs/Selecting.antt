-- Which messages of a recording are chosen (own choice): by their channel, the line, the summary of errors, the
-- selector of a rule, a signal that they have, number and time, in ticks of 0.1 µs (IRIG 106-17 Chapter 11,
-- MIL-STD-1553 bus data packets, Format 1).
use Rattle.std.specs.Prelude.{◌≡◌, ℕ, ◌+◌, nat_le, Bool, true, false, not, ◌&&◌, ◌||◌, Option, Some, None, List}
use Rattle.std.specs.Prelude.{slice_index_or}
use Rattle.ch11_layout.specs.Stamps.{Recorded, time_of}
use Rattle.ch11_layout.specs.declared.stamps.StampKind.{StampKind}
use Rattle.ch11_layout.specs.declared.stamps.StampKind.TheVariants.{Counter, TimeOfDay, Unknown}
use Rattle.ch11_layout.specs.BlockStatus.{has_error}
use Rattle.judge_rules.specs.declared.rules.Selector.{Selector}
use Rattle.judge_rules.specs.declared.rules.Span.{Span}
use Rattle.bench_select.specs.declared.bounds.Bound.{Bound}
use Rattle.bench_select.specs.declared.bounds.Bound.TheVariants.{Number, Time}
use Rattle.bench_select.specs.declared.selection.Selection.{Selection}
use Rattle.bench_select.specs.Selectors.{is_chosen, is_on, selects_commands}
use Rattle.bench_select.specs.Signals.{has_signal}
use Rattle.signal_dictionary.specs.declared.signals.Signal.{Signal}
use Rattle.std.specs.Borrow.{Bor}

-- the tick from which times count: where stamps are times of day, that of the channel's first
abbrev pub or_nought : Option ℕ → ℕ
or_nought None = 0
or_nought (Some ticks) = ticks

abbrev pub first_in : List (Option ℕ) → ℕ → ℕ
first_in origins channel = or_nought (slice_index_or origins channel None)

abbrev pub origin_by : StampKind → List (Option ℕ) → ℕ → ℕ
origin_by Counter origins channel = 0
origin_by TimeOfDay origins channel = first_in origins channel
origin_by Unknown origins channel = 0

-- a time is at or behind another, at or before it; one that is not known is neither
abbrev pub is_behind : ℕ → Option ℕ → Bool
is_behind first None = false
is_behind first (Some time) = nat_le first time

abbrev pub is_before : ℕ → Option ℕ → Bool
is_before last None = false
is_before last (Some time) = nat_le time last

-- from a message or a time on
abbrev pub is_from : Option Bound → ℕ → ℕ → Option ℕ → Bool
is_from None origin number time = true
is_from (Some (Number first)) origin number time = nat_le first number
is_from (Some (Time first)) origin number time = is_behind (origin + first) time

-- up to a message or a time, that one too
abbrev pub is_up_to : Option Bound → ℕ → ℕ → Option ℕ → Bool
is_up_to None origin number time = true
is_up_to (Some (Number last)) origin number time = nat_le number last
is_up_to (Some (Time last)) origin number time = is_before (origin + last) time

-- in a span of time
abbrev pub at_time : Option ℕ → Option Bound
at_time None = None
at_time (Some tick) = Some (Time tick)

abbrev pub is_in_span : Span → List (Option ℕ) → ℕ → Recorded → Bool
is_in_span span origins channel m =
    is_from (at_time span.from) (origin_by m.kind origins channel) 0 (time_of m)
    && is_up_to (at_time span.to) (origin_by m.kind origins channel) 0 (time_of m)

-- of the commands that a selector asks for
abbrev pub is_about : Option Selector → Recorded → Bool
is_about None m = true
is_about (Some selector) m = selects_commands selector m

-- with the signal that is asked for
abbrev pub has_chosen : Option (Bor Signal) → ℕ → Recorded → Bool
has_chosen None channel m = true
has_chosen (Some signal) channel m = has_signal signal.now channel m

-- the message of a number of the file, counted from 1, on a channel
abbrev pub selects : Selection → ℕ → ℕ → Recorded → Bool
selects s number channel m =
    is_chosen s.channel channel && is_on s.line m.block && (not s.errors || has_error m.block)
    && is_from s.from (origin_by m.kind s.origins.now channel) number (time_of m)
    && is_up_to s.to (origin_by m.kind s.origins.now channel) number (time_of m) && is_about s.selector m
    && has_chosen s.signal channel m

-- nothing is asked of a message
abbrev pub is_none : {A : Type 0} → Option A → Bool
is_none None = true
is_none (Some x) = false

abbrev pub is_all : Selection → Bool
is_all s =
    is_none s.channel && is_none s.line && is_none s.selector && is_none s.signal && not s.errors && is_none s.from
    && is_none s.to

-- a bound is a time
abbrev pub is_time : Option Bound → Bool
is_time None = false
is_time (Some (Number n)) = false
is_time (Some (Time ticks)) = true

abbrev pub is_timed : Selection → Bool
is_timed s = is_time s.from || is_time s.to

-- all is asked that another selection asks, and times count from these
pub record IsCountedFrom (origins : List (Option ℕ)) (s counted : Selection) : Type 0 where
  pub channel : counted.channel ≡ s.channel
  pub line : counted.line ≡ s.line
  pub selector : counted.selector ≡ s.selector
  pub signal : counted.signal ≡ s.signal
  pub errors : counted.errors ≡ s.errors
  pub first : counted.from ≡ s.from
  pub last : counted.to ≡ s.to
  pub counts : counted.origins.now ≡ origins
