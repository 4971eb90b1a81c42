-- The figures of the messages that were read so far.
use Rattle.std.specs.Prelude.{◌≡◌, ◌<◌, ℕ, zero, suc, ◌+◌, ◌*◌, ◌==◌, nat_eq, Bool, true, false, ◌&&◌, if◌then◌else◌}
use Rattle.std.specs.Prelude.{List, [], ◌∷◌, ◌++◌, slice_get, Option, Some, None, option_map}
use Rattle.std.specs.HashMap.{get}
use Rattle.std.specs.HashSet.{contains}
use Rattle.ch11_reader.specs.Contents.{capped}
use Rattle.signal_dictionary.specs.declared.signals.Kind.{Kind}
use Rattle.signal_dictionary.specs.declared.signals.Signal.{Signal}
use Rattle.bench_select.specs.Viewed.{Viewed}
use Rattle.bench_select.specs.declared.selection.Selection.{Selection}
use Rattle.bench_signals.specs.Figures.{Figures, Moment, and_figures, figures_of, greater, is_change, lesser}
use Rattle.bench_signals.specs.Figures.{moments_of, one_if, said_by}
use Rattle.bench_signals.specs.declared.counting.Counting.{Counting}

-- those of the first value, and with one value more
abbrev pub begun : ℕ → ℕ → Moment → Figures
begun signal channel m = record {
  signal = signal;
  channel = channel;
  messages = 1;
  changes = 0;
  least = lesser None m;
  greatest = greater None m;
  first = m;
  last = m;
}

abbrev pub with_moment : Bool → Moment → Figures → Figures
with_moment changed m f = record f {
  messages = capped (f.messages + 1);
  changes = capped (f.changes + one_if changed);
  least = lesser f.least m;
  greatest = greater f.greatest m;
  last = m;
}

abbrev pub counted : ℕ → ℕ → Kind → Moment → Option Figures → Figures
counted signal channel kind m None = begun signal channel m
counted signal channel kind m (Some f) = with_moment (is_change kind f.last m) m f

-- those of the signal at a place of the dictionary in a channel
abbrev pub figures_at : Counting → ℕ → ℕ → Option Figures
figures_at c signal channel = option_map said_by (get nat_eq c.figures (signal * 65536 + channel))

-- a channel is one of those that have figures
abbrev pub has_figures : Counting → ℕ → Bool
has_figures c channel = contains nat_eq c.channels channel

-- a value of a signal in a channel was counted, and all others are as before
pub record IsNoted (signal channel : ℕ) (kind : Kind) (m : Moment) (old new : Counting) : Type 0 where
  pub noted : figures_at new signal channel ≡ Some (counted signal channel kind m (figures_at old signal channel))
  pub others : (i c : ℕ) → c < 65536 → ((i == signal) && (c == channel)) ≡ false
      → figures_at new i c ≡ figures_at old i c
  pub seen : has_figures new channel ≡ true
  pub stays : (k : ℕ) → has_figures old k ≡ true → has_figures new k ≡ true

-- so it is where there is a value
abbrev pub IsCounted : ℕ → ℕ → Kind → Option Moment → Counting → Counting → Type 0
IsCounted signal channel kind None old new = new ≡ old
IsCounted signal channel kind (Some m) old new = IsNoted signal channel kind m old new

-- no other channel than those has figures
abbrev pub HasNoOthers : Counting → Type 0
HasNoOthers c = (i k : ℕ) → k < 65536 → has_figures c k ≡ false → figures_at c i k ≡ None

-- the messages so far are counted
pub record AreCounted (selection : Selection) (signals : List Signal) (history : List Viewed) (c : Counting)
    : Type 0 where
  pub each : (i k : ℕ) (s : Signal) → slice_get signals i ≡ Some s → k < 65536
      → figures_at c i k ≡ figures_of i k s.kind (moments_of selection s k history)
  pub others : HasNoOthers c

-- the channels below one that have figures, rising
abbrev pub and_channel : Bool → ℕ → List ℕ → List ℕ
and_channel has channel channels = if has then channels ++ channel ∷ [] else channels

unfoldable pub channels_below : Counting → ℕ → List ℕ
channels_below c zero = []
channels_below c (suc channel) = and_channel (has_figures c channel) channel (channels_below c channel)

-- those of a signal in these channels, behind others
abbrev pub and_figures_in : Counting → ℕ → List ℕ → List Figures → List Figures
and_figures_in c signal [] others = others
and_figures_in c signal (channel ∷ channels) others =
    and_figures_in c signal channels (and_figures others (figures_at c signal channel))
