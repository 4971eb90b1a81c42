-- The figures of all signals, in the order of their dictionary, those of a signal by rising channel.
use Rattle.std.proofs.Common.{◌≡◌, ℕ, zero, suc, ◌+◌, ◌<◌, ◌≤◌, Bool, true, false, List, [], ◌∷◌, ◌++◌, length, drop, Option, Some, None, refl, ap, sym, ◌∙◌, arith, add-one, append_assoc, append-nil}
use Rattle.std.specs.Prelude.{slice_get}
use Rattle.std.proofs.lemmas.List.{drop_all}
use Rattle.signal_dictionary.specs.declared.signals.Signal.{Signal}
use Rattle.bench_select.specs.Viewed.{Viewed}
use Rattle.bench_select.specs.declared.selection.Selection.{Selection}
use Rattle.bench_signals.specs.Counting.{AreCounted, and_channel, and_figures_in, channels_below, figures_at, has_figures}
use Rattle.bench_signals.specs.Figures.{Figures, and_figures, figures_below, figures_from, figures_of, moments_of}
use Rattle.bench_signals.specs.declared.counting.Counting.{Counting}
use Rattle.bench_signals.proofs.Parts.{drop_there}

-- those of no channel, and those of one channel more
pub below_none : (selection : Selection) (history : List Viewed) (i : ℕ) (s : Signal) → figures_below selection history i s 0 ≡ []
unfolding figures_below
below_none selection history i s = refl

below_suc : (selection : Selection) (history : List Viewed) (i : ℕ) (s : Signal) (n : ℕ) → figures_below selection history i s (suc n) ≡ and_figures (figures_below selection history i s n) (figures_of i n s.kind (moments_of selection s n history))
unfolding figures_below
below_suc selection history i s n = refl

and_behind : (front others : List Figures) (f : Option Figures) → and_figures (front ++ others) f ≡ front ++ and_figures others f
and_behind front others None = refl
and_behind front others (Some f) = append_assoc front others (f ∷ [])

-- the channels below one that have figures
pub no_channels : (l : Counting) → channels_below l 0 ≡ []
unfolding channels_below
no_channels l = refl

one_channel : (l : Counting) (n : ℕ) → channels_below l (suc n) ≡ and_channel (has_figures l n) n (channels_below l n)
unfolding channels_below
one_channel l n = refl

pub channels_more : (l : Counting) (n : ℕ) (so_far more : List ℕ) → so_far ≡ channels_below l n → more ≡ and_channel (has_figures l n) n so_far → more ≡ channels_below l (n + 1)
channels_more l n so_far more is put = put ∙ ap (and_channel (has_figures l n) n) is ∙ rw add-one (sym (one_channel l n))

-- the figures of a signal in channels behind one another
in_both : (l : Counting) (i : ℕ) (front back : List ℕ) (others : List Figures) → and_figures_in l i (front ++ back) others ≡ and_figures_in l i back (and_figures_in l i front others)
in_both l i [] back others = refl
in_both l i (channel ∷ front) back others = in_both l i front back (and_figures others (figures_at l i channel))

-- a channel that has no figures adds none
and_one : (l : Counting) (i n : ℕ) (channels : List ℕ) (others : List Figures) (has : Bool) → (has ≡ false → figures_at l i n ≡ None) → and_figures_in l i (and_channel has n channels) others ≡ and_figures (and_figures_in l i channels others) (figures_at l i n)
and_one l i n channels others true none = in_both l i channels (n ∷ []) others
and_one l i n channels others false none = ap (and_figures (and_figures_in l i channels others)) (sym (none refl))

in_below : (selection : Selection) (signals : List Signal) (history : List Viewed) (l : Counting) (i : ℕ) (s : Signal) (others : List Figures) (n : ℕ) → AreCounted selection signals history l → slice_get signals i ≡ Some s → n ≤ 65536
    → and_figures_in l i (channels_below l n) others ≡ others ++ figures_below selection history i s n
in_below selection signals history l i s others zero are there within =
    ap (λ (cs : List ℕ). and_figures_in l i cs others) (no_channels l) ∙ sym (append-nil others) ∙ ap (λ (fs : List Figures). others ++ fs) (sym (below_none selection history i s))
in_below selection signals history l i s others (suc n) are there within =
    let below : n < 65536 = omega (arith, within) in
    let one = figures_of i n s.kind (moments_of selection s n history) in
    ap (λ (cs : List ℕ). and_figures_in l i cs others) (one_channel l n)
    ∙ and_one l i n (channels_below l n) others (has_figures l n) (are.others i n below)
    ∙ ap (and_figures (and_figures_in l i (channels_below l n) others)) (are.each i n s there below)
    ∙ ap (λ (fs : List Figures). and_figures fs one) (in_below selection signals history l i s others n are there (omega (arith, within)))
    ∙ and_behind others (figures_below selection history i s n) one
    ∙ ap (λ (fs : List Figures). others ++ fs) (sym (below_suc selection history i s n))

-- the figures of a signal in all channels that have any
pub all_channels : (selection : Selection) (signals : List Signal) (history : List Viewed) (l : Counting) (i : ℕ) (s : Signal) (channels : List ℕ) (others more : List Figures) → AreCounted selection signals history l → slice_get signals i ≡ Some s
    → channels ≡ channels_below l 65536 → more ≡ and_figures_in l i channels others → more ≡ others ++ figures_below selection history i s 65536
all_channels selection signals history l i s channels others more are there all put =
    put ∙ ap (λ (cs : List ℕ). and_figures_in l i cs others) all ∙ in_below selection signals history l i s others 65536 are there (omega arith)

-- one channel more
pub in_more : (l : Counting) (i k n : ℕ) (channels : List ℕ) (so_far more all : List Figures) → slice_get channels k ≡ Some n → and_figures_in l i (drop k channels) so_far ≡ all → more ≡ and_figures so_far (figures_at l i n)
    → and_figures_in l i (drop (k + 1) channels) more ≡ all
in_more l i k n channels so_far more all there is put =
    let cut : drop k channels ≡ n ∷ drop (k + 1) channels = rw add-one (drop_there channels k n there) in
    ap (and_figures_in l i (drop (k + 1) channels)) put ∙ ap (λ (cs : List ℕ). and_figures_in l i cs so_far) (sym cut) ∙ is

pub in_end : (l : Counting) (i k : ℕ) (channels : List ℕ) (so_far all : List Figures) → length channels ≤ k → and_figures_in l i (drop k channels) so_far ≡ all → so_far ≡ all
in_end l i k channels so_far all past is = ap (λ (cs : List ℕ). and_figures_in l i cs so_far) (sym (drop_all k channels past)) ∙ is

-- the signals so far, and those that are left
pub from_more : (selection : Selection) (history : List Viewed) (signals : List Signal) (i : ℕ) (s : Signal) (so_far more all : List Figures) → slice_get signals i ≡ Some s → more ≡ so_far ++ figures_below selection history i s 65536
    → so_far ++ figures_from selection history i (drop i signals) ≡ all → more ++ figures_from selection history (i + 1) (drop (i + 1) signals) ≡ all
from_more selection history signals i s so_far more all there put is =
    let rest = figures_from selection history (i + 1) (drop (i + 1) signals) in
    let cut : drop i signals ≡ s ∷ drop (i + 1) signals = rw add-one (drop_there signals i s there) in
    ap (λ (fs : List Figures). fs ++ rest) put
    ∙ append_assoc so_far (figures_below selection history i s 65536) rest
    ∙ ap (λ (ss : List Signal). so_far ++ figures_from selection history i ss) (sym cut)
    ∙ is

pub from_end : (selection : Selection) (history : List Viewed) (signals : List Signal) (i : ℕ) (so_far all : List Figures) → length signals ≤ i → so_far ++ figures_from selection history i (drop i signals) ≡ all → so_far ≡ all
from_end selection history signals i so_far all past is =
    sym (append-nil so_far) ∙ ap (λ (ss : List Signal). so_far ++ figures_from selection history i ss) (sym (drop_all i signals past)) ∙ is
