-- Changes that wait, and those that were written.
use Rattle.std.proofs.Common.{◌≡◌, ℕ, ◌+◌, ◌-◌, ◌<◌, ◌≤◌, List, [], ◌∷◌, ◌++◌, length, take, drop, get_or, Option, refl, sym, ap, subst, ◌∙◌, append_assoc, arith}
use Rattle.std.specs.Io.KnownBytes.{Appends}
use Rattle.std.specs.List.{All, filter}
use Rattle.std.specs.List.Sorted.{IsPermutation, IsNonDecreasingBy, IsStableByKey, ties}
use Rattle.std.specs.Ordering.{is_lt, nat_cmp}
use Rattle.std.proofs.lemmas.List.{append-nil, take-append-drop}
use Rattle.std.proofs.lemmas.List.Elements.{All-nil, All-append, All-weaker, filter-append}
use Rattle.std.proofs.lemmas.List.Sorted.{All-permutation, IsPermutation-refl, IsPermutation-append_left, IsPermutation-append_right, IsPermutation-trans, IsNonDecreasingBy-take}
use Rattle.bench_dump.proofs.Steps.{appends_both, appends_nothing}
use Rattle.bench_export.specs.Changes.{AreInOrder, tick_of}
use Rattle.bench_export.specs.Merging.{AreApart, AreShown, IsCut, IsLag, IsMerging, last_tick}
use Rattle.bench_export.specs.Showing.{shown_behind}
use Rattle.bench_export.specs.Waves.{change_text, changes_text}
use Rattle.bench_export.specs.declared.changes.Change.{Change}
use Rattle.bench_export.specs.declared.lines.Shown.{Shown}
use Rattle.bench_export.proofs.Orders.{all_left, all_right, apart_at, lag_across, rises, rises_both}

-- ---- texts

text_both : (told : ℕ) (earlier us vs : List Change) → changes_text told earlier (us ++ vs) ≡ changes_text told earlier us ++ changes_text (last_tick told us) (earlier ++ us) vs
text_both told earlier [] vs = ap (λ (l : List Change). changes_text told l vs) (sym (append-nil earlier))
text_both told earlier (a ∷ us) vs =
    ap (λ (l : List ℕ). one ++ l) (text_both a.tick (earlier ++ a ∷ []) us vs)
    ∙ sym (append_assoc one (changes_text a.tick (earlier ++ a ∷ []) us) (changes_text (last_tick a.tick us) ((earlier ++ a ∷ []) ++ us) vs))
    ∙ ap (λ (l : List Change). (one ++ changes_text a.tick (earlier ++ a ∷ []) us) ++ changes_text (last_tick a.tick us) l vs) (append_assoc earlier (a ∷ []) us)
  where
    one : List ℕ
    one = change_text told (shown_behind a.on_b a.channel earlier) a

last_both : (told : ℕ) (us vs : List Change) → last_tick told (us ++ vs) ≡ last_tick (last_tick told us) vs
last_both told [] vs = refl
last_both told (a ∷ us) vs = last_both a.tick us vs

written_on : (first last : ℕ) (got mid gets : Option (List ℕ)) (given due : List Change) → last ≡ last_tick first given → Appends got mid (changes_text first [] given)
    → Appends mid gets (changes_text last given due) → Appends got gets (changes_text first [] (given ++ due))
written_on first last got mid gets given due is one two =
    subst (Appends got gets) (ap (λ (n : ℕ). changes_text first [] given ++ changes_text n given due) is ∙ sym (text_both first [] given due))
    (appends_both got mid gets (changes_text first [] given) (changes_text last given due) one two)

-- ---- the order

same_behind : (so_far given waiting other : List Change) → IsPermutation so_far (given ++ waiting) → IsPermutation waiting other → IsPermutation so_far (given ++ other)
same_behind so_far given waiting other one two =
    IsPermutation-trans so_far (given ++ waiting) (given ++ other) one (IsPermutation-append_right given waiting other two)

stable_behind : (so_far given waiting other : List Change) → IsStableByKey tick_of nat_cmp so_far (given ++ waiting) → IsStableByKey tick_of nat_cmp waiting other
    → IsStableByKey tick_of nat_cmp so_far (given ++ other)
stable_behind so_far given waiting other one two x =
    let p = ties (λ (a b : Change). is_lt (nat_cmp a.tick b.tick)) x in
    filter-append p given other ∙ ap (λ (l : List Change). filter p given ++ l) (two x) ∙ sym (filter-append p given waiting) ∙ one x

stable_more : (so_far given waiting more : List Change) → IsStableByKey tick_of nat_cmp so_far (given ++ waiting)
    → IsStableByKey tick_of nat_cmp (so_far ++ more) (given ++ (waiting ++ more))
stable_more so_far given waiting more one x =
    let p = ties (λ (a b : Change). is_lt (nat_cmp a.tick b.tick)) x in
    ap (filter p) (sym (append_assoc given waiting more)) ∙ filter-append p (given ++ waiting) more
    ∙ ap (λ (l : List Change). l ++ filter p more) (one x) ∙ sym (filter-append p so_far more)

-- ---- the steps

pub none_wait : (told lag : ℕ) (lines : List Shown) (got : Option (List ℕ)) → AreShown lines [] → IsMerging told lag told lines got got [] []
none_wait told lag lines got shown = record {
  given = [];
  same = IsPermutation-refl [];
  stable = λ x. refl;
  written = appends_nothing got;
  shown = shown;
  last = refl;
  apart = λ future l. record {
    rising = rises [] tt;
    apart = All-nil (λ (g : Change). All (λ (c : Change). g.tick ≤ c.tick) ([] ++ future));
  };
}

-- more changes came
pub more_wait : (first lag last : ℕ) (lines : List Shown) (got gets : Option (List ℕ)) (so_far waiting more : List Change) → IsMerging first lag last lines got gets so_far waiting
    → IsMerging first lag last lines got gets (so_far ++ more) (waiting ++ more)
more_wait first lag last lines got gets so_far waiting more m = record {
  given = m.given;
  same = subst (IsPermutation (so_far ++ more)) (append_assoc m.given waiting more) (IsPermutation-append_left more so_far (m.given ++ waiting) m.same);
  stable = stable_more so_far m.given waiting more m.stable;
  written = m.written;
  shown = m.shown;
  last = m.last;
  apart = λ future l.
      subst (AreApart m.given) (sym (append_assoc waiting more future)) (m.apart (more ++ future) (subst (IsLag lag) (append_assoc so_far more future) l));
}

-- each that was written is before each that waits or comes
apart_on : (given waiting due rest future : List Change) → IsPermutation waiting (due ++ rest) → All (λ (d : Change). All (λ (r : Change). d.tick ≤ r.tick) rest) due
    → All (λ (d : Change). All (λ (c : Change). d.tick ≤ c.tick) future) due → All (λ (g : Change). All (λ (c : Change). g.tick ≤ c.tick) (waiting ++ future)) given
    → All (λ (g : Change). All (λ (c : Change). g.tick ≤ c.tick) (rest ++ future)) (given ++ due)
apart_on given waiting due rest future same apart early h =
    All-append (λ (g : Change). All (λ (c : Change). g.tick ≤ c.tick) (rest ++ future)) given due
    (All-weaker (λ (g : Change). All (λ (c : Change). g.tick ≤ c.tick) (waiting ++ future)) (λ (g : Change). All (λ (c : Change). g.tick ≤ c.tick) (rest ++ future))
    (λ g a.
    let p = λ (c : Change). g.tick ≤ c.tick in
    All-append p rest future (all_right p due rest (All-permutation p waiting (due ++ rest) same (all_left p waiting future a))) (all_right p waiting future a)) given h)
    (λ k d lt. All-append (λ (c : Change). (get_or due k d).tick ≤ c.tick) rest future (apart k d lt) (early k d lt))

-- a change to come is not before any that is due
early_all : (lag : ℕ) (so_far given waiting due rest future : List Change) → IsPermutation so_far (given ++ waiting) → IsCut lag waiting due rest → IsLag lag (so_far ++ future)
    → All (λ (d : Change). All (λ (c : Change). d.tick ≤ c.tick) future) due
early_all lag so_far given waiting due rest future same cut l k d lt i e within =
    let c = get_or future i e in
    let p = λ (w : Change). w.tick ≤ c.tick + lag in
    let before : All p so_far = λ j x less. lag_across lag so_far future l j x less i e within in
    cut.early c.tick (all_right p given waiting (All-permutation p so_far (given ++ waiting) same before)) k d lt

-- some were written
pub some_written : (first lag last now : ℕ) (lines after : List Shown) (got mid gets : Option (List ℕ)) (so_far waiting due rest : List Change) → IsMerging first lag last lines got mid so_far waiting → IsCut lag waiting due rest
    → now ≡ last_tick last due → ((cs : List Change) → AreShown lines cs → AreShown after (cs ++ due)) → ((cs : List Change) → AreShown lines cs → Appends mid gets (changes_text last cs due)) → IsMerging first lag now after got gets so_far rest
some_written first lag last now lines after got mid gets so_far waiting due rest m cut is noted one = record {
  given = m.given ++ due;
  same = subst (IsPermutation so_far) (sym (append_assoc m.given due rest)) (same_behind so_far m.given waiting (due ++ rest) m.same cut.same);
  stable = subst (IsStableByKey tick_of nat_cmp so_far) (sym (append_assoc m.given due rest)) (stable_behind so_far m.given waiting (due ++ rest) m.stable cut.stable);
  written = written_on first last got mid gets m.given due m.last m.written (one m.given m.shown);
  shown = noted m.given m.shown;
  last = is ∙ ap (λ (n : ℕ). last_tick n due) m.last ∙ sym (last_both first m.given due);
  apart = λ future l.
      let a = m.apart future l in
      record {
        rising = rises_both m.given due a.rising cut.rising (apart_due m.given waiting due rest future cut.same a.apart);
        apart = apart_on m.given waiting due rest future cut.same cut.apart (early_all lag so_far m.given waiting due rest future m.same cut l) a.apart;
      };
}
  where
    apart_due : (given waiting due rest future : List Change) → IsPermutation waiting (due ++ rest) → All (λ (g : Change). All (λ (c : Change). g.tick ≤ c.tick) (waiting ++ future)) given
        → All (λ (g : Change). All (λ (c : Change). g.tick ≤ c.tick) due) given
    apart_due given waiting due rest future same h =
        All-weaker (λ (g : Change). All (λ (c : Change). g.tick ≤ c.tick) (waiting ++ future)) (λ (g : Change). All (λ (c : Change). g.tick ≤ c.tick) due)
        (λ g a. let p = λ (c : Change). g.tick ≤ c.tick in all_left p due rest (All-permutation p waiting (due ++ rest) same (all_left p waiting future a))) given h

-- all were written
pub all_written : (first lag last : ℕ) (lines : List Shown) (got mid gets : Option (List ℕ)) (so_far waiting rest : List Change) → IsMerging first lag last lines got mid so_far waiting → AreInOrder waiting rest
    → ((cs : List Change) → AreShown lines cs → Appends mid gets (changes_text last cs rest)) → IsLag lag so_far → (given : List Change) × AreInOrder so_far given × Appends got gets (changes_text first [] given)
all_written first lag last lines got mid gets so_far waiting rest m o one l =
    let a = m.apart [] (rw append-nil l) in (
      m.given ++ rest,
      record {
        same = same_behind so_far m.given waiting rest m.same o.same;
        rising = rises_both m.given rest a.rising o.rising (to_rest m.given a.apart);
        stable = stable_behind so_far m.given waiting rest m.stable o.stable;
      },
      written_on first last got mid gets m.given rest m.last m.written (one m.given m.shown),
    )
  where
    to_rest : (given : List Change) → All (λ (g : Change). All (λ (c : Change). g.tick ≤ c.tick) (waiting ++ [])) given → All (λ (g : Change). All (λ (c : Change). g.tick ≤ c.tick) rest) given
    to_rest given h =
        All-weaker (λ (g : Change). All (λ (c : Change). g.tick ≤ c.tick) (waiting ++ [])) (λ (g : Change). All (λ (c : Change). g.tick ≤ c.tick) rest)
        (λ g a. let p = λ (c : Change). g.tick ≤ c.tick in All-permutation p waiting rest o.same (all_left p waiting [] a)) given h

-- those that rise, cut at a place
pub cut_at : (lag place : ℕ) (waiting sorted : List Change) → AreInOrder waiting sorted → ((tick : ℕ) → All (λ (w : Change). w.tick ≤ tick + lag) sorted → All (λ (d : Change). d.tick ≤ tick) (take place sorted))
    → IsCut lag waiting (take place sorted) (drop place sorted)
cut_at lag place waiting sorted o early =
    let whole : take place sorted ++ drop place sorted ≡ sorted = take-append-drop place sorted in
    record {
      same = subst (IsPermutation waiting) (sym whole) o.same;
      stable = subst (IsStableByKey tick_of nat_cmp waiting) (sym whole) o.stable;
      rising = IsNonDecreasingBy-take tick_of place sorted o.rising;
      apart = apart_at (take place sorted) (drop place sorted) (subst (IsNonDecreasingBy tick_of) (sym whole) o.rising);
      early = λ tick h. early tick (All-permutation (λ (w : Change). w.tick ≤ tick + lag) waiting sorted o.same h);
    }

-- what lies a lag before the newest or more is due
pub due_early : (lag bound tick k : ℕ) (d : Change) (sorted due : List Change) → k < length sorted → bound ≡ (get_or sorted k d).tick - lag
    → All (λ (x : Change). x.tick ≤ bound) due → All (λ (w : Change). w.tick ≤ tick + lag) sorted → All (λ (x : Change). x.tick ≤ tick) due
due_early lag bound tick k d sorted due within is below h =
    let high : (get_or sorted k d).tick ≤ tick + lag = h k d within in
    All-weaker (λ (x : Change). x.tick ≤ bound) (λ (x : Change). x.tick ≤ tick) (λ x le. omega (arith, le, is, high)) due below
