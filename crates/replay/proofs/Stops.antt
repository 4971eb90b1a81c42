-- The states that are kept, at checkpoints and of late.
use Rattle.std.proofs.Common.{◌≡◌, ℕ, zero, suc, ◌+◌, ◌-◌, ◌*◌, ◌/◌, ◌%◌, ◌<◌, ◌≤◌, List, [], ◌∷◌, ◌++◌, length, take, drop, Option, Some, None, refl, sym, ap, ◌∙◌, subst, ◌⊎◌, ⊎_elim, inl, inr, arith}
use Rattle.std.specs.List.{slice_get}
use Rattle.std.specs.Option.{IfSome, IfNone}
use Rattle.std.proofs.lemmas.Bool.{cases_lt}
use Rattle.std.proofs.lemmas.List.{length-append, take_all}
use Rattle.std.proofs.lemmas.Option.{slice_get_within}
use Rattle.circular_buffer.specs.Buffer.{keep_last}
use Rattle.circular_buffer.proofs.Places.{slice_get-drop, slice_get-last, slice_get-take}
use Rattle.bench_settings.proofs.Lists.{map_at}
use Rattle.replay.specs.declared.checkpoints.Stop.{Stop}
use Rattle.replay.specs.declared.standings.Standing.{Standing}
use Rattle.replay.specs.Tracks.{Pair}
use Rattle.replay.specs.Moves.{IsIn, IsPlayedFromNearest, IsKeptBehind}
use Rattle.replay.specs.Standings.{AreAt, IsStop, AreCheckpoints, AreApart, AreStops, IsNearest, IsNoted, IsStart, StandAt, Has, IsAmong, StopsGain, places_of}
use Rattle.replay.proofs.Lists.{one_of, each_more, each_mapped}

-- ---- checkpoints

pub checkpoints_more : (pairs : List Pair) (channels : List ℕ) (stops : List Stop) (stop : Stop) (n : ℕ) → AreCheckpoints pairs channels stops → length stops ≡ n → stop.place ≡ 64 * n
    → IsStop pairs channels stop → AreCheckpoints pairs channels (stops ++ stop ∷ [])
checkpoints_more pairs channels stops stop n are long place is =
    each_more (λ k (s : Stop). (s.place ≡ 64 * k) × IsStop pairs channels s) stops stop are (place ∙ ap (λ k. 64 * k) (sym long), is)

pub apart : (pairs : List Pair) (channels : List ℕ) (stops : List Stop) → AreCheckpoints pairs channels stops → AreApart stops
apart pairs channels stops are k stop at = (are k stop at).0

-- ---- the latest

-- each of them is such
abbrev pub AreAll : (Stop → Type 0) → List Stop → Type 0
AreAll P stops = (k : ℕ) (stop : Stop) → slice_get stops k ≡ Some stop → P stop

module _ (P : Stop → Type 0) where
  -- one more is kept, and the first is let go where there were as many as may be
  pub kept_more : (stops : List Stop) (stop : Stop) (capacity : ℕ) → AreAll P stops → P stop → AreAll P (keep_last capacity (stops ++ stop ∷ []))
  kept_more stops stop capacity are is k other at =
      let gone : ℕ = length (stops ++ stop ∷ []) - capacity in
      each_more (λ _ (s : Stop). P s) stops stop are is (gone + k) other (sym (slice_get-drop gone (stops ++ stop ∷ []) k (gone + k) refl) ∙ at)

  -- one is taken out in front
  pub others_stay : (stops : List Stop) → AreAll P stops → AreAll P (drop 1 stops)
  others_stay stops are k stop at = are (suc k) stop (sym (slice_get-drop 1 stops k (suc k) (omega arith)) ∙ at)

pub among_last : (stops : List Stop) (stop : Stop) (capacity : ℕ) → 0 < capacity → IsAmong (keep_last capacity (stops ++ stop ∷ [])) stop
among_last stops stop capacity some =
    let gone : ℕ = length (stops ++ stop ∷ []) - capacity in
    let long : length (stops ++ stop ∷ []) ≡ length stops + 1 = length-append stops (stop ∷ []) in (
      length stops - gone,
      slice_get-drop gone (stops ++ stop ∷ []) (length stops - gone) (length stops) (omega (arith, long, some))
          ∙ slice_get-last stops stop (length stops) refl,
    )

module _ (pairs : List Pair) (channels : List ℕ) where
  -- where they stand, if it is known
  pub stands_there : (at : Option ℕ) (all : List Standing) (place there : ℕ) → StandAt pairs channels at all → at ≡ Some place → place ≡ there → AreAt pairs channels there all
  stands_there at all place there stands is same = subst (λ (n : ℕ). AreAt pairs channels n all) same (subst (λ (o : Option ℕ). StandAt pairs channels o all) is stands)

-- ---- the nearest

early : (recent : List Stop) (n k : ℕ) (stop : Stop) → slice_get (take n recent) k ≡ Some stop → slice_get recent k ≡ Some stop
early [] n k stop at = sym (ap (λ (xs : List Stop). slice_get xs k) (take_none n)) ∙ at
  where
    take_none : (n : ℕ) → take n (let none : List Stop = [] in none) ≡ []
    take_none zero = refl
    take_none (suc n) = refl
early (x ∷ xs) zero k stop at = absurd cc
early (x ∷ xs) (suc n) zero stop at = at
early (x ∷ xs) (suc n) (suc k) stop at = early xs n k stop at

module _ (checkpoints recent : List Stop) (place : ℕ) where
  pub nearest_begins : (stop : Stop) → slice_get checkpoints (place / 64) ≡ Some stop → AreApart checkpoints → IsNearest checkpoints (take 0 recent) place stop
  nearest_begins stop at are =
      let here : stop.place ≡ 64 * (place / 64) = are (place / 64) stop at in
      record {
        one = inl (place / 64, at);
        below = omega (arith, here);
        near = omega (arith, here);
        latest = λ k other there le. absurd cc;
      }

  wider : (n : ℕ) (best : Stop) → ((k : ℕ) × (slice_get checkpoints k ≡ Some best)) ⊎ ((k : ℕ) × (slice_get (take n recent) k ≡ Some best))
      → ((k : ℕ) × (slice_get checkpoints k ≡ Some best)) ⊎ ((k : ℕ) × (slice_get (take (n + 1) recent) k ≡ Some best))
  wider n best one = ⊎_elim (λ c. inl c) (λ r. inr (r.0, later r.0 r.1)) one
    where
      later : (k : ℕ) → slice_get (take n recent) k ≡ Some best → slice_get (take (n + 1) recent) k ≡ Some best
      later k at =
          let within : k < length (take n recent) = slice_get_within (take n recent) k best at in
          let low : k < n = omega (arith, within, length-take-le' n recent) in
          slice_get-take (n + 1) recent k (omega (arith, low)) ∙ early recent n k best at
        where
          length-take-le' : (m : ℕ) (xs : List Stop) → length (take m xs) ≤ m
          length-take-le' zero xs = omega arith
          length-take-le' (suc m) [] = omega arith
          length-take-le' (suc m) (x ∷ xs) = omega (arith, length-take-le' m xs)

  before_or_at : (n k : ℕ) (other : Stop) → slice_get (take (n + 1) recent) k ≡ Some other → (slice_get (take n recent) k ≡ Some other) ⊎ (slice_get recent n ≡ Some other)
  before_or_at n k other at =
      let there : slice_get recent k ≡ Some other = early recent (n + 1) k other at in
      ⊎_elim
      (λ low. inl (slice_get-take n recent k low ∙ there))
      (λ high. inr (let within : k < length (take (n + 1) recent) = slice_get_within (take (n + 1) recent) k other at in
      let same : k ≡ n = omega (arith, within, short (n + 1) recent, high) in ap (slice_get recent) (sym same) ∙ there))
      (cases_lt k n)
    where
      short : (m : ℕ) (xs : List Stop) → length (take m xs) ≤ m
      short zero xs = omega arith
      short (suc m) [] = omega arith
      short (suc m) (x ∷ xs) = omega (arith, short m xs)

  -- a later one that is not past the place takes its place
  pub nearer : (n : ℕ) (best stop : Stop) → IsNearest checkpoints (take n recent) place best → slice_get recent n ≡ Some stop → best.place < stop.place → stop.place ≤ place
      → IsNearest checkpoints (take (n + 1) recent) place stop
  nearer n best stop is at more le = record {
    one = inr (n, slice_get-take (n + 1) recent n (omega arith) ∙ at);
    below = le;
    near = omega (arith, is.near, more);
    latest = λ k other there low.
        ⊎_elim
        (λ earlier. omega (arith, is.latest k other earlier low, more))
        (λ here. let same : stop ≡ other = one_of stop other (sym at ∙ here) in omega (arith, ap (λ (s : Stop). s.place) same))
        (before_or_at n k other there);
  }

  -- and one that is past it, or not later, does not
  pub not_nearer : (n : ℕ) (best stop : Stop) → IsNearest checkpoints (take n recent) place best → slice_get recent n ≡ Some stop → (stop.place ≤ place → stop.place ≤ best.place)
      → IsNearest checkpoints (take (n + 1) recent) place best
  not_nearer n best stop is at not = record {
    one = wider n best is.one;
    below = is.below;
    near = is.near;
    latest = λ k other there low.
        ⊎_elim
        (λ earlier. is.latest k other earlier low)
        (λ here. let same : stop ≡ other = one_of stop other (sym at ∙ here) in
        let not_more : stop.place ≤ best.place = not (omega (arith, ap (λ (s : Stop). s.place) same, low)) in omega (arith, not_more, ap (λ (s : Stop). s.place) same))
        (before_or_at n k other there);
  }

  pub nearest_of_all : (n : ℕ) (best : Stop) → IsNearest checkpoints (take n recent) place best → length recent ≤ n → IsNearest checkpoints recent place best
  nearest_of_all n best is le = subst (λ (xs : List Stop). IsNearest checkpoints xs place best) (take_all n recent le) is

-- ---- where a move begins to play

placed_in : (stops : List Stop) (k : ℕ) (stop : Stop) → slice_get stops k ≡ Some stop → IsIn (places_of stops) stop.place
placed_in stops k stop at = (k, map_at (λ (s : Stop). s.place) stops k stop at)

-- none that is kept and not past the end is behind the nearest
none_nearer : (checkpoints recent : List Stop) (to : ℕ) (stop : Stop) → IsNearest checkpoints recent to stop → (place : ℕ) → IsIn (places_of recent) place → place ≤ to → place ≤ stop.place
none_nearer checkpoints recent to stop is place kept =
    each_mapped (λ (s : Stop). s.place) (λ _ (n : ℕ). n ≤ to → n ≤ stop.place) recent is.latest kept.0 place kept.1

-- from the place itself, where it is not past the end and none that is kept is nearer
pub starts_there : (checkpoints recent : List Stop) (from to : ℕ) (stop : Stop) → IsNearest checkpoints recent to stop → stop.place ≤ from → from ≤ to → IsStart (places_of recent) from to from
starts_there checkpoints recent from to stop is not_nearer le = record {
  at_hand = inr (inl refl);
  within = le;
  round = omega (arith, is.near, not_nearer);
  begun = λ _. omega arith;
  nearest = λ place kept low. omega (arith, none_nearer checkpoints recent to stop is place kept low, not_nearer);
}

-- else from the nearest that is kept
pub starts_nearest : (checkpoints recent : List Stop) (from to : ℕ) (stop : Stop) → AreApart checkpoints → IsNearest checkpoints recent to stop → (from ≤ to → from ≤ stop.place)
    → IsStart (places_of recent) from to stop.place
starts_nearest checkpoints recent from to stop apart is begun = record {
  at_hand =
      ⊎_elim
      (λ c. inl (let here : stop.place ≡ 64 * c.0 = apart c.0 stop c.1 in omega (arith, here)))
      (λ r. inr (inr (placed_in recent r.0 stop r.1)))
      is.one;
  within = is.below;
  round = is.near;
  begun = begun;
  nearest = none_nearer checkpoints recent to stop is;
}

-- so many messages are played from there
pub played_from : (kept : List ℕ) (from to start : ℕ) → IsStart kept from to start → IsPlayedFromNearest kept from to (to - start)
played_from kept from to start is = record {
  start = start;
  count = omega (arith, is.within);
  at_hand = is.at_hand;
  round = omega (arith, is.round, is.within);
  begun = is.begun;
  nearest = is.nearest;
}

-- ---- what is kept behind a move

pub gained : (pairs : List Pair) (channels : List ℕ) (old new : List Stop) (saved : Option Stop) → StopsGain old saved new → AreStops pairs channels old → IfSome saved (IsStop pairs channels)
    → AreStops pairs channels new
gained pairs channels old new saved gain are is k stop at =
    ⊎_elim
    (λ o. are o.0 stop o.1)
    (λ (s : saved ≡ Some stop). subst (λ (x : Option Stop). IfSome x (IsStop pairs channels)) s is)
    (gain k stop at)

pub kept_behind : (from : ℕ) (old new : List Stop) (saved : Option Stop) → StopsGain old saved new → IfSome saved (IsAmong new) → IfSome saved (λ stop. stop.place ≡ from) → IfNone saved (IsNoted old from)
    → IsKeptBehind from (places_of old) (places_of new)
kept_behind from old new saved gain kept place noted = record {
  begun = begun saved kept place noted;
  others = λ p there. each_mapped (λ (s : Stop). s.place) (λ _ (n : ℕ). (n ≡ from) ⊎ IsIn (places_of old) n) new
      (λ k stop at.
      ⊎_elim
      (λ o. inr (placed_in old o.0 stop o.1))
      (λ (s : saved ≡ Some stop). inl (subst (λ (x : Option Stop). IfSome x (λ (y : Stop). y.place ≡ from)) s place))
      (gain k stop at))
      there.0 p there.1;
}
  where
    begun : (saved : Option Stop) → IfSome saved (IsAmong new) → IfSome saved (λ stop. stop.place ≡ from) → IfNone saved (IsNoted old from)
        → (from % 64 ≡ 0) ⊎ (IsIn (places_of old) from ⊎ IsIn (places_of new) from)
    begun (Some stop) kept place noted = inr (inr (subst (IsIn (places_of new)) place (placed_in new kept.0 stop kept.1)))
    begun None kept place noted =
        ⊎_elim
        (λ (round : from % 64 ≡ 0). inl round)
        (λ (has : Has old from). inr (inl (subst (IsIn (places_of old)) has.place_is (placed_in old has.at has.stop has.there))))
        noted
