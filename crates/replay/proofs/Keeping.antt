-- The states of a job that are kept at checkpoints while it is played.
use Rattle.std.proofs.Common.{◌≡◌, ℕ, ◌+◌, ◌-◌, ◌*◌, ◌<◌, ◌≤◌, List, [], ◌∷◌, ◌++◌, length, take, drop, min, Some, refl, sym, ap, ◌∙◌, subst, ⊎_elim, arith}
use Rattle.std.specs.List.{slice_get, slice_set, count_by}
use Rattle.std.proofs.lemmas.Bool.{cases_lt}
use Rattle.std.proofs.lemmas.List.{length-append, take_all}
use Rattle.std.proofs.lemmas.Option.{slice_get_within}
use Rattle.circular_buffer.proofs.Places.{slice_get-append_left, slice_get-last, slice_get-set_other}
use Rattle.replay.specs.declared.standings.Standing.{Standing}
use Rattle.replay.specs.declared.standings.Kept.{Kept}
use Rattle.replay.specs.declared.checkpoints.Stop.{Stop}
use Rattle.replay.specs.declared.checkpoints.Due.{Due}
use Rattle.replay.specs.Finding.{count_to}
use Rattle.replay.specs.Tracks.{Pair}
use Rattle.replay.specs.Standings.{IsAt, AreKept, IsStop, AreCheckpoints, saved_of}
use Rattle.replay.specs.Keeping.{AreStatesKeptTo, IsBehind, IsCounted, IsDue, KeepsMoreStates, AddsStates}
use Rattle.replay.proofs.Counting.{is_of}
use Rattle.replay.proofs.Lists.{one_of, each_more, each_set}
use Rattle.replay.proofs.Standing.{heard_on}

-- ---- the state of one job more

module _ (before : List Pair) (p : Pair) (channels : List ℕ) where
  -- at one place
  more_there : (place : ℕ) (states : List Kept) (k : Kept) → AreKept before channels place states → IsAt channels place p k.heard k.saved
      → AreKept (before ++ p ∷ []) channels place (states ++ k ∷ [])
  more_there place states k are at = record {
    long = length-append states (k ∷ []) ∙ ap (λ (n : ℕ). n + 1) are.long ∙ sym (length-append before (p ∷ []));
    each = λ i q x pair there.
        each_more (λ n (y : Kept). (o : Pair) → slice_get (before ++ p ∷ []) n ≡ Some o → IsAt channels place o y.heard y.saved) states k
        (λ n y at_y o at_o.
        let within : n < length before = omega (arith, slice_get_within states n y at_y, are.long) in
        are.each n o y (sym (slice_get-append_left before (p ∷ []) n within) ∙ at_o) at_y)
        (λ o at_o. subst (λ (v : Pair). IsAt channels place v k.heard k.saved) (one_of p o (sym (slice_get-last before p (length states) are.long) ∙ at_o)) at)
        i x there q pair;
  }

  pub keeping_begins : (stops : List Stop) → AreCheckpoints before channels stops → AreStatesKeptTo before p channels 0 stops
  keeping_begins stops are = record {
    kept = λ k stop less at. absurd (omega (arith, less));
    left = λ k stop le at. are k stop at;
  }

  -- at one place more
  pub keeps_one : (n : ℕ) (stops : List Stop) (stop new : Stop) (k : Kept) → AreStatesKeptTo before p channels n stops → slice_get stops n ≡ Some stop → new.place ≡ stop.place
      → new.states.items ≡ stop.states.items ++ k ∷ [] → IsAt channels (64 * n) p k.heard k.saved → AreStatesKeptTo before p channels (n + 1) (slice_set stops n new)
  keeps_one n stops stop new k are there place states at = record {
    kept = λ i s low at_i.
        each_set (λ x (y : Stop). x < n + 1 → (y.place ≡ 64 * x) × IsStop (before ++ p ∷ []) channels y) stops n new less
        (λ small. (place ∙ here.0, now))
        (λ x y other at_y small. are.kept x y (let smaller : x < n = ⊎_elim (λ l. l) (λ over. absurd (other (let e : x ≡ n = omega (arith, over, small) in e))) (cases_lt x n) in smaller) at_y)
        i s at_i low;
    left = λ i s high at_i.
        are.left i s (omega (arith, high)) (sym (slice_get-set_other stops n i new (λ e. absurd (omega (arith, e, high)))) ∙ at_i);
  }
    where
      less : n < length stops
      less = slice_get_within stops n stop there

      here : (stop.place ≡ 64 * n) × IsStop before channels stop
      here = are.left n stop (omega arith) there

      now : IsStop (before ++ p ∷ []) channels new
      now =
          subst (λ (at_place : ℕ). AreKept (before ++ p ∷ []) channels at_place new.states.items) (sym place)
          (subst (AreKept (before ++ p ∷ []) channels stop.place) (sym states)
          (more_there stop.place stop.states.items k here.1 (subst (λ (at_place : ℕ). IsAt channels at_place p k.heard k.saved) (sym here.0) at)))

  -- at all of them
  pub keeping_ends : (done : ℕ) (stops : List Stop) → AreStatesKeptTo before p channels done stops → length stops ≤ done → AreCheckpoints (before ++ p ∷ []) channels stops
  keeping_ends done stops are le k stop at =
      are.kept k stop (let within : k < length stops = slice_get_within stops k stop at in omega (arith, within, le)) at

-- the jobs so far are one more
pub adds_more : (channels : List ℕ) (pairs more : List Pair) (own p : Pair) (old new : List Stop) → AddsStates own channels old new → AreCheckpoints pairs channels old → more ≡ pairs ++ p ∷ []
    → p ≡ own → AreCheckpoints more channels new
adds_more channels pairs more own p old new adds are pushed same =
    subst (λ (ps : List Pair). AreCheckpoints ps channels new) (sym pushed)
    (subst (λ (q : Pair). AreCheckpoints (pairs ++ q ∷ []) channels new) (sym same) (adds pairs are))

-- ---- the state that is due

-- messages past the end are not there
count_short : (cs : List ℕ) (n to c : ℕ) → to ≡ min n (length cs) → count_to cs to c ≡ count_to cs n c
count_short cs n to c is =
    ⊎_elim
    (λ less. let same : to ≡ n = omega (arith, is, less) in ap (λ (k : ℕ). count_to cs k c) same)
    (λ le. ap (count_by (is_of c)) (take_all to cs (omega (arith, is, le)) ∙ sym (take_all n cs le)))
    (cases_lt n (length cs))

-- so many messages of the channel stand before the next place
pub counts_on : (due : Due) (channels : List ℕ) (to more : ℕ) → IsCounted channels due → 64 * due.stop ≤ length channels → to ≡ min (64 * due.stop + 64) (length channels)
    → more ≡ count_by (is_of due.channel) (take (to - 64 * due.stop) (drop (64 * due.stop) channels)) → due.heard + more ≡ count_to channels (64 * (due.stop + 1)) due.channel
counts_on due channels to more counted within to_is more_is =
    let next : 64 * due.stop + 64 ≡ 64 * (due.stop + 1) = omega arith in
    heard_on due.channel due.channel (64 * due.stop) to due.heard more channels counted more_is refl (omega (arith, to_is, within))
    ∙ count_short channels (64 * due.stop + 64) to due.channel to_is
    ∙ ap (λ (n : ℕ). count_to channels n due.channel) next

-- before any message
pub first_due : (channels : List ℕ) (channel heard count : ℕ) (due : Due) → due ≡ record { channel = channel; stop = 0; heard = 0 } → heard ≡ 0 → IsDue channels due.channel heard count due
first_due channels channel heard count due is none = record {
  channel_is = refl;
  counted = subst (IsCounted channels) (sym is) refl;
  from = λ less. omega (arith, none);
}

pub own_due : (channels : List ℕ) (channel least count : ℕ) (due : Due) → IsDue channels channel least count due → IsDue channels due.channel least count due
own_due channels channel least count due is = record { channel_is = refl; counted = is.counted; from = is.from }

-- a controller behind as many messages as are due stands at that place
at_place : (p : Pair) (channels : List ℕ) (due : Due) (s : Standing) → p.job.channel ≡ due.channel → IsCounted channels due → due.heard ≡ s.heard → IsBehind p s
    → IsAt channels (64 * due.stop) p s.heard s.machine
at_place p channels due s own counted now behind = record {
  heard_is = sym now ∙ counted ∙ ap (λ (c : ℕ). count_to channels (64 * due.stop) c) (sym own);
  there = behind;
}

pub kept_on : (channel : ℕ) (channels : List ℕ) (s : Standing) (first : ℕ) (old stops : List Stop) (due next : Due) (stop new : Stop) (k : Kept)
    → KeepsMoreStates channel channels s first old due.stop stops → IsDue channels channel s.heard (length stops) due → due.heard ≡ s.heard → slice_get stops due.stop ≡ Some stop
    → new.place ≡ stop.place → new.states.items ≡ stop.states.items ++ k ∷ [] → k ≡ saved_of s → next.stop ≡ due.stop + 1
    → KeepsMoreStates channel channels s first old next.stop (slice_set stops due.stop new)
kept_on channel channels s first old stops due next stop new k so_far is now there place states kept more before p own behind are =
    subst (λ (n : ℕ). AreStatesKeptTo before p channels n (slice_set stops due.stop new)) (sym more)
    (keeps_one before p channels due.stop stops stop new k (so_far before p own behind are) there place states
    (subst (λ (v : Kept). IsAt channels (64 * due.stop) p v.heard v.saved) (sym kept) (at_place p channels due s (own ∙ sym is.channel_is) is.counted now behind)))

-- ---- no state

pub none_kept : (channels : List ℕ) (place : ℕ) (states : List Kept) → states ≡ [] → AreKept [] channels place states
none_kept channels place states none = record {
  long = ap length none;
  each = λ i p k pair there. absurd cc;
}
