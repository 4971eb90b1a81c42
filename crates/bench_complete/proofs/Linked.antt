-- For each packet the next one of its channel.
use Rattle.std.proofs.Common.{◌≡◌, ◌⊎◌, inl, inr, ℕ, zero, suc, ◌<◌, ◌≤◌, Bool, true, false, cond, eqb, List, [], ◌∷◌, length, map, drop, get_or, set, replicate, Some, slice_get, refl, sym, ap, subst, ◌∙◌, arith}
use Rattle.std.proofs.lemmas.Bool.{eq-eqb, ne_eqb, cases_eq}
use Rattle.std.proofs.lemmas.List.{drop_all, length-set, length-replicate, get_or-replicate, get_or-set_same, get_or-set_other}
use Rattle.std.proofs.lemmas.Option.{slice_get_within}
use Rattle.bench_complete.specs.declared.placed.Placed.{Placed}
use Rattle.bench_complete.specs.Pieces.{Piece, goes_over, kept_entries}
use Rattle.bench_complete.specs.Merging.{of_channel}
use Rattle.bench_complete.specs.Lanes.{lane, piece_in, IsNext, AreLinked}

-- what a place past the end is read as
abbrev pub no_entry : Placed
no_entry = record {
  offset = 0;
  header = record { channel = 0; packet_length = 0; data_length = 0; version = 0; sequence = 0; flags = 0; kind = 0; counter = 0 };
}

pub split_at : (es : List Placed) (i : ℕ) (e : Placed) → slice_get es i ≡ Some e → drop i es ≡ e ∷ drop (suc i) es
split_at [] i e is = absurd (cc)
split_at (x ∷ xs) zero e is = let same : x ≡ e = cc in ap (λ (y : Placed). y ∷ xs) same
split_at (x ∷ xs) (suc i) e is = split_at xs i e is

pub lane_left : (channel : ℕ) (e : Placed) (es : List Placed) → goes_over e.header ≡ false → lane channel (e ∷ es) ≡ lane channel es
lane_left channel e es over = rw over refl

pub lane_same : (channel : ℕ) (e : Placed) (es : List Placed) → goes_over e.header ≡ true → e.header.channel ≡ channel → lane channel (e ∷ es) ≡ e ∷ lane channel es
lane_same channel e es over is = rw (over, eq-eqb e.header.channel channel is) refl

pub lane_other : (channel : ℕ) (e : Placed) (es : List Placed) → goes_over e.header ≡ true → (e.header.channel ≡ channel → ⊥) → lane channel (e ∷ es) ≡ lane channel es
lane_other channel e es over ne = rw (over, ne_eqb e.header.channel channel ne) refl

-- the packets of a lane
lane_by : (file : List ℕ) (channel : ℕ) (e : Placed) (es : List Placed) (over same : Bool) → of_channel channel (kept_entries file es) ≡ map (piece_in file) (lane channel es)
    → goes_over e.header ≡ over → eqb e.header.channel channel ≡ same → of_channel channel (kept_entries file (e ∷ es)) ≡ map (piece_in file) (lane channel (e ∷ es))
lane_by file channel e es false same behind o s = rw o behind
lane_by file channel e es true false behind o s = rw (o, s) behind
lane_by file channel e es true true behind o s = rw (o, s) (ap (λ (l : List Piece). piece_in file e ∷ l) behind)

pub lane_is : (file : List ℕ) (channel : ℕ) (es : List Placed) → of_channel channel (kept_entries file es) ≡ map (piece_in file) (lane channel es)
lane_is file channel [] = refl
lane_is file channel (e ∷ es) = lane_by file channel e es (goes_over e.header) (eqb e.header.channel channel) (lane_is file channel es) refl refl

-- ---- links

past_the_end : (es : List Placed) (e : Placed) → slice_get es (length es) ≡ Some e → ⊥
past_the_end es e is = let within = slice_get_within es (length es) e is in omega (arith, within)

at_end : (es : List Placed) (channel : ℕ) → IsNext es channel (length es) (length es)
at_end es channel = record { order = omega arith; within = omega arith; same = refl; there = λ e is. absurd (past_the_end es e is) }

pub no_links : (es : List Placed) (first next : List ℕ) → first ≡ replicate 65536 (length es) → next ≡ replicate (length es) (length es) → AreLinked es (length es) first next
no_links es first next f n = record {
  within = omega arith;
  channels = ap length f ∙ length-replicate 65536 (length es);
  places = ap length n ∙ length-replicate (length es) (length es);
  first_is = λ channel lt. subst (IsNext es channel (length es)) (sym (ap (λ (l : List ℕ). get_or l channel 0) f ∙ get_or-replicate 65536 channel (length es) 0 lt)) (at_end es channel);
  next_is = λ i e le is over. let within = slice_get_within es i e is in absurd (omega (arith, within, le));
  beyond = λ channel le. ap (lane channel) (drop_all (length es) es (omega arith));
}

module _ (es : List Placed) (place : ℕ) (e : Placed) (there : slice_get es place ≡ Some e) where
  past : (channel : ℕ) (at : ℕ) → lane channel (drop place es) ≡ lane channel (drop (suc place) es) → IsNext es channel (suc place) at → IsNext es channel place at
  past channel at same n = record { order = omega (arith, n.order); within = n.within; same = same ∙ n.same; there = n.there }

  here : goes_over e.header ≡ true → IsNext es e.header.channel place place
  here over = record {
    order = omega arith;
    within = let within = slice_get_within es place e there in omega (arith, within);
    same = refl;
    there = λ x is. let same : e ≡ x = cc in subst (λ (y : Placed). (goes_over y.header ≡ true) × (y.header.channel ≡ e.header.channel)) same (over, refl);
  }

  -- a packet that is left out changes no link
  pub left_out : (first next : List ℕ) → goes_over e.header ≡ false → AreLinked es (suc place) first next → AreLinked es place first next
  left_out first next over a = record {
    within = omega (arith, a.within);
    channels = a.channels;
    places = a.places;
    first_is = λ channel lt. past channel (get_or first channel 0) (skips channel) (a.first_is channel lt);
    next_is = λ i x le is goes. elim (cases_eq i place) [
      | inl same ↦ absurd (not_here i x same is goes)
      | inr ne ↦ a.next_is i x (omega (arith, le, ne)) is goes
    ];
    beyond = λ channel le. skips channel ∙ a.beyond channel le;
  }
    where
      skips : (channel : ℕ) → lane channel (drop place es) ≡ lane channel (drop (suc place) es)
      skips channel = ap (lane channel) (split_at es place e there) ∙ lane_left channel e (drop (suc place) es) over

      not_here : (i : ℕ) (x : Placed) → i ≡ place → slice_get es i ≡ Some x → goes_over x.header ≡ true → ⊥
      not_here i x same is goes =
          let at : slice_get es place ≡ Some x = ap (slice_get es) (sym same) ∙ is in
          let one : e ≡ x = cc in
          let goes_here : goes_over e.header ≡ true = ap (λ (y : Placed). goes_over y.header) one ∙ goes in
          absurd (cc)

  -- a packet that goes over is linked in front of those of its channel
  pub linked_in : (first next : List ℕ) → goes_over e.header ≡ true → e.header.channel < 65536 → AreLinked es (suc place) first next
      → AreLinked es place (set first e.header.channel place) (set next place (get_or first e.header.channel 0))
  linked_in first next over small a = record {
    within = omega (arith, a.within);
    channels = length-set first e.header.channel place ∙ a.channels;
    places = length-set next place (get_or first e.header.channel 0) ∙ a.places;
    first_is = λ channel lt. first_by channel lt (cases_eq channel e.header.channel);
    next_is = λ i x le is goes. next_by i x le is goes (cases_eq i place);
    beyond = λ channel le. passes channel (λ same. omega (arith, small, le, same)) ∙ a.beyond channel le;
  }
    where
      passes : (channel : ℕ) → (e.header.channel ≡ channel → ⊥) → lane channel (drop place es) ≡ lane channel (drop (suc place) es)
      passes channel ne = ap (lane channel) (split_at es place e there) ∙ lane_other channel e (drop (suc place) es) over ne

      first_by : (channel : ℕ) → channel < 65536 → (channel ≡ e.header.channel) ⊎ (channel ≡ e.header.channel → ⊥) → IsNext es channel place (get_or (set first e.header.channel place) channel 0)
      first_by channel lt (inl same) =
          let at : get_or (set first e.header.channel place) e.header.channel 0 ≡ place = get_or-set_same first e.header.channel place 0 (omega (arith, small, a.channels)) in
          subst (λ (k : ℕ). IsNext es k place (get_or (set first e.header.channel place) k 0)) (sym same) (subst (IsNext es e.header.channel place) (sym at) (here over))
      first_by channel lt (inr ne) =
          subst (IsNext es channel place) (sym (get_or-set_other first e.header.channel channel place 0 ne)) (past channel (get_or first channel 0) (passes channel (λ same. ne (sym same))) (a.first_is channel lt))

      within : place < length es
      within = slice_get_within es place e there

      next_by : (i : ℕ) (x : Placed) → place ≤ i → slice_get es i ≡ Some x → goes_over x.header ≡ true → (i ≡ place) ⊎ (i ≡ place → ⊥)
          → IsNext es x.header.channel (suc i) (get_or (set next place (get_or first e.header.channel 0)) i 0)
      next_by i x le is goes (inl same) =
          let at : get_or (set next place (get_or first e.header.channel 0)) place 0 ≡ get_or first e.header.channel 0 = get_or-set_same next place (get_or first e.header.channel 0) 0 (omega (arith, within, a.places)) in
          let found : slice_get es place ≡ Some x = ap (slice_get es) (sym same) ∙ is in
          let one : e ≡ x = cc in
          subst (λ (k : ℕ). IsNext es x.header.channel (suc k) (get_or (set next place (get_or first e.header.channel 0)) k 0)) (sym same)
          (subst (λ (y : Placed). IsNext es y.header.channel (suc place) (get_or (set next place (get_or first e.header.channel 0)) place 0)) one
          (subst (IsNext es e.header.channel (suc place)) (sym at) (a.first_is e.header.channel small)))
      next_by i x le is goes (inr ne) =
          subst (IsNext es x.header.channel (suc i)) (sym (get_or-set_other next place i (get_or first e.header.channel 0) 0 ne)) (a.next_is i x (omega (arith, le, ne)) is goes)

  by_choice : (first next after behind : List ℕ) (over : Bool) → goes_over e.header ≡ over → e.header.channel < 65536 → AreLinked es (suc place) first next
      → after ≡ cond over (set first e.header.channel place) first → behind ≡ cond over (set next place (get_or first e.header.channel 0)) next → AreLinked es place after behind
  by_choice first next after behind true over small a f n = rw (f, n) (linked_in first next over small a)
  by_choice first next after behind false over small a f n = rw (f, n) (left_out first next over a)

  pub one_linked : (first next after behind : List ℕ) → e.header.channel < 65536 → AreLinked es (suc place) first next
      → after ≡ cond (goes_over e.header) (set first e.header.channel place) first → behind ≡ cond (goes_over e.header) (set next place (get_or first e.header.channel 0)) next
      → AreLinked es place after behind
  one_linked first next after behind small a f n = by_choice first next after behind (goes_over e.header) refl small a f n
