-- What a head stands for.
use Rattle.std.proofs.Common.{◌≡◌, ◌⊎◌, inl, inr, ℕ, zero, suc, ◌+◌, ◌-◌, ◌<◌, ◌≤◌, Bool, cond, eqb, ltb, List, [], ◌∷◌, ◌++◌, length, map, drop, get_or, slice_get, Option, None, Some, MatchOption, Result, Ok, Err, refl, sym, ap, subst, ◌∙◌, append-nil, arith}
use Rattle.std.proofs.lemmas.Bool.{lt-ltb, le-ltb, cases_eq, cases_lt}
use Rattle.std.proofs.lemmas.List.{drop_all, get_or_default}
use Rattle.std.proofs.lemmas.List.Elements.{filter-append}
use Rattle.std.proofs.lemmas.Option.{slice_get_within}
use Rattle.std.specs.Result.{OnOk}
use Rattle.std.specs.Io.KnownBytes.{Appends}
use Rattle.bench_complete.specs.declared.placed.Placed.{Placed}
use Rattle.bench_complete.specs.declared.head.Head.{Head}
use Rattle.bench_complete.specs.declared.head.Source.{Source}
use Rattle.bench_complete.specs.declared.head.Source.TheVariants.{Recorded, Time}
use Rattle.bench_complete.specs.declared.times.Times.{Times}
use Rattle.bench_complete.specs.Pieces.{Piece, kept_entries}
use Rattle.bench_complete.specs.Merging.{of_channel}
use Rattle.bench_complete.specs.TimePackets.{time_piece, times_from, times_in}
use Rattle.bench_complete.specs.Lanes.{lane, piece_in, IsNext, AreLinked, IsRecordedHead, IsTimed, IsFrom, IsThere, Stands, Follows, Pushes, AreHeads, begun, parts_of, steps, steps_by}
use Rattle.bench_complete.proofs.Merged.{of_channel-same, of_channel-other}
use Rattle.bench_complete.proofs.Linked.{split_at, lane_same, lane_is}
use Rattle.bench_complete.proofs.Heads.{no_heads, same_heads, adds}

-- ---- packets of a recording

pub stands_recorded : (file : List ℕ) (es : List Placed) (t : Times) (channel i place : ℕ) (h : Head) → IsNext es channel i place → IsRecordedHead es place h
    → (h.channel ≡ channel) × Stands file es t h (map (piece_in file) (lane channel (drop i es)))
stands_recorded file es t channel i place h n r =
    let e : Placed = r.entry in
    let at = n.there e r.there in
    let own : h.channel ≡ channel = r.channel ∙ at.1 in
    let lanes : lane channel (drop i es) ≡ e ∷ lane channel (drop (suc place) es) =
    n.same ∙ ap (lane channel) (split_at es place e r.there) ∙ lane_same channel e (drop (suc place) es) at.0 at.1 in (
      own,
      record {
        first = piece_in file e;
        others = map (piece_in file) (lane channel (drop (suc place) es));
        is = ap (map (piece_in file)) lanes;
        ahead = record { counter = r.counter; turn = r.turn; channel = r.channel };
        from = subst (λ (s : Source). IsFrom file es t h.channel s (piece_in file e) (map (piece_in file) (lane channel (drop (suc place) es)))) (sym r.source)
            (e, r.there, at.0, refl, ap (λ (k : ℕ). map (piece_in file) (lane k (drop (suc place) es))) (sym own));
      },
    )

pub no_next : (es : List Placed) (channel i place : ℕ) → IsNext es channel i place → length es ≤ place → lane channel (drop i es) ≡ []
no_next es channel i place n le = n.same ∙ ap (lane channel) (drop_all place es le)

-- ---- time packets

module _ (t : Times) where
  times_on : (count second : ℕ) → of_channel t.channel (times_from t count second) ≡ times_from t count second
  times_on zero second = refl
  times_on (suc count) second =
      of_channel-same t.channel (time_piece t second) (times_from t count (second + 1)) refl ∙ ap (λ (l : List Piece). time_piece t second ∷ l) (times_on count (second + 1))

  times_off : (channel : ℕ) → (t.channel ≡ channel → ⊥) → (count second : ℕ) → of_channel channel (times_from t count second) ≡ []
  times_off channel ne zero second = refl
  times_off channel ne (suc count) second =
      of_channel-other channel (time_piece t second) (times_from t count (second + 1)) ne ∙ times_off channel ne count (second + 1)

pub stands_timed : (file : List ℕ) (es : List Placed) (t : Times) (second : ℕ) (h : Head) → t.first ≤ second → IsTimed t second h → Stands file es t h (times_from t (t.end - second) second)
stands_timed file es t second h low r =
    let count : t.end - second ≡ suc (t.end - (second + 1)) = omega (arith, r.within) in
    record {
      first = time_piece t second;
      others = times_from t (t.end - (second + 1)) (second + 1);
      is = ap (λ (k : ℕ). times_from t k second) count;
      ahead = record { counter = r.counter; turn = r.turn; channel = r.channel };
      from = subst (λ (s : Source). IsFrom file es t h.channel s (time_piece t second) (times_from t (t.end - (second + 1)) (second + 1))) (sym r.source) (low, r.within, refl, refl);
    }

-- ---- what follows

get_or_there : (es : List Placed) (place : ℕ) (e other : Placed) → slice_get es place ≡ Some e → get_or es place other ≡ e
get_or_there [] place e other is = absurd (cc)
get_or_there (x ∷ es) zero e other is = cc
get_or_there (x ∷ es) (suc place) e other is = get_or_there es place e other is

front : (file : List ℕ) (es : List Placed) (t : Times) (h : Head) (s : Source) (p : Piece) (ps : List Piece) → h.source ≡ s → (z : Stands file es t h (p ∷ ps)) → IsFrom file es t h.channel s p ps
front file es t h s p ps e z =
    let one : z.first ≡ p = cc in
    let others : z.others ≡ ps = cc in
    subst (λ (x : Source). IsFrom file es t h.channel x p ps) e (subst (λ (l : List Piece). IsFrom file es t h.channel h.source p l) others
    (subst (λ (q : Piece). IsFrom file es t h.channel h.source q z.others) one z.from))

front_channel : (file : List ℕ) (es : List Placed) (t : Times) (h : Head) (p : Piece) (ps : List Piece) → (z : Stands file es t h (p ∷ ps)) → h.channel ≡ p.header.channel
front_channel file es t h p ps z =
    let one : z.first ≡ p = cc in
    z.ahead.channel ∙ ap (λ (q : Piece). q.header.channel) one

module _ (file : List ℕ) (es : List Placed) (t : Times) (first next : List ℕ) (links : AreLinked es 0 first next) where
  next_of : (h : Head) (place : ℕ) (p : Piece) (ps : List Piece) → h.source ≡ Recorded place → Stands file es t h (p ∷ ps)
      → IsNext es h.channel (suc place) (get_or next place 0) × (place < length es) × (ps ≡ map (piece_in file) (lane h.channel (drop (suc place) es)))
  next_of h place p ps e z =
      let (entry, there, over, is, others) = front file es t h (Recorded place) p ps e z in
      let own : entry.header.channel ≡ h.channel = sym (front_channel file es t h p ps z ∙ ap (λ (q : Piece). q.header.channel) is) in
      (subst (λ (k : ℕ). IsNext es k (suc place) (get_or next place 0)) own (links.next_is place entry (omega arith) there over), slice_get_within es place entry there, others)

  pub follows_recorded : (h : Head) (place : ℕ) (rest : List Piece) (r : Option Head) → h.source ≡ Recorded place → Stands file es t h rest
      → MatchOption r (length es ≤ get_or next place 0) (IsRecordedHead es (get_or next place 0)) → Follows file es t h r
  follows_recorded h place rest None e stands m = λ p ps z.
      let n = next_of h place p ps e z in
      n.2 ∙ ap (map (piece_in file)) (no_next es h.channel (suc place) (get_or next place 0) n.0 m)
  follows_recorded h place rest (Some x) e stands m =
      let here : Stands file es t h (stands.first ∷ stands.others) = subst (Stands file es t h) stands.is stands in
      let n = next_of h place stands.first stands.others e here in
      let at = stands_recorded file es t h.channel (suc place) (get_or next place 0) x n.0 m in
      let within = slice_get_within es (get_or next place 0) m.entry m.there in
      let fewer : length es - get_or next place 0 < length es - place = omega (arith, n.0.order, n.1, within) in (
        at.0,
        subst (λ (s : Source). steps_by es t s < steps es t h) (sym m.source) (subst (λ (s : Source). length es - get_or next place 0 < steps_by es t s) (sym e) fewer),
        λ p ps z. subst (Stands file es t x) (sym (next_of h place p ps e z).2) at.1,
      )

  pub follows_at : (h : Head) (place : ℕ) (rest : List Piece) (r : Option Head) (at : ℕ) → h.source ≡ Recorded place → Stands file es t h rest → at ≡ get_or next place at
      → MatchOption r (length es ≤ at) (IsRecordedHead es at) → Follows file es t h r
  follows_at h place rest r at e stands is m =
      let here : Stands file es t h (stands.first ∷ stands.others) = subst (Stands file es t h) stands.is stands in
      let n = next_of h place stands.first stands.others e here in
      let same : at ≡ get_or next place 0 = is ∙ get_or_default next place at 0 (omega (arith, n.1, links.places)) in
      follows_recorded h place rest r e stands (subst (λ (k : ℕ). MatchOption r (length es ≤ k) (IsRecordedHead es k)) same m)

module _ (file : List ℕ) (es : List Placed) (t : Times) (h : Head) where
  -- a head stands for a packet of the recording, or for a time packet
  from_source : (s : Source) (rest : List Piece) → h.source ≡ s → (z : Stands file es t h rest) → IsFrom file es t h.channel s z.first z.others
  from_source s rest e z = subst (λ (x : Source). IsFrom file es t h.channel x z.first z.others) e z.from

  there_by : (s : Source) (rest : List Piece) → h.source ≡ s → Stands file es t h rest → IsThere es t s
  there_by (Recorded place) rest e z = let f = from_source (Recorded place) rest e z in slice_get_within es place f.0 f.1
  there_by (Time second) rest e z = let (low, within, is, others) = from_source (Time second) rest e z in (low, within)

  pub is_there : (rest : List Piece) → Stands file es t h rest → IsThere es t h.source
  is_there rest z = there_by h.source rest refl z

  -- the packet of a head
  own_recorded : (place : ℕ) (other : Placed) (p : Piece) (ps : List Piece) → h.source ≡ Recorded place → Stands file es t h (p ∷ ps) → p ≡ piece_in file (get_or es place other)
  own_recorded place other p ps e z =
      let (entry, there, over, is, others) = front file es t h (Recorded place) p ps e z in
      is ∙ ap (piece_in file) (sym (get_or_there es place entry other there))

  pub follows_timed : (second : ℕ) (rest : List Piece) (r : Option Head) → h.source ≡ Time second → Stands file es t h rest → MatchOption r (t.end ≤ second + 1) (IsTimed t (second + 1)) → Follows file es t h r
  follows_timed second rest None e z m = λ p ps y.
      let (low, within, is, others) = front file es t h (Time second) p ps e y in
      let none : t.end - (second + 1) ≡ 0 = omega (arith, m) in
      others ∙ ap (λ (k : ℕ). times_from t k (second + 1)) none
  follows_timed second rest (Some x) e z m =
      let (low, within, is, behind) = from_source (Time second) rest e z in
      let fewer : t.end - (second + 1) < t.end - second = omega (arith, within) in (
        m.channel ∙ sym (z.ahead.channel ∙ ap (λ (q : Piece). q.header.channel) is),
        subst (λ (s : Source). steps_by es t s < steps es t h) (sym m.source) (subst (λ (s : Source). t.end - (second + 1) < steps_by es t s) (sym e) fewer),
        λ p ps y.
            let (low, within, is, others) = front file es t h (Time second) p ps e y in
            subst (Stands file es t x) (sym others) (stands_timed file es t (second + 1) x (omega (arith, low)) m),
      )

-- what was written of a packet of the recording is what its head stands for
pub own_written : {E : Type 0} (r : Result (Unit {0}) E) (es : List Placed) (t : Times) (h : Head) (place : ℕ) (other : Placed) (known got gets : Option (List ℕ)) → h.source ≡ Recorded place
    → OnOk r ((file : List ℕ) → known ≡ Some file → Appends got gets (piece_in file (get_or es place other)).bytes)
    → OnOk r ((file : List ℕ) → known ≡ Some file → (p : Piece) (ps : List Piece) → Stands file es t h (p ∷ ps) → Appends got gets p.bytes)
own_written (Ok u) es t h place other known got gets e w = λ file is p ps z. subst (λ (q : Piece). Appends got gets q.bytes) (sym (own_recorded file es t h place other p ps e z)) (w file is)
own_written (Err f) es t h place other known got gets e w = w

-- a head has a step left
pub some_step : (file : List ℕ) (es : List Placed) (t : Times) (h : Head) (s : Source) (rest : List Piece) → h.source ≡ s → Stands file es t h rest → 0 < steps es t h
some_step file es t h (Recorded place) rest e stands =
    let within = there_by file es t h (Recorded place) rest e stands in
    subst (λ (x : Source). 0 < steps_by es t x) (sym e) (omega (arith, within))
some_step file es t h (Time second) rest e stands =
    let within = there_by file es t h (Time second) rest e stands in
    subst (λ (x : Source). 0 < steps_by es t x) (sym e) (omega (arith, within.1))

-- ---- the first heads

pub time_heads : (file : List ℕ) (es : List Placed) (t : Times) (r : Option Head) (new : List Head) → MatchOption r (t.end ≤ t.first) (IsTimed t t.first) → Pushes r [] new → AreHeads file es t new (begun file es t 0)
time_heads file es t None new m p =
    let none : t.end - t.first ≡ 0 = omega (arith, m) in
    let nothing : times_in t ≡ [] = ap (λ (k : ℕ). times_from t k t.first) none in
    subst (λ (l : List Head). AreHeads file es t l (begun file es t 0)) (sym p) (same_heads file es t [] (λ _. []) (begun file es t 0)
    (λ k. sym (ap (λ (l : List Piece). of_channel k l ++ cond (ltb k 0) (of_channel k (kept_entries file es)) []) nothing ∙ ap (λ (b : Bool). cond b (of_channel k (kept_entries file es)) []) (le-ltb k 0 (omega arith)))) (no_heads file es t))
time_heads file es t (Some h) new m p =
    let none : (k : ℕ) → cond (ltb k 0) (of_channel k (kept_entries file es)) [] ≡ [] = λ k. ap (λ (b : Bool). cond b (of_channel k (kept_entries file es)) []) (le-ltb k 0 (omega arith)) in
    let own : begun file es t 0 t.channel ≡ times_in t = ap (λ (l : List Piece). of_channel t.channel (times_in t) ++ l) (none t.channel) ∙ append-nil (of_channel t.channel (times_in t)) ∙ times_on t (t.end - t.first) t.first in
    adds file es t [] new h (λ _. []) (begun file es t 0) (no_heads file es t) refl
    (λ k ne. sym (ap (λ (l : List Piece). of_channel k (times_in t) ++ l) (none k) ∙ append-nil (of_channel k (times_in t)) ∙ times_off t k (λ e. ne (sym e ∙ sym m.channel)) (t.end - t.first) t.first))
    (subst (Stands file es t h) (sym (ap (begun file es t 0) m.channel ∙ own)) (stands_timed file es t t.first h (omega arith) m)) p

module _ (file : List ℕ) (es : List Placed) (t : Times) where
  -- the channel itself comes in, and the others stay
  begun_more : (channel k : ℕ) → (k ≡ channel → ⊥) → begun file es t channel k ≡ begun file es t (channel + 1) k
  begun_more channel k ne = ap (λ (b : Bool). of_channel k (times_in t) ++ cond b (of_channel k (kept_entries file es)) []) (elim (cases_lt k channel) [
    | inl lt ↦ lt-ltb k channel lt ∙ sym (lt-ltb k (channel + 1) (omega (arith, lt)))
    | inr le ↦ le-ltb k channel le ∙ sym (le-ltb k (channel + 1) (omega (arith, le, ne)))
  ])

  begun_before : (channel : ℕ) → begun file es t channel channel ≡ of_channel channel (times_in t)
  begun_before channel = ap (λ (b : Bool). of_channel channel (times_in t) ++ cond b (of_channel channel (kept_entries file es)) []) (le-ltb channel channel (omega arith)) ∙ append-nil (of_channel channel (times_in t))

  begun_with : (channel : ℕ) → begun file es t (channel + 1) channel ≡ of_channel channel (times_in t) ++ map (piece_in file) (lane channel es)
  begun_with channel =
      ap (λ (b : Bool). of_channel channel (times_in t) ++ cond b (of_channel channel (kept_entries file es)) []) (lt-ltb channel (channel + 1) (omega arith))
      ∙ ap (λ (l : List Piece). of_channel channel (times_in t) ++ l) (lane_is file channel es)

  -- a channel of the recording has no time packets
  no_times : (first : ℕ) (channel : ℕ) (p : Piece) (ps : List Piece) → (t.first < t.end → of_channel t.channel (kept_entries file es) ≡ []) → map (piece_in file) (lane channel es) ≡ p ∷ ps
      → (t.channel ≡ channel) ⊎ (t.channel ≡ channel → ⊥) → (t.first < t.end) ⊎ (t.end ≤ t.first) → of_channel channel (times_in t) ≡ []
  no_times first channel p ps free is (inr ne) times = times_off t channel ne (t.end - t.first) t.first
  no_times first channel p ps free is (inl same) (inl some) =
      let none : map (piece_in file) (lane channel es) ≡ [] = sym (lane_is file channel es) ∙ ap (λ (k : ℕ). of_channel k (kept_entries file es)) (sym same) ∙ free some in
      absurd (cc)
  no_times first channel p ps free is (inl same) (inr none) =
      let count : t.end - t.first ≡ 0 = omega (arith, none) in
      ap (λ (k : ℕ). of_channel channel (times_from t k t.first)) count

  pub channel_heads : (channel place : ℕ) (r : Option Head) (heads new : List Head) → (t.first < t.end → of_channel t.channel (kept_entries file es) ≡ []) → IsNext es channel 0 place
      → MatchOption r (length es ≤ place) (IsRecordedHead es place) → Pushes r heads new → AreHeads file es t heads (begun file es t channel) → AreHeads file es t new (begun file es t (channel + 1))
  channel_heads channel place None heads new free n m p a =
      let none : lane channel es ≡ [] = no_next es channel 0 place n m in
      let same : begun file es t channel channel ≡ begun file es t (channel + 1) channel =
      begun_before channel ∙ sym (begun_with channel ∙ ap (λ (l : List Placed). of_channel channel (times_in t) ++ map (piece_in file) l) none ∙ append-nil (of_channel channel (times_in t))) in
      subst (λ (l : List Head). AreHeads file es t l (begun file es t (channel + 1))) (sym p) (same_heads file es t heads (begun file es t channel) (begun file es t (channel + 1))
      (λ k. elim (cases_eq k channel) [ inl is ↦ ap (begun file es t channel) is ∙ same ∙ ap (begun file es t (channel + 1)) (sym is) | inr ne ↦ begun_more channel k ne ]) a)
  channel_heads channel place (Some h) heads new free n m p a =
      let (own, stands) = stands_recorded file es t channel 0 place h n m in
      let none : of_channel channel (times_in t) ≡ [] = no_times 0 channel stands.first stands.others free stands.is (cases_eq t.channel channel) (cases_lt t.first t.end) in
      let left : begun file es t channel h.channel ≡ [] = ap (begun file es t channel) own ∙ begun_before channel ∙ none in
      let more : begun file es t (channel + 1) h.channel ≡ map (piece_in file) (lane channel es) =
      ap (begun file es t (channel + 1)) own ∙ begun_with channel ∙ ap (λ (l : List Piece). l ++ map (piece_in file) (lane channel es)) none in
      adds file es t heads new h (begun file es t channel) (begun file es t (channel + 1)) a left
      (λ k ne. begun_more channel k (λ e. ne (e ∙ sym own))) (subst (Stands file es t h) (sym more) stands) p

  pub all_heads : (heads : List Head) (first next : List ℕ) → AreLinked es 0 first next → AreHeads file es t heads (begun file es t 65536) → AreHeads file es t heads (λ k. of_channel k (parts_of file es t))
  all_heads heads first next links a = same_heads file es t heads (begun file es t 65536) (λ k. of_channel k (parts_of file es t))
      (λ k. elim (cases_lt k 65536) [
        | inl lt ↦ ap (λ (b : Bool). of_channel k (times_in t) ++ cond b (of_channel k (kept_entries file es)) []) (lt-ltb k 65536 lt) ∙ sym (both k)
        | inr le ↦ ap (λ (b : Bool). of_channel k (times_in t) ++ cond b (of_channel k (kept_entries file es)) []) (le-ltb k 65536 le)
            ∙ ap (λ (l : List Piece). of_channel k (times_in t) ++ l) (sym (lane_is file k es ∙ ap (map (piece_in file)) (links.beyond k le))) ∙ sym (both k)
      ]) a
    where
      both : (k : ℕ) → of_channel k (parts_of file es t) ≡ of_channel k (times_in t) ++ of_channel k (kept_entries file es)
      both k = filter-append (λ (p : Piece). eqb p.header.channel k) (times_in t) (kept_entries file es)
