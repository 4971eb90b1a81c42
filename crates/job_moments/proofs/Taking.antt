-- The first line that is due, and what is left where it is taken out.
use Rattle.std.proofs.Common.{◌≡◌, ◌≢◌, ℕ, suc, zero, ◌+◌, ◌<◌, ◌≤◌, Bool, true, false, List, [], ◌∷◌, ◌++◌, length, get_or, set, take, drop, remove, All, refl, sym, ap, subst, ◌∙◌, arith, append_assoc, length-append}
use Rattle.std.specs.Prelude.{Option, Some, None, is_some, slice_get, if◌then◌else◌}
use Rattle.std.specs.List.{flat_map, position}
use Rattle.std.specs.Option.{option_map}
use Rattle.std.proofs.lemmas.List.{get_or_append_left, get_or_at, get_or_default, get_or-set_same, get_or-set_other, length-set, map-append, take-append-drop, drop_more}
use Rattle.std.proofs.lemmas.List.Elements.{All-append, All-map, All-same, All-tail}
use Rattle.job_moments.specs.declared.met.Met.{Met}
use Rattle.job_moments.specs.declared.moments.Moment.{Moment}
use Rattle.job_moments.specs.declared.moments.Moment.TheVariants.{Time}
use Rattle.job_moments.specs.declared.waiting.Pending.{Pending}
use Rattle.job_moments.specs.Awaiting.{awaited, awaited_of, due_of, IsStill, IsFirstAt, IsPicked, Picks}
use Rattle.job_moments.specs.Moments.{is_due}
use Rattle.job_moments.specs.Waits.{Awaited, Waits, first_due, moments_of, given_at, left_at, Taken}
use Rattle.job_moments.proofs.Joined.{all_front, all_rest, all_joined, same_joined}
use Rattle.job_moments.proofs.Lists.{by_place, position_is, position_none, position-map}

-- ---- an item between others

module _ {X : Type 0} where
  position_at : (p : X → Bool) (front : List X) (x : X) (rest : List X)
      → All (λ y. p y ≡ false) front → p x ≡ true → position p (front ++ x ∷ rest) ≡ Some (length front)
  position_at p front x rest before there =
      position_is p (front ++ x ∷ rest) (length front) x (omega (arith, length-append front (x ∷ rest)))
      (λ k lt. subst (λ y. p y ≡ false) (sym (get_or_append_left front (x ∷ rest) x k lt)) (before k x lt))
      (ap p (get_or_at front x rest x (length front) refl) ∙ there)

  slice_at : (front : List X) (x : X) (rest : List X) → slice_get (front ++ x ∷ rest) (length front) ≡ Some x
  slice_at [] x rest = refl
  slice_at (y ∷ ys) x rest = slice_at ys x rest

  remove_at : (front : List X) (x : X) (rest : List X) → remove (front ++ x ∷ rest) (length front) ≡ front ++ rest
  remove_at [] x rest = refl
  remove_at (y ∷ ys) x rest = ap (λ (zs : List X). y ∷ zs) (remove_at ys x rest)

module _ {T : Type 0} where
  pub same_waits : (one other : Waits T) → one.left ≡ other.left → one.made ≡ other.made → one ≡ other
  same_waits one other left made =
      ap (λ (ls : List (Awaited T)). record { left = ls; made = one.made }) left
      ∙ ap (λ (ms : List Met). record { left = other.left; made = ms }) made

  -- ---- by the place of the first

  taken_at : (made : List Met) (next : Met) (front : List (Awaited T)) (one : Awaited T) (rest : List (Awaited T))
      → All (λ (a : Awaited T). is_due made next a.moment ≡ false) front → is_due made next one.moment ≡ true
      → Taken made next (front ++ one ∷ rest) (front ++ rest) (Some one.payload)
  taken_at made next front one rest still due =
      let all = front ++ one ∷ rest in
      let found : first_due made next (moments_of all) ≡ Some (length front) =
      position-map (λ (a : Awaited T). a.moment) (is_due made next) all
      ∙ position_at (λ (a : Awaited T). is_due made next a.moment) front one rest still due in
      record {
        first = sym (ap (λ (o : Option ℕ). given_at o all) found ∙ ap (option_map (λ (a : Awaited T). a.payload)) (slice_at front one rest));
        others = sym (ap (λ (o : Option ℕ). left_at o all) found ∙ remove_at front one rest);
      }

  none_due : (made : List Met) (next : Met) (lines : List (Pending T)) → All (IsStill made next) lines
      → first_due made next (moments_of (awaited_of lines)) ≡ None
  none_due made next lines still =
      let moments : All (λ (m : Moment). is_due made next m ≡ false) (moments_of (awaited_of lines)) =
      All-map (λ (m : Moment). is_due made next m ≡ false) (λ (a : Awaited T). a.moment) (awaited_of lines)
      (All-map (λ (a : Awaited T). is_due made next a.moment ≡ false) awaited lines still) in
      position_none (is_due made next) (moments_of (awaited_of lines)) (Time 0) (λ k lt. moments k (Time 0) lt)

  pub picks_taken : (made : List Met) (next : Met) (old new : List (Pending T)) (given : Option T)
      → Picks made next old new given → Taken made next (awaited_of old) (awaited_of new) given
  picks_taken made next old new None picked =
      let none = none_due made next old picked.0 in
      record {
        first = sym (ap (λ (o : Option ℕ). given_at o (awaited_of old)) none);
        others = ap awaited_of picked.1 ∙ sym (ap (λ (o : Option ℕ). left_at o (awaited_of old)) none);
      }
  picks_taken made next old new (Some payload) p =
      let olds : awaited_of old ≡ awaited_of p.front ++ awaited p.one ∷ awaited_of p.rest =
      ap awaited_of p.old_is ∙ map-append awaited p.front (p.one ∷ p.rest) in
      let news : awaited_of new ≡ awaited_of p.front ++ awaited_of p.rest = ap awaited_of p.new_is ∙ map-append awaited p.front p.rest in
      let still = All-map (λ (a : Awaited T). is_due made next a.moment ≡ false) awaited p.front p.still in
      let taken = taken_at made next (awaited_of p.front) (awaited p.one) (awaited_of p.rest) still p.due in
      record {
        first = ap (λ (t : T). Some t) p.given ∙ taken.first
            ∙ ap (λ (left : List (Awaited T)). given_at (first_due made next (moments_of left)) left) (sym olds);
        others = news ∙ taken.others
            ∙ ap (λ (left : List (Awaited T)). left_at (first_due made next (moments_of left)) left) (sym olds);
      }

  -- ---- among more lines

  picked_behind : (made : List Met) (next : Met) (front old new : List (Pending T)) (payload : T)
      → All (IsStill made next) front → IsPicked made next old new payload
      → IsPicked made next (front ++ old) (front ++ new) payload
  picked_behind made next front old new payload still p = record {
    front = front ++ p.front;
    one = p.one;
    rest = p.rest;
    still = All-append (IsStill made next) front p.front still p.still;
    due = p.due;
    old_is = ap (λ (ls : List (Pending T)). front ++ ls) p.old_is ∙ sym (append_assoc front p.front (p.one ∷ p.rest));
    new_is = ap (λ (ls : List (Pending T)). front ++ ls) p.new_is ∙ sym (append_assoc front p.front p.rest);
    given = p.given;
  }

  picked_before : (made : List Met) (next : Met) (rest old new : List (Pending T)) (payload : T)
      → IsPicked made next old new payload → IsPicked made next (old ++ rest) (new ++ rest) payload
  picked_before made next rest old new payload p = record {
    front = p.front;
    one = p.one;
    rest = p.rest ++ rest;
    still = p.still;
    due = p.due;
    old_is = ap (λ (ls : List (Pending T)). ls ++ rest) p.old_is ∙ append_assoc p.front (p.one ∷ p.rest) rest;
    new_is = ap (λ (ls : List (Pending T)). ls ++ rest) p.new_is ∙ append_assoc p.front p.rest rest;
    given = p.given;
  }

  -- what is true of each line is true of those that are left
  pub picks_all : (P : Pending T → Type 0) (made : List Met) (next : Met) (old new : List (Pending T)) (given : Option T)
      → Picks made next old new given → All P old → All P new
  picks_all P made next old new None picked all = All-same P new old picked.1 all
  picks_all P made next old new (Some payload) p all =
      let parts : All P (p.front ++ p.one ∷ p.rest) = All-same P (p.front ++ p.one ∷ p.rest) old (sym p.old_is) all in
      All-same P new (p.front ++ p.rest) p.new_is (All-append P p.front p.rest
      (all_front P p.front (p.one ∷ p.rest) parts)
      (All-tail P p.one p.rest (all_rest P p.front (p.one ∷ p.rest) parts)))

  -- in one chunk
  pub picked_one : (made : List Met) (next : Met) (lines new : List (Pending T)) (place : ℕ) (one : Pending T)
      → IsFirstAt made next lines place → one ≡ get_or lines place one → new ≡ remove lines place
      → IsPicked made next lines new one.payload
  picked_one made next lines new place one first is left =
      let behind : place + 1 ≡ suc place = omega arith in
      record {
        front = take place lines;
        one = one;
        rest = drop (suc place) lines;
        still = first.before;
        due = subst (λ (l : Pending T). due_of l made next ≡ true) (sym is) (first.due one);
        old_is = sym (take-append-drop place lines)
            ∙ ap (λ (ls : List (Pending T)). take place lines ++ ls) (drop_more lines place one first.there
            ∙ ap (λ (n : ℕ). get_or lines place one ∷ drop n lines) behind
            ∙ ap (λ (l : Pending T). l ∷ drop (suc place) lines) (sym is));
        new_is = left;
        given = refl;
      }

  -- and how many lines there are
  fewer : (made : List Met) (next : Met) (old new : List (Pending T)) (payload : T) → IsPicked made next old new payload
      → length new + 1 ≡ length old
  fewer made next old new payload p =
      let olds : length old ≡ length p.front + length (p.one ∷ p.rest) = ap length p.old_is ∙ length-append p.front (p.one ∷ p.rest) in
      let news : length new ≡ length p.front + length p.rest = ap length p.new_is ∙ length-append p.front p.rest in
      omega (arith, olds, news)

  pub as_many : (made : List Met) (next : Met) (old new : List (Pending T)) (given : Option T) → Picks made next old new given
      → length new + (if is_some given then 1 else 0) ≡ length old
  as_many made next old new None picked = omega (arith, ap length picked.1)
  as_many made next old new (Some payload) picked = fewer made next old new payload picked

-- ---- among the lines of chunks, or of groups

module _ {T X : Type 0} (f : X → List (Pending T)) where
  -- an item none of whose lines was due
  pub record IsPassed (made : List Met) (next : Met) (old new : X) : Type 0 where
    pub lines : f new ≡ f old
    pub still : All (IsStill made next) (f old)

  -- the first line that is due stands in the item of a place
  pub picked_at : (made : List Met) (next : Met) (i : ℕ) (old new : List X) (payload : T)
      → length new ≡ length old → i < length old
      → ((k : ℕ) (d : X) → k < i → IsPassed made next (get_or old k d) (get_or new k d))
      → ((d : X) → IsPicked made next (f (get_or old i d)) (f (get_or new i d)) payload)
      → ((k : ℕ) (d : X) → i < k → get_or new k d ≡ get_or old k d)
      → IsPicked made next (flat_map f old) (flat_map f new) payload
  picked_at made next i [] new payload long there before at behind = absurd (omega (arith, there))
  picked_at made next i (o ∷ os) [] payload long there before at behind = absurd (omega (arith, long))
  picked_at made next zero (o ∷ os) (n ∷ ns) payload long there before at behind =
      let rest : flat_map f ns ≡ flat_map f os =
      same_joined f os ns (omega (arith, long)) (λ k d lt. ap f (behind (suc k) d (omega arith))) in
      subst (λ (ls : List (Pending T)). IsPicked made next (f o ++ flat_map f os) (f n ++ ls) payload) (sym rest)
      (picked_before made next (flat_map f os) (f o) (f n) payload (at o))
  picked_at made next (suc i) (o ∷ os) (n ∷ ns) payload long there before at behind =
      let first = before 0 o (omega arith) in
      let rest : IsPicked made next (flat_map f os) (flat_map f ns) payload =
      picked_at made next i os ns payload (omega (arith, long)) (omega (arith, there))
      (λ k d lt. before (suc k) d (omega (arith, lt))) at (λ k d lt. behind (suc k) d (omega (arith, lt))) in
      subst (λ (ls : List (Pending T)). IsPicked made next (f o ++ flat_map f os) (ls ++ flat_map f ns) payload) (sym first.lines)
      (picked_behind made next (f o) (flat_map f os) (flat_map f ns) payload first.still rest)

  -- in the same way, of what may be given
  pub picks_at : (made : List Met) (next : Met) (i : ℕ) (old new : List X) (given : Option T) → is_some given ≡ true
      → length new ≡ length old → i < length old
      → ((k : ℕ) (d : X) → k < i → IsPassed made next (get_or old k d) (get_or new k d))
      → ((d : X) → Picks made next (f (get_or old i d)) (f (get_or new i d)) given)
      → ((k : ℕ) (d : X) → i < k → get_or new k d ≡ get_or old k d)
      → Picks made next (flat_map f old) (flat_map f new) given
  picks_at made next i old new None some long there before at behind = absurd cc
  picks_at made next i old new (Some payload) some long there before at behind =
      picked_at made next i old new payload long there before at behind

  -- where the item of a place is changed, behind those that were passed
  pub picks_set : (made : List Met) (next : Met) (i : ℕ) (old now : List X) (e new : X) (given : Option T)
      → is_some given ≡ true → length now ≡ length old → i < length old
      → ((k : ℕ) (d : X) → k < i → IsPassed made next (get_or old k d) (get_or now k d))
      → ((k : ℕ) (d : X) → i ≤ k → get_or now k d ≡ get_or old k d)
      → Picks made next (f (get_or now i e)) (f new) given
      → Picks made next (flat_map f old) (flat_map f (set now i new)) given
  picks_set made next i old now e new given some long there done rest picked =
      picks_at made next i old (set now i new) given some (length-set now i new ∙ long) there
      (λ k d lt. subst (IsPassed made next (get_or old k d)) (sym (get_or-set_other now i k new d (λ is. omega (arith, is, lt)))) (done k d lt))
      (λ d. subst (λ (c : X). Picks made next (f (get_or old i d)) (f c) given)
      (sym (get_or-set_same now i new d (omega (arith, long, there))))
      (subst (λ (c : X). Picks made next (f c) (f new) given)
      (get_or_default now i e d (omega (arith, long, there)) ∙ rest i d (omega arith)) picked))
      (λ k d lt. get_or-set_other now i k new d (λ is. omega (arith, is, lt)) ∙ rest k d (omega (arith, lt)))

  -- where no line is due but those of the item of a place, and it is changed
  pub picks_beside : (made : List Met) (next : Met) (i : ℕ) (old : List X) (e new : X) (given : Option T) → i < length old
      → ((k : ℕ) (d : X) → k < length old → k ≢ i → All (IsStill made next) (f (get_or old k d)))
      → Picks made next (f (get_or old i e)) (f new) given
      → Picks made next (flat_map f old) (flat_map f (set old i new)) given
  picks_beside made next i old e new (Some payload) there still picked =
      picks_set made next i old old e new (Some payload) refl refl there
      (λ k d lt. record { lines = refl; still = still k d (omega (arith, lt, there)) (λ is. omega (arith, is, lt)) })
      (λ k d le. refl) picked
  picks_beside made next i old e new None there still picked = (
    all_joined f (IsStill made next) old (λ k d lt. by_place i k
        (λ is. subst (λ j. All (IsStill made next) (f (get_or old j d))) (sym is)
        (subst (λ (c : X). All (IsStill made next) (f c)) (get_or_default old i e d there) picked.0))
        (λ other. still k d lt other)),
    same_joined f old (set old i new) (length-set old i new) (λ k d lt. by_place i k
        (λ is. subst (λ j. f (get_or (set old i new) j d) ≡ f (get_or old j d)) (sym is)
        (ap f (get_or-set_same old i new d there) ∙ picked.1 ∙ ap f (get_or_default old i e d there)))
        (λ other. ap f (get_or-set_other old i k new d other))),
  )

  pub passed : (made : List Met) (next : Met) (old new : X) (given : Option T) → is_some given ≡ false
      → Picks made next (f old) (f new) given → IsPassed made next old new
  passed made next old new None none picked = record { lines = picked.1; still = picked.0 }
  passed made next old new (Some payload) none picked = absurd cc
