-- The sources of words behind one message more.
use Rattle.std.proofs.Common.{◌≡◌, ℕ, zero, suc, ◌+◌, ◌-◌, ◌*◌, ◌%◌, ◌/◌, ◌<◌, ◌≤◌, Bool, true, false, cond, eqb, Option, Some, None, List, [], ◌∷◌, ◌++◌, length, drop, map, refl, sym, ap, ap₂, ◌∙◌, subst, arith}
use Rattle.std.specs.Prelude.{count_by, IfSome, All}
use Rattle.std.specs.List.{filter_map, AllByRecursion}
use Rattle.std.specs.Option.{option_map, option_or}
use Rattle.std.proofs.lemmas.Bool.{eqb-true, and_parts}
use Rattle.std.proofs.lemmas.List.{drop-append-le, drop_all}
use Rattle.std.proofs.lemmas.List.Elements.{All-append, All-nil, All-head, All-tail, All-filter}
use Rattle.std.proofs.lemmas.List.Sums.{sum_by_push}
use Rattle.std.proofs.Math.Nat.{mod-add-div', add-mul-mod_self_right, suc-mul}
use Rattle.mil_message.specs.declared.forms.Form.{Form}
use Rattle.controller_host.specs.declared.destinations.Destination.{Destination}
use Rattle.controller_host.specs.declared.destinations.Destination.TheVariants as to
use Rattle.controller_host.specs.declared.sources.Source.{Source}
use Rattle.controller_host.specs.declared.sources.Source.TheVariants.{Word, Ramp}
use Rattle.controller_host.specs.declared.sources.Row.{Row as SourceRow}
use Rattle.controller_host.specs.Destinations.{is_same, carries, IsPlace}
use Rattle.controller_host.specs.Sources.{advanced, advanced_by, set_by, source_in, is_row_of}
use Rattle.bc_machine.specs.declared.placed.Placed.{Placed}
use Rattle.bc_machine.specs.declared.placed.HostAction.{HostAction}
use Rattle.bc_machine.specs.declared.placed.HostAction.TheVariants.{Terminal, Controller}
use Rattle.bc_machine.specs.MadeMessages.{MadeMessage, own, inserted}
use Rattle.bc_machine.specs.Controller.{control_of}
use Rattle.bc_machine.specs.Hosting.{placed_at, placed_up_to, set_at, set_by_action, last_set, is_carrier, carried_since, moved_on, source_since, source_at}
use Rattle.bc_machine.specs.Agendas.{StandsForSources}
use Rattle.bc_machine.specs.Asking.{controls_at, with_controls}
use Rattle.bc_machine.specs.Schedules.{MayControl, is_control}
use Rattle.bc_machine.proofs.Queued.{up_to_added, more_made}

-- ---- what a place was set to last

or_none : {X : Type 0} (o : Option X) → o ≡ option_or o None
or_none None = refl
or_none (Some x) = refl

or_or : {X : Type 0} (a b c : Option X) → option_or (option_or a b) c ≡ option_or a (option_or b c)
or_or None b c = refl
or_or (Some x) b c = refl

sums : (a b c : ℕ) → c ≡ a + b → (a % 65536 + 1 * b) % 65536 ≡ c % 65536
sums a b c e =
    let parts = mod-add-div' a 65536 in
    let whole : c ≡ (a % 65536 + 1 * b) + a / 65536 * 65536 = omega (arith, e, parts) in
    sym (ap (λ v. v % 65536) whole ∙ add-mul-mod_self_right (a % 65536 + 1 * b) (a / 65536) 65536)

-- a source behind one message more that carries it
pub moved_more : (n : ℕ) (s : Source) → advanced 1 (moved_on n s) ≡ moved_on (n + 1) s
moved_more zero s = refl
moved_more (suc n) (Word word) = let plus : suc (suc n) ≡ suc n + 1 = omega arith in ap (λ k. moved_on k (Word word)) plus
moved_more (suc n) (Ramp next add) =
    let plus : suc (suc n) ≡ suc n + 1 = omega arith in
    let more = suc-mul (suc n) add in
    let whole : next + suc (suc n) * add ≡ (next + suc n * add) + add = omega (arith, more) in
    ap (λ (word : ℕ). Ramp word add) (sums (next + suc n * add) add (next + suc (suc n) * add) whole)
    ∙ ap (λ k. moved_on k (Ramp next add)) plus

-- behind a message: moved on where it carried the place
abbrev pub behind : Bool → Option Source → Option Source
behind true o = option_map (advanced 1) o
behind false o = o

behind_none : (b : Bool) → None ≡ behind b None
behind_none true = refl
behind_none false = refl

module _ (d : Destination) (place : ℕ) where
  pub last_both : (ps qs : List Placed) → last_set d place (ps ++ qs) ≡ option_or (last_set d place qs) (last_set d place ps)
  last_both [] qs = or_none (last_set d place qs)
  last_both (p ∷ ps) qs =
      ap (λ o. option_or o (set_at p d place)) (last_both ps qs) ∙ or_or (last_set d place qs) (last_set d place ps) (set_at p d place)

  -- a fact of the number that it was set at
  abbrev SetAt : (ℕ → Type 0) → Option (ℕ × Source) → Type 0
  SetAt P o = IfSome o (λ t. P t.0)

  or_set : (P : ℕ → Type 0) (a b : Option (ℕ × Source)) → SetAt P a → SetAt P b → SetAt P (option_or a b)
  or_set P None b h k = k
  or_set P (Some x) b h k = h

  one_set : (P : ℕ → Type 0) (n : ℕ) (o : Option Source) → P n → SetAt P (option_map (λ source. (n, source)) o)
  one_set P n None h = tt
  one_set P n (Some s) h = h

  set_among : (P : ℕ → Type 0) (ps : List Placed) → AllByRecursion (λ (p : Placed). P p.number) ps → SetAt P (last_set d place ps)
  set_among P [] all = tt
  set_among P (p ∷ ps) all = or_set P (last_set d place ps) (set_at p d place) (set_among P ps all.1) (one_set P p.number (set_by_action p.action d place) all.0)

  at_number : (n : ℕ) (ps : List Placed) → AllByRecursion (λ (p : Placed). p.number ≡ n) (placed_at n ps)
  at_number n [] = tt
  at_number n (p ∷ ps) = by_test (eqb p.number n) refl (at_number n ps)
    where
      by_test : (b : Bool) → eqb p.number n ≡ b → AllByRecursion (λ (q : Placed). q.number ≡ n) (placed_at n ps) → AllByRecursion (λ (q : Placed). q.number ≡ n) (cond b (p ∷ placed_at n ps) (placed_at n ps))
      by_test true e all = (eqb-true p.number n e, all)
      by_test false e all = all

  set_at_number : (n : ℕ) (ps : List Placed) → SetAt (λ k. k ≡ n) (last_set d place (placed_at n ps))
  set_at_number n ps = set_among (λ k. k ≡ n) (placed_at n ps) (at_number n ps)

  weaker : (P Q : ℕ → Type 0) (o : Option (ℕ × Source)) → ((k : ℕ) → P k → Q k) → SetAt P o → SetAt Q o
  weaker P Q None more h = tt
  weaker P Q (Some t) more h = more t.0 h

  set_up_to : (n : ℕ) (ps : List Placed) → SetAt (λ k. k ≤ n) (last_set d place (placed_up_to n ps))
  unfolding placed_up_to
  set_up_to zero ps = tt
  set_up_to (suc n) ps =
      subst (SetAt (λ k. k ≤ suc n)) (sym (last_both (placed_up_to n ps) (placed_at (suc n) ps)))
      (or_set (λ k. k ≤ suc n) _ _
      (weaker (λ k. k ≡ suc n) (λ k. k ≤ suc n) _ (λ k h. omega (arith, h)) (set_at_number (suc n) ps))
      (weaker (λ k. k ≤ n) (λ k. k ≤ suc n) _ (λ k h. omega (arith, h)) (set_up_to n ps)))

  -- ---- one message more

  since_more : (made : List MadeMessage) (m : MadeMessage) (t : ℕ × Source) → t.0 ≤ length made + 1
      → Some (source_since d place (made ++ m ∷ []) t) ≡ behind (is_carrier d place m) (Some (source_since d place made t))
  since_more made m t low =
      let rest = drop (t.0 - 1) made in
      let left : drop (t.0 - 1) (made ++ m ∷ []) ≡ rest ++ m ∷ [] = drop-append-le (t.0 - 1) made (m ∷ []) (omega (arith, low)) in
      let count : carried_since t.0 d place (made ++ m ∷ []) ≡ carried_since t.0 d place made + cond (is_carrier d place m) 1 0 =
      ap (count_by (is_carrier d place)) left ∙ sum_by_push (λ (v : MadeMessage). cond (is_carrier d place v) 1 0) rest m in
      ap (λ k. Some (moved_on k t.1)) count ∙ by_test (is_carrier d place m) (carried_since t.0 d place made)
    where
      by_test : (b : Bool) (n : ℕ) → Some (moved_on (n + cond b 1 0) t.1) ≡ behind b (Some (moved_on n t.1))
      by_test true n = ap Some (sym (moved_more n t.1))
      by_test false n = let none : n + 0 ≡ n = omega arith in ap (λ k. Some (moved_on k t.1)) none

  pub source_more : (n : ℕ) (ps : List Placed) (made : List MadeMessage) (m : MadeMessage) → n ≤ length made + 1
      → source_at n ps (made ++ m ∷ []) d place ≡ behind (is_carrier d place m) (source_at n ps made d place)
  source_more n ps made m low = by_set (last_set d place (placed_up_to n ps)) (set_up_to n ps)
    where
      by_set : (o : Option (ℕ × Source)) → SetAt (λ k. k ≤ n) o → option_map (source_since d place (made ++ m ∷ [])) o ≡ behind (is_carrier d place m) (option_map (source_since d place made) o)
      by_set None h = behind_none (is_carrier d place m)
      by_set (Some t) h = since_more made m t (omega (arith, h, low))

  -- ---- the actions of the next number

  abbrev source_of : ℕ × Source → Source
  source_of t = t.1

  -- the host's controls one after the other, as the last that names the place
  controls_last : (ps : List Placed) (was : Option Source) → with_controls (filter_map control_of ps) was d place ≡ option_or (option_map source_of (last_set d place ps)) was
  controls_last [] was = refl
  controls_last (p ∷ ps) was = by_action p.action p.number (controls_last ps)
    where
      by_one : (last : Option (ℕ × Source)) (n : ℕ) (one : Option Source) → option_or (option_map source_of last) (option_or one was) ≡ option_or (option_map source_of (option_or last (option_map (λ source. (n, source)) one))) was
      by_one None n None = refl
      by_one None n (Some s) = refl
      by_one (Some t) n one = refl

      by_action : (a : HostAction) (n : ℕ) → ((o : Option Source) → with_controls (filter_map control_of ps) o d place ≡ option_or (option_map source_of (last_set d place ps)) o)
          → with_controls (filter_map control_of (record { number = n; action = a } ∷ ps)) was d place ≡ option_or (option_map source_of (option_or (last_set d place ps) (set_at (record { number = n; action = a }) d place))) was
      by_action (Terminal address action) n more = more was ∙ by_one (last_set d place ps) n None
      by_action (Controller asked) n more = more (option_or (set_by asked d place) was) ∙ by_one (last_set d place ps) n (set_by asked d place)

  pub source_next : (ps : List Placed) (made : List MadeMessage) (was : Option Source) → was ≡ source_at (length made) ps made d place
      → with_controls (controls_at (length made + 1) ps) was d place ≡ source_at (length made + 1) ps made d place
  unfolding placed_up_to
  source_next ps made was is =
      let n = length made in
      let up : n + 1 ≡ suc n = omega arith in
      ap (λ k. with_controls (controls_at k ps) was d place) up
      ∙ controls_last (placed_at (suc n) ps) was
      ∙ by_set (last_set d place (placed_at (suc n) ps)) (set_at_number (suc n) ps)
      ∙ sym (ap (option_map (source_since d place made)) (last_both (placed_up_to n ps) (placed_at (suc n) ps)))
      ∙ ap (λ k. source_at k ps made d place) (sym up)
    where
      by_set : (o : Option (ℕ × Source)) → SetAt (λ k. k ≡ suc (length made)) o
          → option_or (option_map source_of o) was ≡ option_map (source_since d place made) (option_or o (last_set d place (placed_up_to (length made) ps)))
      by_set None h = is
      by_set (Some t) h =
          let none : drop (t.0 - 1) made ≡ [] = drop_all (t.0 - 1) made (omega (arith, h)) in
          sym (ap (λ xs. Some (moved_on (count_by (is_carrier d place) xs) t.1)) none)

  pub source_added : (n : ℕ) (ps : List Placed) (made : List MadeMessage) (one : Placed) → n < one.number → source_at n (ps ++ one ∷ []) made d place ≡ source_at n ps made d place
  source_added n ps made one above = ap (λ xs. option_map (source_since d place made) (last_set d place xs)) (up_to_added n ps one above)

-- ---- rows

pub is_same_true : (d e : Destination) → is_same d e ≡ true → d ≡ e
is_same_true (to.Terminal address subaddress) (to.Terminal a s) h =
    let both = and_parts (eqb address a) (eqb subaddress s) h in ap₂ (λ (x y : ℕ). to.Terminal x y) (eqb-true address a both.0) (eqb-true subaddress s both.1)
is_same_true (to.Terminal address subaddress) (to.All s) h = absurd cc
is_same_true (to.Terminal address subaddress) (to.Mode a c) h = absurd cc
is_same_true (to.Terminal address subaddress) (to.ModeToAll c) h = absurd cc
is_same_true (to.All subaddress) (to.Terminal a s) h = absurd cc
is_same_true (to.All subaddress) (to.All s) h = ap (λ (x : ℕ). to.All x) (eqb-true subaddress s h)
is_same_true (to.All subaddress) (to.Mode a c) h = absurd cc
is_same_true (to.All subaddress) (to.ModeToAll c) h = absurd cc
is_same_true (to.Mode address code) (to.Terminal a s) h = absurd cc
is_same_true (to.Mode address code) (to.All s) h = absurd cc
is_same_true (to.Mode address code) (to.Mode a c) h =
    let both = and_parts (eqb address a) (eqb code c) h in ap₂ (λ (x y : ℕ). to.Mode x y) (eqb-true address a both.0) (eqb-true code c both.1)
is_same_true (to.Mode address code) (to.ModeToAll c) h = absurd cc
is_same_true (to.ModeToAll code) (to.Terminal a s) h = absurd cc
is_same_true (to.ModeToAll code) (to.All s) h = absurd cc
is_same_true (to.ModeToAll code) (to.Mode a c) h = absurd cc
is_same_true (to.ModeToAll code) (to.ModeToAll c) h = ap (λ (x : ℕ). to.ModeToAll x) (eqb-true code c h)

abbrev moved_row : Bool → SourceRow → SourceRow
moved_row c row = cond c (record { destination = row.destination; place = row.place; source = advanced 1 row.source }) row

moved_source : (c : Bool) (s : Source) → Some (cond c (advanced 1 s) s) ≡ behind c (Some s)
moved_source true s = refl
moved_source false s = refl

-- a row of the place moves on where the message carries the place
one_row : (form : Form) (d : Destination) (place : ℕ) (row : SourceRow) (rest next : Option Source) (b c : Bool) → is_row_of d place row ≡ b → carries row.destination row.place form ≡ c
    → next ≡ behind (carries d place form) rest
    → cond b (Some (cond c (advanced 1 row.source) row.source)) next ≡ behind (carries d place form) (cond b (Some row.source) rest)
one_row form d place row rest next true c e carried more =
    let parts = and_parts (is_same d row.destination) (eqb place row.place) e in
    let same : carries d place form ≡ c = ap₂ (λ (x : Destination) (y : ℕ). carries x y form) (is_same_true d row.destination parts.0) (eqb-true place row.place parts.1) ∙ carried in
    moved_source c row.source ∙ ap (λ v. behind v (Some row.source)) (sym same)
one_row form d place row rest next false c e carried more = more

-- the rows behind a message of the script
pub row_behind : (form : Form) (d : Destination) (place : ℕ) (rows : List SourceRow) → source_in (map (advanced_by form) rows) d place ≡ behind (carries d place form) (source_in rows d place)
row_behind form d place [] = behind_none (carries d place form)
row_behind form d place (row ∷ rest) = by_carried (carries row.destination row.place form) refl (row_behind form d place rest)
  where
    by_carried : (c : Bool) → carries row.destination row.place form ≡ c
        → source_in (map (advanced_by form) rest) d place ≡ behind (carries d place form) (source_in rest d place)
        → source_in (moved_row c row ∷ map (advanced_by form) rest) d place ≡ behind (carries d place form) (source_in (row ∷ rest) d place)
    by_carried true e more = one_row form d place row (source_in rest d place) (source_in (map (advanced_by form) rest) d place) (is_row_of d place row) true refl e more
    by_carried false e more = one_row form d place row (source_in rest d place) (source_in (map (advanced_by form) rest) d place) (is_row_of d place row) false refl e more

-- ---- what rows stand for

module _ (ps : List Placed) (made : List MadeMessage) where
  -- rows as the next message meets them
  abbrev pub StandAtNext : List SourceRow → Type 0
  StandAtNext rows = (d : Destination) (place : ℕ) → IsPlace d place → source_in rows d place ≡ source_at (length made + 1) ps made d place

  pub next_rows : (rows next : List SourceRow) → StandsForSources rows ps made
      → ((d : Destination) (place : ℕ) → IsPlace d place → source_in next d place ≡ with_controls (controls_at (length made + 1) ps) (source_in rows d place) d place)
      → StandAtNext next
  next_rows rows next stand set d place is = set d place is ∙ source_next d place ps made (source_in rows d place) (stand d place is)

  pub stand_inserted : (rows : List SourceRow) → StandAtNext rows → StandsForSources rows ps (made ++ inserted ∷ [])
  stand_inserted rows stand d place is =
      stand d place is
      ∙ sym (source_more d place (length made + 1) ps made inserted (omega arith))
      ∙ ap (λ k. source_at k ps (made ++ inserted ∷ []) d place) (sym (more_made made inserted))

  pub stand_own : (form : Form) (rows : List SourceRow) → StandAtNext rows → StandsForSources (map (advanced_by form) rows) ps (made ++ own form ∷ [])
  stand_own form rows stand d place is =
      row_behind form d place rows
      ∙ ap (behind (carries d place form)) (stand d place is)
      ∙ sym (source_more d place (length made + 1) ps made (own form) (omega arith))
      ∙ ap (λ k. source_at k ps (made ++ own form ∷ []) d place) (sym (more_made made (own form)))

pub stand_added : (rows : List SourceRow) (ps : List Placed) (made : List MadeMessage) (one : Placed) → one.number ≡ length made + 1 → StandsForSources rows ps made → StandsForSources rows (ps ++ one ∷ []) made
stand_added rows ps made one at stand d place is = stand d place is ∙ sym (source_added d place (length made) ps made one (omega (arith, at)))

pub stand_begins : (ps : List Placed) → StandsForSources [] ps []
unfolding placed_up_to
stand_begins ps d place is = refl

-- ---- where the host asks for nothing

pub up_to_all : (P : Placed → Type 0) (n : ℕ) (ps : List Placed) → All P ps → All P (placed_up_to n ps)
unfolding placed_up_to
up_to_all P zero ps all = All-nil P
up_to_all P (suc n) ps all = All-append P (placed_up_to n ps) (placed_at (suc n) ps) (up_to_all P n ps all) (All-filter (λ (q : Placed). eqb q.number (suc n)) P ps all)

sets_none : (a : HostAction) (d : Destination) (place : ℕ) → (is_control a ≡ true → false ≡ true) → set_by_action a d place ≡ None
sets_none (Terminal address action) d place h = refl
sets_none (Controller asked) d place h = absurd (let e = h refl in cc)

none_last : (d : Destination) (place : ℕ) (ps : List Placed) → MayControl false ps → last_set d place ps ≡ None
none_last d place [] free = refl
none_last d place (p ∷ ps) free =
    ap₂ (λ (v : Option (ℕ × Source)) (u : Option Source). option_or v (option_map (λ source. (p.number, source)) u))
    (none_last d place ps (All-tail (λ (q : Placed). is_control q.action ≡ true → false ≡ true) p ps free))
    (sets_none p.action d place (All-head (λ (q : Placed). is_control q.action ≡ true → false ≡ true) p ps free))

pub none_set : (n : ℕ) (ps : List Placed) (made : List MadeMessage) (d : Destination) (place : ℕ) → MayControl false ps → source_at n ps made d place ≡ None
none_set n ps made d place free =
    ap (option_map (source_since d place made)) (none_last d place (placed_up_to n ps) (up_to_all (λ (q : Placed). is_control q.action ≡ true → false ≡ true) n ps free))

pub stand_free : (rows : List SourceRow) (ps : List Placed) (made : List MadeMessage) (m : MadeMessage) → MayControl false ps → StandsForSources rows ps made → StandsForSources rows ps (made ++ m ∷ [])
stand_free rows ps made m free stand d place is =
    stand d place is ∙ none_set (length made) ps made d place free ∙ sym (none_set (length (made ++ m ∷ [])) ps (made ++ m ∷ []) d place free)
