-- What the marks of a list say of its actions, where it has one more.
use Rattle.std.proofs.Common.{◌≡◌, ℕ, Bool, true, false, List, [], ◌∷◌, ◌++◌, refl, ap, ◌∙◌}
use Rattle.std.specs.Prelude.{All, ◌||◌, Result, Ok, Err, OnOk, OnErr}
use Rattle.controller_host.specs.Sources.{SourcesState}
use Rattle.std.specs.List.{insert}
use Rattle.std.proofs.lemmas.List.Elements.{All-append, All-cons, All-nil, All-head, All-tail}
use Rattle.std.proofs.lemmas.List.Sorted.{All-permutation, IsPermutation-insert}
use Rattle.bc_machine.specs.declared.placed.Placed.{Placed}
use Rattle.bc_machine.specs.Asking.{with_ready}
use Rattle.bc_machine.specs.Schedules.{ScheduleState, HaveRoom, MayControl, sets_sources, is_control}

one_more : (P : Placed → Type 0) (ps : List Placed) (one : Placed) → All P ps → P one → All P (ps ++ one ∷ [])
one_more P ps one all is = All-append P ps (one ∷ []) all (All-cons P one [] is (All-nil P))

pub more_room : (ready : Bool) (ps : List Placed) (one : Placed) → HaveRoom ready ps → (sets_sources one.action ≡ true → ready ≡ true) → HaveRoom ready (ps ++ one ∷ [])
more_room ready ps one all is = one_more (λ (p : Placed). sets_sources p.action ≡ true → ready ≡ true) ps one all is

or_left : (a b : Bool) → a ≡ true → (a || b) ≡ true
or_left a b is = rw is refl

or_right : (a b : Bool) → b ≡ true → (a || b) ≡ true
or_right true b is = refl
or_right false b is = is

one_put : (P : Placed → Type 0) (ps : List Placed) (one : Placed) (place : ℕ) → All P ps → P one → All P (insert ps place one)
one_put P ps one place all is = All-permutation P (one ∷ ps) (insert ps place one) (IsPermutation-insert ps place one) (All-cons P one ps is all)

pub put_room : (ready : Bool) (ps : List Placed) (one : Placed) (place : ℕ) → HaveRoom ready ps → (sets_sources one.action ≡ true → ready ≡ true) → HaveRoom ready (insert ps place one)
put_room ready ps one place all is = one_put (λ (p : Placed). sets_sources p.action ≡ true → ready ≡ true) ps one place all is

pub put_control : (controls : Bool) (ps : List Placed) (one : Placed) (place : ℕ) → MayControl controls ps → MayControl (controls || is_control one.action) (insert ps place one)
put_control controls ps one place all =
    let some = controls || is_control one.action in
    one_put (λ (p : Placed). is_control p.action ≡ true → some ≡ true) ps one place
    (λ k d less is. or_left controls (is_control one.action) (all k d less is))
    (λ is. or_right controls (is_control one.action) is)

pub more_control : (controls : Bool) (ps : List Placed) (one : Placed) → MayControl controls ps → MayControl (controls || is_control one.action) (ps ++ one ∷ [])
more_control controls ps one all =
    let some = controls || is_control one.action in
    one_more (λ (p : Placed). is_control p.action ≡ true → some ≡ true) ps one
    (λ k d less is. or_left controls (is_control one.action) (all k d less is))
    (λ is. or_right controls (is_control one.action) is)

all_left : (P : Placed → Type 0) (ps qs : List Placed) → All P (ps ++ qs) → All P ps
all_left P [] qs all = All-nil P
all_left P (p ∷ ps) qs all = All-cons P p ps (All-head P p (ps ++ qs) all) (all_left P ps qs (All-tail P p (ps ++ qs) all))

all_right : (P : Placed → Type 0) (ps qs : List Placed) → All P (ps ++ qs) → All P qs
all_right P [] qs all = all
all_right P (p ∷ ps) qs all = all_right P ps qs (All-tail P p (ps ++ qs) all)

pub room_left : (ready : Bool) (ps qs : List Placed) → HaveRoom ready (ps ++ qs) → HaveRoom ready ps
room_left ready ps qs all = all_left (λ (p : Placed). sets_sources p.action ≡ true → ready ≡ true) ps qs all

pub room_right : (ready : Bool) (ps qs : List Placed) → HaveRoom ready (ps ++ qs) → HaveRoom ready qs
room_right ready ps qs all = all_right (λ (p : Placed). sets_sources p.action ≡ true → ready ≡ true) ps qs all

-- the marks of two lists, one behind the other
pub both_control : (a b : Bool) (ps qs : List Placed) → MayControl a ps → MayControl b qs → MayControl (a || b) (ps ++ qs)
both_control a b ps qs first second =
    All-append (λ (p : Placed). is_control p.action ≡ true → (a || b) ≡ true) ps qs
    (λ k d less is. or_left a b (first k d less is))
    (λ k d less is. or_right a b (second k d less is))

-- ---- room for sources

module _ {U F : Type 0} (old new : SourcesState) where
  pub ready_stays : (r : Result U F) → OnOk r (new.ready ≡ true) → OnErr r (new ≡ old) → old.ready ≡ true → new.ready ≡ true
  ready_stays (Ok u) made same is = made
  ready_stays (Err f) made same is = ap (λ (s : SourcesState). s.ready) same ∙ is

  pub room_stays : (r : Result U F) (ps : List Placed) → OnOk r (new.ready ≡ true) → OnErr r (new ≡ old) → HaveRoom old.ready ps → HaveRoom new.ready ps
  room_stays r ps made same all k d less sets = ready_stays r made same (all k d less sets)

-- room for all sources was made, or nothing came of it
pub acts_stay : {U F : Type 0} (r : Result U F) (old new : ScheduleState) → OnOk r (new ≡ with_ready old) → OnErr r (new ≡ old) → new.actions ≡ old.actions
acts_stay (Ok u) old new made same = ap (λ (s : ScheduleState). s.actions) made
acts_stay (Err f) old new made same = ap (λ (s : ScheduleState). s.actions) same
