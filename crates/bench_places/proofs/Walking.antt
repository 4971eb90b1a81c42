-- One more message on the way through a recording.
use Rattle.std.proofs.Common.{◌≡◌, ℕ, zero, suc, ◌+◌, ◌-◌, ◌<◌, ◌≤◌, List, [], ◌∷◌, length, take, drop, Option, Some, None, refl, sym, ap, ◌∙◌, arith}
use Rattle.std.specs.Prelude.{Bool, true, false, if◌then◌else◌, slice_get}
use Rattle.std.specs.List.{last_or, position_or_len}
use Rattle.std.specs.Option.{MatchOption}
use Rattle.bench_select.specs.Viewed.{Viewed}
use Rattle.bench_places.specs.Places.{is_sought, places_behind, numbered, message_of_number, count_in_channel}
use Rattle.bench_places.specs.declared.sought.Sought.{Sought}

pub drop_next : (xs : List Viewed) (i : ℕ) (h : Viewed) (hs : List Viewed) → drop i xs ≡ h ∷ hs → drop (suc i) xs ≡ hs
drop_next [] zero h hs is = absurd cc
drop_next [] (suc i) h hs is = absurd cc
drop_next (x ∷ xs) zero h hs is = cc
drop_next (x ∷ xs) (suc i) h hs is = drop_next xs i h hs is

pub drop_none : (xs : List Viewed) (i : ℕ) → drop i xs ≡ [] → drop (suc i) xs ≡ []
drop_none [] i is = refl
drop_none (x ∷ xs) zero is = absurd cc
drop_none (x ∷ xs) (suc i) is = drop_none xs i is

pub counts_next : (channel : ℕ) (xs : List Viewed) (i : ℕ) (h : Viewed) (hs : List Viewed) → drop i xs ≡ h ∷ hs → count_in_channel channel (take (suc i) xs) ≡ count_in_channel channel (take i xs) + count_in_channel channel (h ∷ [])
counts_next channel [] zero h hs is = absurd cc
counts_next channel [] (suc i) h hs is = absurd cc
counts_next channel (x ∷ xs) zero h hs is = let same : x ≡ h = cc in omega (arith, ap (λ (y : Viewed). count_in_channel channel (y ∷ [])) same)
counts_next channel (x ∷ xs) (suc i) h hs is = omega (arith, counts_next channel xs i h hs is)

pub counts_none : (channel : ℕ) (xs : List Viewed) (i : ℕ) → drop i xs ≡ [] → count_in_channel channel (take (suc i) xs) ≡ count_in_channel channel (take i xs)
counts_none channel [] zero is = refl
counts_none channel [] (suc i) is = refl
counts_none channel (x ∷ xs) zero is = absurd cc
counts_none channel (x ∷ xs) (suc i) is = omega (arith, counts_none channel xs i is)

-- a message that is not sought
pub passes : (sought : Sought) (before n : ℕ) (h : Viewed) (hs : List Viewed) → is_sought sought h ≡ false → numbered n (places_behind before sought (h ∷ hs)) ≡ numbered n (places_behind (before + 1) sought hs)
passes sought before n h hs not = rw not refl

-- one that is, but not the one of the number
pub counts_down : (sought : Sought) (before n : ℕ) (h : Viewed) (hs : List Viewed) → is_sought sought h ≡ true → 1 < n
    → numbered n (places_behind before sought (h ∷ hs)) ≡ numbered (n - 1) (places_behind (before + 1) sought hs)
counts_down sought before zero h hs here more = absurd (omega arith)
counts_down sought before (suc zero) h hs here more = absurd (omega arith)
counts_down sought before (suc (suc n)) h hs here more = let less : suc (suc n) - 1 ≡ suc n = omega arith in rw (here, less) refl

-- the one of the number
pub found_here : (sought : Sought) (before : ℕ) (h : Viewed) (hs : List Viewed) → is_sought sought h ≡ true → numbered 1 (places_behind before sought (h ∷ hs)) ≡ Some (before + 1)
found_here sought before h hs here = rw here refl

-- no message is left
pub none_left : (n : ℕ) → numbered n [] ≡ None
none_left zero = refl
none_left (suc n) = refl

-- one more message was taken
pub drops : {A : Type 0} (view : A → Viewed) (r : Option A) (all rest new : List Viewed) (i : ℕ) → rest ≡ drop i all
    → MatchOption r ((rest ≡ []) × (new ≡ [])) (λ x. rest ≡ view x ∷ new) → new ≡ drop (i + 1) all
drops view None all rest new i is steps =
    let next : suc i ≡ i + 1 = omega arith in
    steps.1 ∙ sym (drop_none all i (sym is ∙ steps.0)) ∙ ap (λ (k : ℕ). drop k all) next
drops view (Some x) all rest new i is steps =
    let next : suc i ≡ i + 1 = omega arith in
    sym (drop_next all i (view x) new (sym is ∙ steps)) ∙ ap (λ (k : ℕ). drop k all) next

-- and counted
pub counts : {A : Type 0} (view : A → Viewed) (channel : ℕ) (r : Option A) (all rest new : List Viewed) (i count add : ℕ) → rest ≡ drop i all
    → MatchOption r ((rest ≡ []) × (new ≡ [])) (λ x. rest ≡ view x ∷ new) → count ≡ count_in_channel channel (take i all)
    → MatchOption r (add ≡ 0) (λ x. add ≡ count_in_channel channel (view x ∷ [])) → count + add ≡ count_in_channel channel (take (i + 1) all)
counts view channel None all rest new i count add is steps so_far one =
    let next : suc i ≡ i + 1 = omega arith in
    omega (arith, so_far, one, counts_none channel all i (sym is ∙ steps.0), ap (λ (k : ℕ). count_in_channel channel (take k all)) next)
counts view channel (Some x) all rest new i count add is steps so_far one =
    let next : suc i ≡ i + 1 = omega arith in
    omega (arith, so_far, one, counts_next channel all i (view x) new (sym is ∙ steps), ap (λ (k : ℕ). count_in_channel channel (take k all)) next)

-- on the way to the message of a number: one that is not sought
pub goes_past : (sought : Sought) (place left : ℕ) (h : Viewed) (rest new : List Viewed) → rest ≡ h ∷ new → is_sought sought h ≡ false
    → numbered left (places_behind (place + 1) sought new) ≡ numbered left (places_behind place sought rest)
goes_past sought place left h rest new is other = rw is (sym (passes sought place left h new other))

-- one that is, with others to come
pub goes_down : (sought : Sought) (place left : ℕ) (h : Viewed) (rest new : List Viewed) → rest ≡ h ∷ new → is_sought sought h ≡ true → 1 < left
    → numbered (left - 1) (places_behind (place + 1) sought new) ≡ numbered left (places_behind place sought rest)
goes_down sought place left h rest new is one more = rw is (sym (counts_down sought place left h new one more))

-- the one of the number
pub is_here : (sought : Sought) (place left : ℕ) (h : Viewed) (rest new : List Viewed) → rest ≡ h ∷ new → is_sought sought h ≡ true → left ≡ 1
    → Some (place + 1) ≡ numbered left (places_behind place sought rest)
is_here sought place left h rest new is one last = rw (is, last) (sym (found_here sought place h new one))

-- none
pub is_none : (sought : Sought) (place left : ℕ) (rest : List Viewed) → rest ≡ [] → None ≡ numbered left (places_behind place sought rest)
is_none sought place left rest is = rw is (sym (none_left left))

-- each step on the way to the message of a number, and where it ends
pub ruleset to_number = (goes_past, goes_down, is_here, is_none)

-- the latest of messages of which one is the first
latest_first : (sought : Sought) (before : ℕ) (o : Option ℕ) (x : Viewed) (xs : List Viewed)
    → last_or o (places_behind before sought (x ∷ xs)) ≡ last_or (if is_sought sought x then Some (before + 1) else o) (places_behind (before + 1) sought xs)
latest_first sought before o x xs = by (is_sought sought x) refl
  where
    by : (met : Bool) → is_sought sought x ≡ met → last_or o (places_behind before sought (x ∷ xs)) ≡ last_or (if is_sought sought x then Some (before + 1) else o) (places_behind (before + 1) sought xs)
    by true is = rw is refl
    by false is = rw is refl

-- and of those with one more
latest_next : (sought : Sought) (before : ℕ) (o : Option ℕ) (xs : List Viewed) (i : ℕ) (h : Viewed) (hs : List Viewed) → drop i xs ≡ h ∷ hs
    → last_or o (places_behind before sought (take (suc i) xs)) ≡ (if is_sought sought h then Some (before + (i + 1)) else last_or o (places_behind before sought (take i xs)))
latest_next sought before o [] zero h hs is = absurd cc
latest_next sought before o [] (suc i) h hs is = absurd cc
latest_next sought before o (x ∷ xs) zero h hs is = let same : x ≡ h = cc in latest_first sought before o x [] ∙ (rw same refl)
latest_next sought before o (x ∷ xs) (suc i) h hs is =
    let more : before + 1 + (i + 1) ≡ before + (suc i + 1) = omega arith in
    latest_first sought before o x (take (suc i) xs)
    ∙ latest_next sought (before + 1) (if is_sought sought x then Some (before + 1) else o) xs i h hs is
    ∙ (rw (more, ← latest_first sought before o x (take i xs)) refl)

take_none : (xs : List Viewed) (i : ℕ) → drop i xs ≡ [] → take (suc i) xs ≡ take i xs
take_none [] zero is = refl
take_none [] (suc i) is = refl
take_none (x ∷ xs) zero is = absurd cc
take_none (x ∷ xs) (suc i) is = ap (λ (ys : List Viewed). x ∷ ys) (take_none xs i is)

-- the latest one so far, once another message was taken
pub latest_kept : {A : Type 0} (view : A → Viewed) (sought : Sought) (r : Option A) (all rest new : List Viewed) (i : ℕ) (latest after : Option ℕ)
    → rest ≡ drop i all → MatchOption r ((rest ≡ []) × (new ≡ [])) (λ x. rest ≡ view x ∷ new)
    → latest ≡ last_or None (places_behind 0 sought (take i all))
    → MatchOption r (after ≡ latest) (λ x. after ≡ (if is_sought sought (view x) then Some (i + 1) else latest))
    → after ≡ last_or None (places_behind 0 sought (take (i + 1) all))
latest_kept view sought None all rest new i latest after is steps so_far one =
    let next : suc i ≡ i + 1 = omega arith in
    one ∙ so_far ∙ ap (λ (hs : List Viewed). last_or None (places_behind 0 sought hs)) (sym (take_none all i (sym is ∙ steps.0)))
    ∙ ap (λ (k : ℕ). last_or None (places_behind 0 sought (take k all))) next
latest_kept view sought (Some x) all rest new i latest after is steps so_far one =
    let next : suc i ≡ i + 1 = omega arith in
    let here : i + 1 ≡ 0 + (i + 1) = omega arith in
    one
    ∙ ap (λ (k : ℕ). if is_sought sought (view x) then Some k else latest) here
    ∙ ap (λ (o : Option ℕ). if is_sought sought (view x) then Some (0 + (i + 1)) else o) so_far
    ∙ sym (latest_next sought 0 None all i (view x) new (sym is ∙ steps))
    ∙ ap (λ (k : ℕ). last_or None (places_behind 0 sought (take k all))) next

-- the first one that is sought is a later one
first_later : (sought : Sought) (before : ℕ) (h : Viewed) (hs : List Viewed) (r : Option ℕ) → is_sought sought h ≡ false
    → MatchOption r (length hs ≡ position_or_len (is_sought sought) hs) (λ place. place ≡ before + 1 + 1 + position_or_len (is_sought sought) hs)
    → MatchOption r (length (h ∷ hs) ≡ position_or_len (is_sought sought) (h ∷ hs)) (λ place. place ≡ before + 1 + position_or_len (is_sought sought) (h ∷ hs))
first_later sought before h hs None other so = rw other (omega (arith, so))
first_later sought before h hs (Some place) other so = rw other (omega (arith, so))

-- its place, where there is one
pub first_place : (sought : Sought) (before : ℕ) (hs : List Viewed) (r : Option ℕ) → r ≡ numbered 1 (places_behind before sought hs)
    → MatchOption r (length hs ≡ position_or_len (is_sought sought) hs) (λ place. place ≡ before + 1 + position_or_len (is_sought sought) hs)
first_place sought before [] None is = refl
first_place sought before [] (Some place) is = absurd cc
first_place sought before (h ∷ hs) r is = by (is_sought sought h) refl (first_place sought (before + 1) hs r)
  where
    by : (met : Bool) → is_sought sought h ≡ met
        → (r ≡ numbered 1 (places_behind (before + 1) sought hs) → MatchOption r (length hs ≡ position_or_len (is_sought sought) hs) (λ place. place ≡ before + 1 + 1 + position_or_len (is_sought sought) hs))
        → MatchOption r (length (h ∷ hs) ≡ position_or_len (is_sought sought) (h ∷ hs)) (λ place. place ≡ before + 1 + position_or_len (is_sought sought) (h ∷ hs))
    by true here later = let one : r ≡ Some (before + 1) = (rw here at is) in rw (here, one) (omega arith)
    by false other later = first_later sought before h hs r other (later (rw other at is))

-- the message of a place, and none past the end
get_next : (xs : List Viewed) (i : ℕ) (h : Viewed) (hs : List Viewed) → drop i xs ≡ h ∷ hs → slice_get xs i ≡ Some h
get_next [] zero h hs is = absurd cc
get_next [] (suc i) h hs is = absurd cc
get_next (x ∷ xs) zero h hs is = let same : x ≡ h = cc in ap (λ (y : Viewed). Some y) same
get_next (x ∷ xs) (suc i) h hs is = get_next xs i h hs is

get_none : (xs : List Viewed) (i : ℕ) → drop i xs ≡ [] → slice_get xs i ≡ None
get_none [] i is = refl
get_none (x ∷ xs) zero is = absurd cc
get_none (x ∷ xs) (suc i) is = get_none xs i is

pub no_message : (all : List Viewed) (number : ℕ) → drop (number - 1) all ≡ [] → message_of_number number all ≡ None
no_message all zero is = refl
no_message all (suc n) is = let one : suc n - 1 ≡ n = omega arith in get_none all n (rw one at is)

a_message : (all : List Viewed) (number : ℕ) (h : Viewed) (hs : List Viewed) → 1 ≤ number → drop (number - 1) all ≡ h ∷ hs → message_of_number number all ≡ Some h
a_message all zero h hs some is = absurd (omega arith)
a_message all (suc n) h hs some is = let one : suc n - 1 ≡ n = omega arith in get_next all n h hs (rw one at is)

pub taken : (r : Option Viewed) (all rest new : List Viewed) (number : ℕ) → 1 ≤ number → rest ≡ drop (number - 1) all
    → MatchOption r ((rest ≡ []) × (new ≡ [])) (λ x. rest ≡ (x.0, x.1) ∷ new) → r ≡ message_of_number number all
taken None all rest new number some is steps = sym (no_message all number (sym is ∙ steps.0))
taken (Some h) all rest new number some is steps = sym (a_message all number h new some (sym is ∙ steps))
