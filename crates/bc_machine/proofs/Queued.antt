-- The queue of inserted messages, and a cursor in it.
use Rattle.std.proofs.Common.{◌≡◌, ◌≢◌, ℕ, zero, suc, ◌+◌, ◌-◌, ◌<◌, ◌≤◌, Bool, true, false, cond, eqb, ne_eqb, ltb, Option, Some, None, List, [], ◌∷◌, ◌++◌, length, take, drop, refl, sym, ap, ap₂, ◌∙◌, subst, arith}
use Rattle.std.specs.Prelude.{slice_get, IsSome}
use Rattle.std.specs.List.{filter}
use Rattle.std.specs.Option.{is_some}
use Rattle.std.proofs.lemmas.List.{append-nil, append_assoc, length-append, length-drop, take_all, take-append-drop, take-append-le, drop_at, drop_all}
use Rattle.std.proofs.lemmas.List.Elements.{filter_map-append, filter-append, All-head, All-tail, All-filter}
use Rattle.std.proofs.lemmas.Bool.{lt-ltb, le-ltb}
use Rattle.std.proofs.lemmas.List.Sums.{sum_by_push, length-filter, count_by-le-length}
use Rattle.std.proofs.lemmas.Option.{slice_get_within}
use Rattle.controller_host.specs.Values.{InsertionValue}
use Rattle.bc_machine.specs.declared.placed.Placed.{Placed}
use Rattle.bc_machine.specs.declared.placed.HostAction.{HostAction}
use Rattle.bc_machine.specs.declared.placed.HostAction.TheVariants.{Terminal, Controller}
use Rattle.bc_machine.specs.declared.agenda.Cursor.{Cursor}
use Rattle.bc_machine.specs.MadeMessages.{MadeMessage, own, inserted}
use Rattle.bc_machine.specs.Hosting.{placed_at, placed_up_to, insertion_of, inserts_up_to, inserted_in, is_inserted, queue_at, first_of, next_insertion}
use Rattle.bc_machine.specs.Agendas.{in_front, inserts_among, IsCursor, IsHead}
use Rattle.bc_machine.specs.Asking.{IsInsertAt}
use Rattle.bc_machine.specs.Schedules.{MayControl, is_control}
use Rattle.mil_message.specs.declared.forms.Form.{Form}

-- ---- lists

pub regroup : {X : Type 0} (a b c d : List X) → (a ++ (b ++ c)) ++ d ≡ (a ++ b) ++ (c ++ d)
regroup a b c d = ap (λ v. v ++ d) (sym (append_assoc a b c)) ∙ append_assoc (a ++ b) c d

pub take_both : {X : Type 0} (n : ℕ) (xs ys : List X) → take n (xs ++ ys) ≡ take n xs ++ take (n - length xs) ys
take_both zero [] ys = refl
take_both (suc n) [] ys = let all : suc n ≡ suc n - 0 = omega arith in ap (λ k. take k ys) all
take_both zero (x ∷ xs) ys = let none : 0 ≡ 0 - suc (length xs) = omega arith in ap (λ k. take k ys) none
take_both {X} (suc n) (x ∷ xs) ys =
    let less : n - length xs ≡ suc n - suc (length xs) = omega arith in
    ap (λ (v : List X). x ∷ v) (take_both n xs ys ∙ ap (λ k. take n xs ++ take k ys) less)

pub drop_both : {X : Type 0} (n : ℕ) (xs ys : List X) → drop n (xs ++ ys) ≡ drop n xs ++ drop (n - length xs) ys
drop_both zero [] ys = refl
drop_both (suc n) [] ys = let all : suc n ≡ suc n - 0 = omega arith in ap (λ k. drop k ys) all
drop_both zero (x ∷ xs) ys = let none : 0 ≡ 0 - suc (length xs) = omega arith in ap (λ k. (x ∷ xs) ++ drop k ys) none
drop_both (suc n) (x ∷ xs) ys =
    let less : n - length xs ≡ suc n - suc (length xs) = omega arith in
    drop_both n xs ys ∙ ap (λ k. drop n xs ++ drop k ys) less

pub get_behind : {X : Type 0} (xs ys : List X) (n : ℕ) → slice_get (xs ++ ys) (length xs + n) ≡ slice_get ys n
get_behind [] ys n = let plain : 0 + n ≡ n = omega arith in ap (slice_get ys) plain
get_behind (x ∷ xs) ys n =
    let next : suc (length xs) + n ≡ suc (length xs + n) = omega arith in
    ap (slice_get (x ∷ (xs ++ ys))) next ∙ get_behind xs ys n

pub get_left : {X : Type 0} (xs ys : List X) (n : ℕ) (x : X) → slice_get xs n ≡ Some x → slice_get (xs ++ ys) n ≡ Some x
get_left [] ys n x e = absurd cc
get_left (y ∷ xs) ys zero x e = e
get_left (y ∷ xs) ys (suc n) x e = get_left xs ys n x e

-- ---- what is put in

pub among_both : (xs ys : List Placed) → inserts_among (xs ++ ys) ≡ inserts_among xs ++ inserts_among ys
among_both xs ys = filter_map-append (λ (p : Placed). insertion_of p.action) xs ys

pub among_parts : (n : ℕ) (xs : List Placed) → inserts_among xs ≡ inserts_among (take n xs) ++ inserts_among (drop n xs)
among_parts n xs = ap inserts_among (sym (take-append-drop n xs)) ∙ among_both (take n xs) (drop n xs)

-- the first of those from a place on, where an insert stands there
pub first_insert : (xs : List Placed) (i : ℕ) (p : Placed) (x : InsertionValue) → slice_get xs i ≡ Some p → insertion_of p.action ≡ Some x
    → inserts_among (drop i xs) ≡ x ∷ inserts_among (drop (suc i) xs)
first_insert [] i p x e h = absurd cc
first_insert (y ∷ ys) zero p x e h =
    let same : y ≡ p = cc in
    let is : insertion_of y.action ≡ Some x = ap (λ (q : Placed). insertion_of q.action) same ∙ h in
    rw is refl
first_insert (y ∷ ys) (suc i) p x e h = first_insert ys i p x e h

-- the number of those in front, one place on
pub one_more_in_front : (xs : List Placed) (i : ℕ) (p : Placed) (x : InsertionValue) → slice_get xs i ≡ Some p → insertion_of p.action ≡ Some x
    → length (inserts_among (take (i + 1) xs)) ≡ length (inserts_among (take i xs)) + 1
one_more_in_front xs i p x e h =
    let here = ap length (first_insert xs i p x e h) in
    let all = ap length (among_parts i xs) in
    let next = ap length (among_parts (suc i) xs) in
    let plus : i + 1 ≡ suc i = omega arith in
    let same : length (inserts_among (take (i + 1) xs)) ≡ length (inserts_among (take (suc i) xs)) = ap (λ k. length (inserts_among (take k xs))) plus in
    let here_is : length (inserts_among (drop i xs)) ≡ suc (length (inserts_among (drop (suc i) xs))) = here in
    let all_is : length (inserts_among xs) ≡ length (inserts_among (take i xs)) + length (inserts_among (drop i xs)) = all ∙ length-append (inserts_among (take i xs)) (inserts_among (drop i xs)) in
    let next_is : length (inserts_among xs) ≡ length (inserts_among (take (suc i) xs)) + length (inserts_among (drop (suc i) xs)) = next ∙ length-append (inserts_among (take (suc i) xs)) (inserts_among (drop (suc i) xs)) in
    omega (arith, here_is, all_is, next_is, same)

-- ---- numbers up to one, and up to a later one

pub up_to_more : (k n m : ℕ) (ps : List Placed) → m ≡ n + k → (rest : List Placed) × (placed_up_to m ps ≡ placed_up_to n ps ++ rest)
unfolding placed_up_to
up_to_more zero n m ps e =
    let same : m ≡ n = omega (arith, e) in
    ([], ap (λ i. placed_up_to i ps) same ∙ sym (append-nil (placed_up_to n ps)))
up_to_more (suc k) n zero ps e = absurd (omega (arith, e))
up_to_more (suc k) n (suc m) ps e =
    let r = up_to_more k n m ps (omega (arith, e)) in
    (r.0 ++ placed_at (suc m) ps, ap (λ xs. xs ++ placed_at (suc m) ps) r.1 ∙ append_assoc (placed_up_to n ps) r.0 (placed_at (suc m) ps))

-- all up to a number: those in front of a place there, and those from it on
pub whole : (number passed : ℕ) (ps : List Placed) → 1 ≤ number
    → placed_up_to number ps ≡ (placed_up_to (number - 1) ps ++ take passed (placed_at number ps)) ++ drop passed (placed_at number ps)
unfolding placed_up_to
whole zero passed ps low = absurd (omega (arith, low))
whole (suc j) passed ps low =
    let xs = placed_at (suc j) ps in
    let before : j ≡ suc j - 1 = omega arith in
    ap (λ ys. placed_up_to j ps ++ ys) (sym (take-append-drop passed xs))
    ∙ sym (append_assoc (placed_up_to j ps) (take passed xs) (drop passed xs))
    ∙ ap (λ k. (placed_up_to k ps ++ take passed xs) ++ drop passed xs) before

module _ (c : Cursor) (ps : List Placed) (first : 1 ≤ c.number) where
  -- up to a number that is no lower: those in front, those at its own number, and more
  pub up_to_from : (n : ℕ) → c.number ≤ n → (rest : List Placed) × (placed_up_to n ps ≡ in_front c ps ++ (drop c.passed (placed_at c.number ps) ++ rest))
  up_to_from n le =
      let r = up_to_more (n - c.number) c.number n ps (omega (arith, le)) in
      (r.0, r.1 ∙ ap (λ xs. xs ++ r.0) (whole c.number c.passed ps first) ∙ append_assoc (in_front c ps) (drop c.passed (placed_at c.number ps)) r.0)

  inserts_from : (n : ℕ) → c.number ≤ n → (rest : List InsertionValue) × (inserts_up_to n ps ≡ inserts_among (in_front c ps) ++ (inserts_among (drop c.passed (placed_at c.number ps)) ++ rest))
  inserts_from n le =
      let r = up_to_from n le in
      let here = drop c.passed (placed_at c.number ps) in
      (inserts_among r.0, ap inserts_among r.1 ∙ among_both (in_front c ps) (here ++ r.0) ∙ ap (λ xs. inserts_among (in_front c ps) ++ xs) (among_both here r.0))

  -- the queue: those from the cursor on
  pub queue_from : (n : ℕ) (made : List MadeMessage) → c.number ≤ n → length (inserts_among (in_front c ps)) ≡ inserted_in made
      → (rest : List InsertionValue) × (queue_at n ps made ≡ inserts_among (drop c.passed (placed_at c.number ps)) ++ rest)
  queue_from n made le sent =
      let r = inserts_from n le in
      (r.0, ap (drop (inserted_in made)) r.1 ∙ drop_at (inserts_among (in_front c ps)) _ (inserted_in made) sent)

  pub sent_within : (n : ℕ) → c.number ≤ n → length (inserts_among (in_front c ps)) ≤ length (inserts_up_to n ps)
  sent_within n le =
      let r = inserts_from n le in
      let long : length (inserts_up_to n ps) ≡ length (inserts_among (in_front c ps)) + length (inserts_among (drop c.passed (placed_at c.number ps)) ++ r.0) =
      ap length r.1 ∙ length-append (inserts_among (in_front c ps)) _ in
      omega (arith, long)

  -- the next number, where no insert is left at this one
  pub next_number : (made : List MadeMessage) → length (inserts_among (in_front c ps)) ≡ inserted_in made → inserts_among (drop c.passed (placed_at c.number ps)) ≡ []
      → length (inserts_among (in_front (record { number = c.number + 1; passed = 0 }) ps)) ≡ inserted_in made
  next_number made sent none =
      let back : c.number + 1 - 1 ≡ c.number = omega arith in
      let front : in_front (record { number = c.number + 1; passed = 0 }) ps ≡ placed_up_to c.number ps = append-nil (placed_up_to (c.number + 1 - 1) ps) ∙ ap (λ k. placed_up_to k ps) back in
      let all : inserts_among (placed_up_to c.number ps) ≡ inserts_among (in_front c ps) ++ inserts_among (drop c.passed (placed_at c.number ps)) =
      ap inserts_among (whole c.number c.passed ps first) ∙ among_both (in_front c ps) (drop c.passed (placed_at c.number ps)) in
      let same : inserts_among (in_front (record { number = c.number + 1; passed = 0 }) ps) ≡ inserts_among (in_front c ps) =
      ap inserts_among front ∙ all ∙ ap (λ xs. inserts_among (in_front c ps) ++ xs) none ∙ append-nil (inserts_among (in_front c ps)) in
      ap length same ∙ sent

  -- behind all numbers up to one: nothing waits there
  pub none_behind : (n : ℕ) (made : List MadeMessage) → n < c.number → length (inserts_among (in_front c ps)) ≡ inserted_in made → queue_at n ps made ≡ []
  none_behind n made less sent =
      let r = up_to_more (c.number - 1 - n) n (c.number - 1) ps (omega (arith, less)) in
      let at = take c.passed (placed_at c.number ps) in
      let front : inserts_among (in_front c ps) ≡ inserts_up_to n ps ++ inserts_among (r.0 ++ at) =
      ap (λ xs. inserts_among (xs ++ at)) r.1 ∙ ap inserts_among (append_assoc (placed_up_to n ps) r.0 at) ∙ among_both (placed_up_to n ps) (r.0 ++ at) in
      let long : length (inserts_among (in_front c ps)) ≡ length (inserts_up_to n ps) + length (inserts_among (r.0 ++ at)) = ap length front ∙ length-append (inserts_up_to n ps) _ in
      drop_all (inserted_in made) (inserts_up_to n ps) (omega (arith, long, sent))

-- ---- the head

-- the same cursor, at the place of the next insert
pub sent_at : (number passed place : ℕ) (ps : List Placed) → inserts_among (take place (placed_at number ps)) ≡ inserts_among (take passed (placed_at number ps))
    → inserts_among (in_front (record { number = number; passed = place }) ps) ≡ inserts_among (in_front (record { number = number; passed = passed }) ps)
sent_at number passed place ps same =
    let before = placed_up_to (number - 1) ps in
    let at = placed_at number ps in
    among_both before (take place at) ∙ ap (λ xs. inserts_among before ++ xs) same ∙ sym (among_both before (take passed at))

some_is : {X : Type 0} (o : Option X) (x : X) → o ≡ Some x → IsSome o
some_is o x e = ap is_some e

pub head_there : (number passed place : ℕ) (x : InsertionValue) (ps : List Placed) (made : List MadeMessage) → 1 ≤ number → number ≤ length made + 1
    → length (inserts_among (in_front (record { number = number; passed = passed }) ps)) ≡ inserted_in made → IsInsertAt (placed_at number ps) passed place x
    → IsHead (record { number = number; passed = place }) ps made
head_there number passed place x ps made first low sent at =
    let here = slice_get_within (placed_at number ps) place at.one at.there in
    record {
      cursor = record { first = first; number = low; passed = omega (arith, here); sent = ap length (sent_at number passed place ps at.none) ∙ sent };
      one = at.one;
      there = at.there;
      inserts = some_is _ x at.inserts;
    }

pub first_is : (number passed place : ℕ) (x : InsertionValue) (ps : List Placed) (made : List MadeMessage) → 1 ≤ number → number ≤ length made + 1
    → length (inserts_among (in_front (record { number = number; passed = passed }) ps)) ≡ inserted_in made → IsInsertAt (placed_at number ps) passed place x
    → first_of (queue_at (length made + 1) ps made) ≡ Some x
first_is number passed place x ps made first low sent at =
    let q = queue_from (record { number = number; passed = place }) ps first (length made + 1) made low (ap length (sent_at number passed place ps at.none) ∙ sent) in
    let here = first_insert (placed_at number ps) place at.one x at.there at.inserts in
    ap first_of (q.1 ∙ ap (λ xs. xs ++ q.0) here)

-- an insert that stands there is among those from there on
pub not_none : (xs : List Placed) (i : ℕ) (p : Placed) → slice_get xs i ≡ Some p → IsSome (insertion_of p.action) → inserts_among (drop i xs) ≡ [] → ⊥
not_none xs i p there some none = by_case (insertion_of p.action) refl some
  where
    by_case : (o : Option InsertionValue) → insertion_of p.action ≡ o → IsSome o → ⊥
    by_case None e h = absurd cc
    by_case (Some x) e h = let is = sym (first_insert xs i p x there e) ∙ none in absurd cc

-- ---- one message more

inserted_more : (made : List MadeMessage) (m : MadeMessage) → inserted_in (made ++ m ∷ []) ≡ inserted_in made + cond (is_inserted m) 1 0
inserted_more made m = sum_by_push (λ (v : MadeMessage). cond (is_inserted v) 1 0) made m

pub more_inserted : (made : List MadeMessage) → inserted_in (made ++ inserted ∷ []) ≡ inserted_in made + 1
more_inserted made = inserted_more made inserted

pub more_own : (made : List MadeMessage) (form : Form) → inserted_in (made ++ own form ∷ []) ≡ inserted_in made
more_own made form = let e = inserted_more made (own form) in omega (arith, e)

pub more_made : (made : List MadeMessage) (m : MadeMessage) → length (made ++ m ∷ []) ≡ length made + 1
more_made made m = length-append made (m ∷ [])

-- the cursor behind the head, once it was sent
sent_more : (c : Cursor) (ps : List Placed) (made : List MadeMessage) (p : Placed) (o : Option InsertionValue) → slice_get (placed_at c.number ps) c.passed ≡ Some p → insertion_of p.action ≡ o → IsSome o
    → length (inserts_among (in_front c ps)) ≡ inserted_in made → length (inserts_among (in_front (record { number = c.number; passed = c.passed + 1 }) ps)) ≡ inserted_in (made ++ inserted ∷ [])
sent_more c ps made p None there e some sent = absurd cc
sent_more c ps made p (Some x) there e some sent =
    let before = placed_up_to (c.number - 1) ps in
    let at = placed_at c.number ps in
    let one = one_more_in_front at c.passed p x there e in
    let new : length (inserts_among (before ++ take (c.passed + 1) at)) ≡ length (inserts_among before) + length (inserts_among (take (c.passed + 1) at)) =
    ap length (among_both before (take (c.passed + 1) at)) ∙ length-append (inserts_among before) (inserts_among (take (c.passed + 1) at)) in
    let old : length (inserts_among (before ++ take c.passed at)) ≡ length (inserts_among before) + length (inserts_among (take c.passed at)) =
    ap length (among_both before (take c.passed at)) ∙ length-append (inserts_among before) (inserts_among (take c.passed at)) in
    omega (arith, one, new, old, sent, more_inserted made)

pub cursor_inserted : (c : Cursor) (ps : List Placed) (made : List MadeMessage) → IsHead c ps made → IsCursor (record { number = c.number; passed = c.passed + 1 }) ps (made ++ inserted ∷ [])
cursor_inserted c ps made head =
    let is = head.cursor in
    let long = more_made made inserted in
    let here = slice_get_within (placed_at c.number ps) c.passed head.one head.there in
    record {
      first = is.first;
      number = omega (arith, is.number, long);
      passed = omega (arith, here);
      sent = sent_more c ps made head.one (insertion_of head.one.action) head.there refl head.inserts is.sent;
    }

-- a message of the script leaves it where it stands
pub cursor_own : (c : Cursor) (ps : List Placed) (made : List MadeMessage) (form : Form) → IsCursor c ps made → IsCursor c ps (made ++ own form ∷ [])
cursor_own c ps made form is = record {
  first = is.first;
  number = omega (arith, is.number, more_made made (own form));
  passed = is.passed;
  sent = is.sent ∙ sym (more_own made form);
}

-- on to the number of the next message, where nothing waits
pub cursor_passes : (c : Cursor) (ps : List Placed) (made : List MadeMessage) → IsCursor c ps made → c.number ≤ length made → queue_at (length made + 1) ps made ≡ []
    → IsCursor (record { number = length made + 1; passed = 0 }) ps made
cursor_passes c ps made is low none =
    let n = length made in
    let least = sent_within c ps is.first n low in
    let r = up_to_more 1 n (n + 1) ps refl in
    let later : length (inserts_up_to (n + 1) ps) ≡ length (inserts_up_to n ps) + length (inserts_among r.0) =
    ap (λ xs. length (inserts_among xs)) r.1 ∙ ap length (among_both (placed_up_to n ps) r.0) ∙ length-append (inserts_up_to n ps) _ in
    let left : 0 ≡ length (inserts_up_to (n + 1) ps) - inserted_in made = sym (ap length none) ∙ length-drop (inserted_in made) (inserts_up_to (n + 1) ps) in
    let back : n + 1 - 1 ≡ n = omega arith in
    let front : inserts_among (in_front (record { number = n + 1; passed = 0 }) ps) ≡ inserts_up_to n ps =
    ap inserts_among (append-nil (placed_up_to (n + 1 - 1) ps) ∙ ap (λ k. placed_up_to k ps) back) in
    record {
      first = omega arith;
      number = omega arith;
      passed = omega arith;
      sent = ap length front ∙ (omega (arith, least, later, left, is.sent));
    }

pub cursor_begins : (ps : List Placed) → IsCursor (record { number = 1; passed = 0 }) ps []
unfolding placed_up_to
cursor_begins ps = record { first = omega arith; number = omega arith; passed = omega arith; sent = refl }

-- ---- an action at the next message

other_numbers : (n : ℕ) (ps : List Placed) (one : Placed) → one.number ≢ n → placed_at n (ps ++ one ∷ []) ≡ placed_at n ps
other_numbers n ps one other =
    filter-append (λ (p : Placed). eqb p.number n) ps (one ∷ [])
    ∙ ap (λ (b : Bool). placed_at n ps ++ cond b (one ∷ []) []) (ne_eqb one.number n other)
    ∙ append-nil (placed_at n ps)

pub up_to_added : (n : ℕ) (ps : List Placed) (one : Placed) → n < one.number → placed_up_to n (ps ++ one ∷ []) ≡ placed_up_to n ps
unfolding placed_up_to
up_to_added zero ps one above = refl
up_to_added (suc n) ps one above =
    ap₂ (λ (xs ys : List Placed). xs ++ ys) (up_to_added n ps one (omega (arith, above))) (other_numbers (suc n) ps one (λ e. omega (arith, e, above)))

pub cursor_added : (c : Cursor) (ps : List Placed) (made : List MadeMessage) (one : Placed) → one.number ≡ length made + 1 → IsCursor c ps made → IsCursor c (ps ++ one ∷ []) made
cursor_added c ps made one at is =
    let behind = filter (λ (p : Placed). eqb p.number c.number) (one ∷ []) in
    let here : placed_at c.number (ps ++ one ∷ []) ≡ placed_at c.number ps ++ behind = filter-append (λ (p : Placed). eqb p.number c.number) ps (one ∷ []) in
    let front : in_front c (ps ++ one ∷ []) ≡ in_front c ps =
    ap₂ (λ (xs ys : List Placed). xs ++ ys) (up_to_added (c.number - 1) ps one (omega (arith, is.number, is.first, at)))
    (ap (take c.passed) here ∙ take-append-le c.passed (placed_at c.number ps) behind is.passed) in
    let long : length (placed_at c.number (ps ++ one ∷ [])) ≡ length (placed_at c.number ps) + length behind = ap length here ∙ length-append (placed_at c.number ps) behind in
    record {
      first = is.first;
      number = is.number;
      passed = omega (arith, is.passed, long);
      sent = ap (λ xs. length (inserts_among xs)) front ∙ is.sent;
    }

-- ---- two lists of actions, one behind the other

pub at_both : (n : ℕ) (ps qs : List Placed) → placed_at n (ps ++ qs) ≡ placed_at n ps ++ placed_at n qs
at_both n ps qs = filter-append (λ (p : Placed). eqb p.number n) ps qs

pub inserts_both : (n : ℕ) (ps qs : List Placed) → length (inserts_up_to n (ps ++ qs)) ≡ length (inserts_up_to n ps) + length (inserts_up_to n qs)
unfolding placed_up_to
inserts_both zero ps qs = refl
inserts_both (suc n) ps qs =
    let whole_is = ap length (among_both (placed_up_to n (ps ++ qs)) (placed_at (suc n) (ps ++ qs))) ∙ length-append (inserts_up_to n (ps ++ qs)) (inserts_among (placed_at (suc n) (ps ++ qs))) in
    let first = ap length (among_both (placed_up_to n ps) (placed_at (suc n) ps)) ∙ length-append (inserts_up_to n ps) (inserts_among (placed_at (suc n) ps)) in
    let second = ap length (among_both (placed_up_to n qs) (placed_at (suc n) qs)) ∙ length-append (inserts_up_to n qs) (inserts_among (placed_at (suc n) qs)) in
    let here = ap length (ap inserts_among (at_both (suc n) ps qs) ∙ among_both (placed_at (suc n) ps) (placed_at (suc n) qs)) ∙ length-append (inserts_among (placed_at (suc n) ps)) (inserts_among (placed_at (suc n) qs)) in
    omega (arith, inserts_both n ps qs, whole_is, first, second, here)

-- the first insert of two lists, in the one or in the other
pub at_left : (xs ys : List Placed) (passed place : ℕ) (x : InsertionValue) → IsInsertAt xs passed place x → IsInsertAt (xs ++ ys) passed place x
at_left xs ys passed place x at =
    let within = slice_get_within xs place at.one at.there in
    record {
      order = at.order;
      one = at.one;
      there = get_left xs ys place at.one at.there;
      inserts = at.inserts;
      none = ap inserts_among (take-append-le place xs ys (omega (arith, within))) ∙ at.none ∙ sym (ap inserts_among (take-append-le passed xs ys (omega (arith, within, at.order))));
    }

pub at_right : (xs ys : List Placed) (passed place : ℕ) (x : InsertionValue) → inserts_among (drop passed xs) ≡ [] → IsInsertAt ys (passed - length xs) place x
    → IsInsertAt (xs ++ ys) passed (length xs + place) x
at_right xs ys passed place x none at =
    let n = length xs in
    let first : inserts_among xs ≡ inserts_among (take passed xs) = among_parts passed xs ∙ ap (λ zs. inserts_among (take passed xs) ++ zs) none ∙ append-nil (inserts_among (take passed xs)) in
    let whole_left : take (n + place) xs ≡ xs = take_all (n + place) xs (omega arith) in
    let more : n + place - n ≡ place = omega arith in
    let left : inserts_among (take (n + place) (xs ++ ys)) ≡ inserts_among xs ++ inserts_among (take place ys) =
    ap inserts_among (take_both (n + place) xs ys ∙ ap₂ (λ (v : List Placed) k. v ++ take k ys) whole_left more) ∙ among_both xs (take place ys) in
    let right : inserts_among (take passed (xs ++ ys)) ≡ inserts_among (take passed xs) ++ inserts_among (take (passed - n) ys) =
    ap inserts_among (take_both passed xs ys) ∙ among_both (take passed xs) (take (passed - n) ys) in
    record {
      order = omega (arith, at.order);
      one = at.one;
      there = get_behind xs ys place ∙ at.there;
      inserts = at.inserts;
      none = left ∙ ap₂ (λ (v w : List InsertionValue). v ++ w) first at.none ∙ sym right;
    }

pub none_both : (xs ys : List Placed) (passed : ℕ) → inserts_among (drop passed xs) ≡ [] → inserts_among (drop (passed - length xs) ys) ≡ [] → inserts_among (drop passed (xs ++ ys)) ≡ []
none_both xs ys passed first second =
    ap inserts_among (drop_both passed xs ys) ∙ among_both (drop passed xs) (drop (passed - length xs) ys) ∙ ap₂ (λ (v w : List InsertionValue). v ++ w) first second

-- ---- where the host asks for nothing

no_insert : (a : HostAction) → (is_control a ≡ true → false ≡ true) → insertion_of a ≡ None
no_insert (Terminal address action) h = refl
no_insert (Controller asked) h = absurd (let e = h refl in cc)

pub no_inserts : (ps : List Placed) → MayControl false ps → inserts_among ps ≡ []
no_inserts [] none = refl
no_inserts (p ∷ ps) none =
    let rest = no_inserts ps (All-tail (λ (q : Placed). is_control q.action ≡ true → false ≡ true) p ps none) in
    let is : insertion_of p.action ≡ None = no_insert p.action (All-head (λ (q : Placed). is_control q.action ≡ true → false ≡ true) p ps none) in
    rw is rest

pub none_up_to : (n : ℕ) (ps : List Placed) → MayControl false ps → inserts_up_to n ps ≡ []
unfolding placed_up_to
none_up_to zero ps none = refl
none_up_to (suc n) ps none =
    among_both (placed_up_to n ps) (placed_at (suc n) ps)
    ∙ ap₂ (λ (v w : List InsertionValue). v ++ w) (none_up_to n ps none)
    (no_inserts (placed_at (suc n) ps) (All-filter (λ (p : Placed). eqb p.number (suc n)) (λ (p : Placed). is_control p.action ≡ true → false ≡ true) ps none))

cond_none : {X : Type 0} (b : Bool) (o : Option X) → o ≡ None → cond b o None ≡ None
cond_none true o e = e
cond_none false o e = refl

pub next_none : (most : ℕ) (ps : List Placed) (made : List MadeMessage) → queue_at (length made + 1) ps made ≡ [] → next_insertion ps most made ≡ None
next_none most ps made none = cond_none (ltb (inserted_in made) most) (first_of (queue_at (length made + 1) ps made)) (ap first_of none)

pub none_asked : (n : ℕ) (ps : List Placed) (made : List MadeMessage) → MayControl false ps → queue_at n ps made ≡ []
none_asked n ps made none = ap (drop (inserted_in made)) (none_up_to n ps none) ∙ drop_all (inserted_in made) [] (omega arith)

pub next_is : (most : ℕ) (ps : List Placed) (made : List MadeMessage) (o : Option InsertionValue) → inserted_in made < most → o ≡ first_of (queue_at (length made + 1) ps made) → o ≡ next_insertion ps most made
next_is most ps made o less is = is ∙ sym (ap (λ b. cond b (first_of (queue_at (length made + 1) ps made)) None) (lt-ltb (inserted_in made) most less))

pub next_full : (most : ℕ) (ps : List Placed) (made : List MadeMessage) → most ≤ inserted_in made → None ≡ next_insertion ps most made
next_full most ps made le = sym (ap (λ b. cond b (first_of (queue_at (length made + 1) ps made)) None) (le-ltb (inserted_in made) most le))

-- ---- the first insert at a number, of two lists

pub at_left_of : (n : ℕ) (ps qs : List Placed) (passed place : ℕ) (x : InsertionValue) → IsInsertAt (placed_at n ps) passed place x → IsInsertAt (placed_at n (ps ++ qs)) passed place x
at_left_of n ps qs passed place x at = subst (λ v. IsInsertAt v passed place x) (sym (at_both n ps qs)) (at_left (placed_at n ps) (placed_at n qs) passed place x at)

pub at_right_of : (n : ℕ) (ps qs : List Placed) (passed before place : ℕ) (x : InsertionValue) → before ≡ length (placed_at n ps) → inserts_among (drop passed (placed_at n ps)) ≡ [] → IsInsertAt (placed_at n qs) (passed - before) place x
    → IsInsertAt (placed_at n (ps ++ qs)) passed (before + place) x
at_right_of n ps qs passed before place x e none at =
    subst (λ v. IsInsertAt v passed (before + place) x) (sym (at_both n ps qs))
    (subst (λ k. IsInsertAt (placed_at n ps ++ placed_at n qs) passed (k + place) x) (sym e)
    (at_right (placed_at n ps) (placed_at n qs) passed place x none (subst (λ k. IsInsertAt (placed_at n qs) (passed - k) place x) e at)))

pub none_of_both : (n : ℕ) (ps qs : List Placed) (passed before : ℕ) → before ≡ length (placed_at n ps) → inserts_among (drop passed (placed_at n ps)) ≡ [] → inserts_among (drop (passed - before) (placed_at n qs)) ≡ []
    → inserts_among (drop passed (placed_at n (ps ++ qs))) ≡ []
none_of_both n ps qs passed before e first second =
    ap (λ v. inserts_among (drop passed v)) (at_both n ps qs)
    ∙ none_both (placed_at n ps) (placed_at n qs) passed first (ap (λ k. inserts_among (drop (passed - k) (placed_at n qs))) (sym e) ∙ second)

-- it stands behind fewer actions than there are
pub within_both : (n : ℕ) (ps qs : List Placed) (passed before place : ℕ) (x : InsertionValue) → before ≡ length (placed_at n ps) → IsInsertAt (placed_at n qs) passed place x → before + place < length (ps ++ qs)
within_both n ps qs passed before place x e at =
    let here = slice_get_within (placed_at n qs) place at.one at.there in
    let first = ap length (at_both n ps qs) ∙ length-append (placed_at n ps) (placed_at n qs) in
    let few = length-filter (λ (p : Placed). eqb p.number n) (ps ++ qs) in
    let most = count_by-le-length (λ (p : Placed). eqb p.number n) (ps ++ qs) in
    omega (arith, here, first, few, most, e)

some_first : {X : Type 0} (b : Bool) (o : Option X) (x : X) → cond b o None ≡ Some x → IsSome o
some_first true o x e = ap is_some e
some_first false o x e = absurd cc

-- where one comes next, one waits
pub next_waits : (most : ℕ) (ps : List Placed) (made : List MadeMessage) (x : InsertionValue) → next_insertion ps most made ≡ Some x → IsSome (first_of (queue_at (length made + 1) ps made))
next_waits most ps made x e = some_first (ltb (inserted_in made) most) (first_of (queue_at (length made + 1) ps made)) x e

-- where none waits, none is the first
pub none_waits : (q : List InsertionValue) → q ≡ [] → IsSome (first_of q) → ⊥
none_waits [] e h = absurd cc
none_waits (x ∷ xs) e h = absurd cc
