-- The latest message before a place whose outcome makes a condition true: of one job, and of all.
use Rattle.std.proofs.Common.{◌≡◌, ℕ, ◌+◌, ◌-◌, ◌<◌, ◌≤◌, max, List, [], ◌∷◌, ◌++◌, length, take, get_or, Option, Some, None, sym, ap, ◌∙◌, subst, ◌⊎◌, ⊎_elim, arith}
use Rattle.std.proofs.lemmas.Bool.{cases_lt}
use Rattle.std.proofs.lemmas.List.{take_more, take_all}
use Rattle.frame_tree.specs.Tree.{Condition}
use Rattle.ch11_reader.specs.Recording.{Found}
use Rattle.replay.specs.Places.{heard_channels}
use Rattle.replay.specs.Moves.{ReplayState, IsLatestMet, IsNowhereBefore}
use Rattle.replay.specs.Tracks.{Pair, jobs_in, parts_in}
use Rattle.replay.specs.Finding.{IsMetBy, IsMetIn, IsLatest, FindsBack, later}
use Rattle.replay.proofs.FirstMet.{in_first, in_last, in_one, met_of, of_met}

-- ---- one job

-- messages are counted from 1
pub none_at_first : (channels : List ℕ) (test : Condition) (p : Pair) (m : ℕ) → m < 1 → ¬ IsMetBy channels test p m
none_at_first channels test p m first met = omega (arith, met.next)

module _ (P : ℕ → Type 0) (n : ℕ) where
  -- number n has the property
  pub latest_here : P n → IsLatest (n + 1) P n
  latest_here met = record { before = omega arith; met = met; latest = λ m past before. absurd (omega arith) }

  none_up_to : (m : ℕ) → m < n + 1 → (m < n → ¬ P m) → ¬ P n → ¬ P m
  none_up_to m before below not_here =
      ⊎_elim below (λ from. let same : n ≡ m = omega (arith, before, from) in subst (λ (k : ℕ). ¬ P k) same not_here) (cases_lt m n)

  -- it does not
  pub latest_still : (r : Option ℕ) → ¬ P n → FindsBack n P r → FindsBack (n + 1) P r
  latest_still None not_here none = λ m before. none_up_to m before (none m) not_here
  latest_still (Some k) not_here l = record { before = omega (arith, l.before); met = l.met; latest = λ m past before. none_up_to m before (l.latest m past) not_here }

-- the place is reached, or is 0, before which there is no message
pub latest_at_end : (channels : List ℕ) (test : Condition) (p : Pair) (place n : ℕ) (r : Option ℕ) → n ≤ place - 1 → place - 1 ≤ n → FindsBack (n + 1) (IsMetBy channels test p) r
    → FindsBack place (IsMetBy channels test p) r
latest_at_end channels test p place n None within reached none = λ m before. none m (omega (arith, before, reached))
latest_at_end channels test p place n (Some k) within reached l = record {
  before = ⊎_elim (λ start. absurd (none_at_first channels test p k (omega (arith, l.before, start, within)) l.met)) (λ some. omega (arith, l.before, some, within)) (cases_lt place 1);
  met = l.met;
  latest = λ m past before. l.latest m past (omega (arith, before, reached));
}

-- ---- of all jobs

module _ (place : ℕ) (P Q R : ℕ → Type 0) (first : (n : ℕ) → P n → R n) (other : (n : ℕ) → Q n → R n) (out : (n : ℕ) → R n → P n ⊎ Q n) where
  finds_back_both : (a b : Option ℕ) → FindsBack place P a → FindsBack place Q b → FindsBack place R (later a b)
  finds_back_both None None fa fb = λ m before r. ⊎_elim (fa m before) (fb m before) (out m r)
  finds_back_both None (Some b) fa fb = record { before = fb.before; met = other b fb.met; latest = λ m past before r. ⊎_elim (fa m before) (fb.latest m past before) (out m r) }
  finds_back_both (Some a) None fa fb = record { before = fa.before; met = first a fa.met; latest = λ m past before r. ⊎_elim (fa.latest m past before) (fb m before) (out m r) }
  finds_back_both (Some a) (Some b) fa fb =
      ⊎_elim
      (λ less. subst (IsLatest place R) (let e : b ≡ max a b = omega (arith, less) in e)
      (record { before = fb.before; met = other b fb.met; latest = λ m past before r. ⊎_elim (fa.latest m (omega (arith, past, less)) before) (fb.latest m past before) (out m r) }))
      (λ le. subst (IsLatest place R) (let e : a ≡ max a b = omega (arith, le) in e)
      (record { before = fa.before; met = first a fa.met; latest = λ m past before r. ⊎_elim (fa.latest m past before) (fb.latest m (omega (arith, past, le)) before) (out m r) }))
      (cases_lt a b)

pub finds_back_more : (channels : List ℕ) (test : Condition) (pairs : List Pair) (p : Pair) (place i : ℕ) (a b c : Option ℕ) → i < length pairs → p ≡ get_or pairs i p
    → FindsBack place (IsMetIn channels test (take i pairs)) a → FindsBack place (IsMetBy channels test p) b → c ≡ later a b → FindsBack place (IsMetIn channels test (take (i + 1) pairs)) c
finds_back_more channels test pairs p place i a b c less is fa fb same =
    subst (λ (r : Option ℕ). FindsBack place (IsMetIn channels test (take (i + 1) pairs)) r) (sym same)
    (subst (λ (ps : List Pair). FindsBack place (IsMetIn channels test ps) (later a b)) (ap (λ (q : Pair). take i pairs ++ q ∷ []) is ∙ sym (take_more pairs i p less))
    (finds_back_both place (IsMetIn channels test (take i pairs)) (IsMetBy channels test p) (IsMetIn channels test (take i pairs ++ p ∷ []))
    (in_first channels test (take i pairs) p) (in_last channels test (take i pairs) p) (in_one channels test (take i pairs) p) a b fa fb))

pub finds_back_all : (channels : List ℕ) (test : Condition) (pairs : List Pair) (place i : ℕ) (r : Option ℕ) → length pairs ≤ i → FindsBack place (IsMetIn channels test (take i pairs)) r
    → FindsBack place (IsMetIn channels test pairs) r
finds_back_all channels test pairs place i r le = subst (λ (ps : List Pair). FindsBack place (IsMetIn channels test ps) r) (take_all i pairs le)

-- ---- of a recording under the debugger

module _ (pairs : List Pair) (found : List Found) (place : ℕ) (channels : List ℕ) (is : channels ≡ heard_channels found) (test : Condition) where
  abbrev state : ReplayState
  state = record { jobs = jobs_in pairs; parts = parts_in pairs; found = found; place = place }

  pub latest_met : (n : ℕ) → IsLatest place (IsMetIn channels test pairs) n → IsLatestMet state test n
  latest_met n l = record {
    before = l.before;
    met = met_of pairs found place channels is test n l.met;
    latest = λ m past before met. l.latest m past before (of_met pairs found place channels is test m met);
  }

  pub nowhere_before : ((m : ℕ) → m < place → ¬ IsMetIn channels test pairs m) → IsNowhereBefore state test
  nowhere_before none m before met = none m before (of_met pairs found place channels is test m met)
