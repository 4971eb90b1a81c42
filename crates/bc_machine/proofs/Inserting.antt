-- The messages of the queue, one after the other.
use Rattle.std.proofs.Common.{◌≡◌, ℕ, zero, suc, ◌+◌, ◌-◌, ◌<◌, ◌≤◌, Bool, true, false, cond, ltb, Option, Some, None, List, [], ◌∷◌, ◌++◌, length, refl, sym, ap, ◌∙◌, ⊎_elim, arith}
use Rattle.std.specs.Prelude.{count_by}
use Rattle.std.proofs.lemmas.Bool.{cases_lt, ltb-true, le-ltb}
use Rattle.std.proofs.lemmas.List.Sums.{sum_by_push, sum_by-cons}
use Rattle.mil_word.specs.declared.Line.{Line}
use Rattle.mil_message.specs.declared.messages.Message.{Message}
use Rattle.mil_message.specs.World.{Point, sent}
use Rattle.mil_line.specs.Plans.{Planned}
use Rattle.mil_bus.specs.declared.outcomes.Outcome.{Outcome}
use Rattle.controller_host.specs.Values.{InsertionValue}
use Rattle.bc_machine.specs.declared.placed.Placed.{Placed}
use Rattle.bc_machine.specs.MadeMessages.{MadeMessage, own, inserted}
use Rattle.bc_machine.specs.Hosting.{next_insertion, first_of, queue_at, inserted_in, is_inserted}
use Rattle.bc_machine.specs.Controller.{Setting, BusRun, setting_of, world_of, with_insertion, with_own, own_talk, inserted_next, inserting, inserting_many, drained, outcome_in}
use Rattle.bc_machine.specs.Running.{is_own}
use Rattle.bc_machine.proofs.Queued.{more_made, more_inserted}

pub some_of_cond : {X : Type 0} (b : Bool) (o : Option X) (x : X) → cond b o None ≡ Some x → (b ≡ true) × (o ≡ Some x)
some_of_cond true o x e = (refl, e)
some_of_cond false o x e = absurd cc

pub own_more : (made : List MadeMessage) (m : MadeMessage) → count_by is_own (made ++ m ∷ []) ≡ count_by is_own made + cond (is_own m) 1 0
own_more made m = sum_by_push (λ (v : MadeMessage). cond (is_own v) 1 0) made m

-- each message is one of the script, or an inserted one
pub both_kinds : (made : List MadeMessage) → length made ≡ count_by is_own made + inserted_in made
both_kinds [] = refl
both_kinds (own form ∷ rest) =
    let e = both_kinds rest in
    let a = sum_by-cons (λ (v : MadeMessage). cond (is_own v) 1 0) (own form) rest in
    let b = sum_by-cons (λ (v : MadeMessage). cond (is_inserted v) 1 0) (own form) rest in
    omega (arith, e, a, b)
both_kinds (inserted ∷ rest) =
    let e = both_kinds rest in
    let a = sum_by-cons (λ (v : MadeMessage). cond (is_own v) 1 0) inserted rest in
    let b = sum_by-cons (λ (v : MadeMessage). cond (is_inserted v) 1 0) inserted rest in
    omega (arith, e, a, b)

module _ (plan : List Planned) (placed : List Placed) (most : ℕ) where
  abbrev s : Setting
  s = setting_of plan placed most

  abbrev pub waits : BusRun → Option InsertionValue
  waits r = next_insertion placed most r.made

  -- where none waits
  pub idle : (gap : ℕ) (r : BusRun) → waits r ≡ None → inserting s gap r ≡ r
  idle gap r e = ap (λ o. inserted_next s gap o r) e

  pub one : (gap : ℕ) (r : BusRun) (x : InsertionValue) → waits r ≡ Some x → inserting s gap r ≡ with_insertion s gap x r
  one gap r x e = ap (λ o. inserted_next s gap o r) e

  pub idle_many : (n gap : ℕ) (r : BusRun) → waits r ≡ None → inserting_many s n gap r ≡ r
  idle_many zero gap r e = refl
  idle_many (suc n) gap r e = ap (inserting_many s n gap) (idle gap r e) ∙ idle_many n gap r e

  pub last_of_many : (n gap : ℕ) (r : BusRun) → inserting_many s (suc n) gap r ≡ inserting s gap (inserting_many s n gap r)
  last_of_many zero gap r = refl
  last_of_many (suc n) gap r = last_of_many n gap (inserting s gap r)

  many_more : (a b c gap : ℕ) (r : BusRun) → c ≡ a + b → inserting_many s c gap r ≡ inserting_many s b gap (inserting_many s a gap r)
  many_more zero b c gap r e = let same : c ≡ b = omega (arith, e) in ap (λ k. inserting_many s k gap r) same
  many_more (suc a) b zero gap r e = absurd (omega (arith, e))
  many_more (suc a) b (suc c) gap r e = many_more a b c gap (inserting s gap r) (omega (arith, e))

  -- two numbers of messages behind which none waits come to the same
  settled : (a b gap : ℕ) (r : BusRun) → waits (inserting_many s a gap r) ≡ None → waits (inserting_many s b gap r) ≡ None → inserting_many s a gap r ≡ inserting_many s b gap r
  settled a b gap r first second =
      ⊎_elim (λ less. sym (many_more a (b - a) b gap r (omega (arith, less)) ∙ idle_many (b - a) gap (inserting_many s a gap r) first))
      (λ le. many_more b (a - b) a gap r (omega (arith, le)) ∙ idle_many (a - b) gap (inserting_many s b gap r) second)
      (cases_lt a b)

  -- there is room for it
  pub room : (r : BusRun) (x : InsertionValue) → waits r ≡ Some x → inserted_in r.made < most
  room r x e = ltb-true (inserted_in r.made) most (some_of_cond (ltb (inserted_in r.made) most) (first_of (queue_at (length r.made + 1) placed r.made)) x e).0

  ends : (k gap : ℕ) (r : BusRun) → k ≡ most - inserted_in r.made → waits (inserting_many s k gap r) ≡ None
  ends zero gap r e = ap (λ b. cond b (first_of (queue_at (length r.made + 1) placed r.made)) None) (le-ltb (inserted_in r.made) most (omega (arith, e)))
  ends (suc k) gap r e = by_next (waits r) refl (λ v is. ends k gap v is)
    where
      by_next : (o : Option InsertionValue) → waits r ≡ o → ((v : BusRun) → k ≡ most - inserted_in v.made → waits (inserting_many s k gap v) ≡ None) → waits (inserting_many s k gap (inserting s gap r)) ≡ None
      by_next None h more = ap (λ v. waits (inserting_many s k gap v)) (idle gap r h) ∙ ap waits (idle_many k gap r h) ∙ h
      by_next (Some x) h more =
          ap (λ v. waits (inserting_many s k gap v)) (one gap r x h)
          ∙ more (with_insertion s gap x r) (omega (arith, e, more_inserted r.made))

  -- the queue is drained where none waits
  pub drained_is : (k gap : ℕ) (r : BusRun) → waits (inserting_many s k gap r) ≡ None → drained s gap r ≡ inserting_many s k gap r
  unfolding drained
  drained_is k gap r h = settled (most - inserted_in r.made) k gap r (ends (most - inserted_in r.made) gap r refl) h

  -- a message of the script is sent behind those that wait: alike, whether some of these were sent
  pub sent_settled : (line : Line) (message : Message) (p : Point BusRun Outcome) (k : ℕ) → waits (inserting_many s k p.gap p.state) ≡ None
      → sent (world_of plan placed most) line message p ≡ sent (world_of plan placed most) line message (record p { state = inserting_many s k p.gap p.state })
  sent_settled line message p k h =
      let same : drained s p.gap p.state ≡ drained s p.gap (inserting_many s k p.gap p.state) = drained_is k p.gap p.state h ∙ sym (drained_is 0 p.gap (inserting_many s k p.gap p.state) h) in
      ap (λ (v : BusRun). record { state = with_own s line message p.gap v; number = p.number + 1; gap = p.gap; last = Some (outcome_in (own_talk s line message p.gap v)) }) same

  -- ---- the messages made

  by_insertion : (P : List MadeMessage → Type 0) (gap : ℕ) (r : BusRun) → P r.made → P (r.made ++ inserted ∷ []) → P (inserting s gap r).made
  by_insertion P gap r still added = by_next (waits r)
    where
      by_next : (o : Option InsertionValue) → P (inserted_next s gap o r).made
      by_next None = still
      by_next (Some x) = added

  own_one : (gap : ℕ) (r : BusRun) → count_by is_own (inserting s gap r).made ≡ count_by is_own r.made
  own_one gap r = by_insertion (λ made. count_by is_own made ≡ count_by is_own r.made) gap r refl (let e = own_more r.made inserted in omega (arith, e))

  pub own_many : (n gap : ℕ) (r : BusRun) → count_by is_own (inserting_many s n gap r).made ≡ count_by is_own r.made
  own_many zero gap r = refl
  own_many (suc n) gap r = own_many n gap (inserting s gap r) ∙ own_one gap r

  pub own_drained : (gap : ℕ) (r : BusRun) → count_by is_own (drained s gap r).made ≡ count_by is_own r.made
  unfolding drained
  own_drained gap r = own_many (most - inserted_in r.made) gap r

  long_one : (gap : ℕ) (r : BusRun) → length r.made ≤ length (inserting s gap r).made
  long_one gap r = by_insertion (λ made. length r.made ≤ length made) gap r (omega arith) (omega (arith, more_made r.made inserted))

  pub long_many : (n gap : ℕ) (r : BusRun) → length r.made ≤ length (inserting_many s n gap r).made
  long_many zero gap r = omega arith
  long_many (suc n) gap r = let first = long_one gap r in let rest = long_many n gap (inserting s gap r) in omega (arith, first, rest)

  pub long_drained : (gap : ℕ) (r : BusRun) → length r.made ≤ length (drained s gap r).made
  unfolding drained
  long_drained gap r = long_many (most - inserted_in r.made) gap r

  pub short_one : (gap : ℕ) (r : BusRun) → length (inserting s gap r).made ≤ length r.made + 1
  short_one gap r = by_insertion (λ made. length made ≤ length r.made + 1) gap r (omega arith) (omega (arith, more_made r.made inserted))

  pub short_many : (n gap : ℕ) (r : BusRun) → length (inserting_many s n gap r).made ≤ length r.made + n
  short_many zero gap r = omega arith
  short_many (suc n) gap r = let first = short_one gap r in let rest = short_many n gap (inserting s gap r) in omega (arith, first, rest)
