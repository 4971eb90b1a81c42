-- A loadable code never has too many brackets of a kind open, nor too many routines under way.
use Rattle.std.proofs.Common.{◌≡◌, ℕ, suc, ◌+◌, ◌<◌, ◌≤◌, Bool, true, false, List, [], ◌∷◌, length, Some, refl, ap, arith}
use Rattle.std.specs.Prelude.{slice_get}
use Rattle.mil_message.specs.World.{World, Point}
use Rattle.frame_code.specs.declared.Op.{Op}
use Rattle.frame_code.specs.declared.Op.TheVariants.{Loop, Call, Return, Begin}
use Rattle.frame_code.specs.Table.{Code, Running}
use Rattle.frame_code.specs.Routines.{routines, owner_at}
use Rattle.frame_code.specs.Loadable.{after, open_at, IsLoadable}
use Rattle.frame_load.specs.declared.nesting.Kind.{Kind}
use Rattle.frame_load.specs.declared.nesting.Kind.TheVariants.{Loops, Frames}
use Rattle.frame_load.specs.Marks.{is_of, count_in, open_of, most_of, HasRoomFor}
use Rattle.frame_load.specs.Runs.{Reaches}
use Rattle.frame_load.proofs.Counts.{count_more, count_same, room_by, roomy}
use Rattle.frame_load.proofs.Opened.{opened, home, EndsClosed, routines_are}
use Rattle.frame_load.proofs.Never.{Chain, outer_of, reached_fits}

-- where each routine has room for its brackets of a kind, as many are open at each of its places at most
pub open_room : (kind : Kind) (os : List Op) → EndsClosed os → (h : HasRoomFor kind os) → (p : ℕ) → open_of kind os p ≤ h.room (owner_at os p)
open_room kind os closed h p = by (open_at os p) p refl
  where
    by : (st : List ℕ) (p : ℕ) → open_at os p ≡ st → count_in kind os (open_at os p) ≤ h.room (owner_at os p)
    by [] p e = omega (arith, ap (count_in kind os) e)
    by (s ∷ st) p e = by_test (is_of kind os s) refl (by st s (opened os p p s st (omega arith) e).3)
      where
        by_test : (b : Bool) → is_of kind os s ≡ b → count_in kind os (open_at os s) ≤ h.room (owner_at os s) → count_in kind os (open_at os p) ≤ h.room (owner_at os p)
        by_test true x inner =
            let o = opened os p p s st (omega arith) e in
            let lt = room_by os kind h.room (owner_at os s) (open_of kind os s) s o.0 o.1 x o.4 (h.enough s o.0 o.4) in
            omega (arith, lt, ap (count_in kind os) e, ap (count_in kind os) o.3, count_more kind os s st x, ap h.room (home os closed p p s st (omega arith) e))
        by_test false x inner =
            let o = opened os p p s st (omega arith) e in
            omega (arith, inner, ap (count_in kind os) e, ap (count_in kind os) o.3, count_same kind os s st x, ap h.room (home os closed p p s st (omega arith) e))

module _ (kind : Kind) (code : Code) (ok : IsLoadable code) where
  abbrev has : HasRoomFor kind code.operations
  has = roomy code.operations ok.nested kind

  abbrev room : ℕ → ℕ
  room = has.room

  -- behind a Call as many brackets are open as before it
  behind_call : (c k : ℕ) → slice_get code.operations c ≡ Some (Call k) → open_of kind code.operations (suc c) ≡ open_of kind code.operations c
  behind_call c k e = ap (λ v. count_in kind code.operations (after v c (open_at code.operations c))) e

  -- those of the outer routines and those of the inner ones
  levels : (k q : ℕ) (qs : List ℕ) → Chain code.operations k (q ∷ qs) → room k + outer_of kind code.operations (q ∷ qs) ≤ most_of kind
  levels k q [] h = omega (arith, has.enough h.0 (Call k) h.2, has.at_most (owner_at code.operations h.0), behind_call h.0 k h.2, ap (open_of kind code.operations) h.1)
  levels k q (q' ∷ qs) h = omega (arith, levels (owner_at code.operations h.0) q' qs h.3, has.enough h.0 (Call k) h.2, behind_call h.0 k h.2, ap (open_of kind code.operations) h.1)

  -- how many are open in all
  few_open : (p : ℕ) (qs : List ℕ) → Chain code.operations (owner_at code.operations p) qs → open_of kind code.operations p + outer_of kind code.operations qs ≤ most_of kind
  few_open p [] c = omega (arith, open_room kind code.operations (λ q e. ok.nested.paired q Return e) has p, has.at_most (owner_at code.operations p))
  few_open p (q ∷ qs) c = omega (arith, levels (owner_at code.operations p) q qs c, open_room kind code.operations (λ q e. ok.nested.paired q Return e) has p)

  room_open : (p : ℕ) (qs : List ℕ) → open_of kind code.operations p < room (owner_at code.operations p) → Chain code.operations (owner_at code.operations p) qs → open_of kind code.operations p + outer_of kind code.operations qs < most_of kind
  room_open p [] lt c = omega (arith, lt, has.at_most (owner_at code.operations p))
  room_open p (q ∷ qs) lt c = omega (arith, levels (owner_at code.operations p) q qs c, lt)

-- a routine has a higher number than what it calls
few_under_way : (code : Code) → IsLoadable code → (k : ℕ) (qs : List ℕ) → Chain code.operations k qs → length qs + k ≤ routines code.operations
few_under_way code ok k [] c = omega (arith, c, routines_are code.operations)
few_under_way code ok k (q ∷ qs) c = omega (arith, few_under_way code ok (owner_at code.operations c.0) qs c.3, ok.routines_ok.earlier c.0 (Call k) c.2)

module _ {State Outcome : Type 0} (w : World State Outcome) (code : Code) (ok : IsLoadable code) where
  pub few_counters : (from : Point State Outcome) (x : Running State Outcome) → Reaches w code from x → length x.at.counters ≤ 17
  few_counters from x r = let f = reached_fits w code ok from x r in omega (arith, f.stands Loops, few_open Loops code ok x.at.place x.at.returns f.chain)

  pub room_at : (from : Point State Outcome) (x : Running State Outcome) (n : ℕ) → Reaches w code from x → slice_get code.operations x.at.place ≡ Some (Loop n) → length x.at.counters < 17
  room_at from x n r e =
      let f = reached_fits w code ok from x r in
      omega (arith, f.stands Loops, room_open Loops code ok x.at.place x.at.returns ((roomy code.operations ok.nested Loops).enough x.at.place (Loop n) e tt) f.chain)

  pub few_frames : (from : Point State Outcome) (x : Running State Outcome) → Reaches w code from x → length x.at.frames ≤ 16
  few_frames from x r = let f = reached_fits w code ok from x r in omega (arith, f.stands Frames, few_open Frames code ok x.at.place x.at.returns f.chain)

  pub room_to_begin : (from : Point State Outcome) (x : Running State Outcome) → Reaches w code from x → slice_get code.operations x.at.place ≡ Some Begin → length x.at.frames < 16
  room_to_begin from x r e =
      let f = reached_fits w code ok from x r in
      omega (arith, f.stands Frames, room_open Frames code ok x.at.place x.at.returns ((roomy code.operations ok.nested Frames).enough x.at.place Begin e tt) f.chain)

  pub few_returns : (from : Point State Outcome) (x : Running State Outcome) → Reaches w code from x → length x.at.returns ≤ 32
  few_returns from x r = let f = reached_fits w code ok from x r in omega (arith, few_under_way code ok (owner_at code.operations x.at.place) x.at.returns f.chain, ok.routines_ok.few)

  pub room_to_call : (from : Point State Outcome) (x : Running State Outcome) (k : ℕ) → Reaches w code from x → slice_get code.operations x.at.place ≡ Some (Call k) → length x.at.returns < 32
  room_to_call from x k r e =
      let f = reached_fits w code ok from x r in
      omega (arith, few_under_way code ok (owner_at code.operations x.at.place) x.at.returns f.chain, ok.routines_ok.few, ok.routines_ok.earlier x.at.place (Call k) e)
