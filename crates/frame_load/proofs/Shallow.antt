-- Where no operation opens too many brackets of a kind, each routine has room for them, and the other way round.
use Rattle.std.proofs.Common.{◌≡◌, ℕ, zero, suc, ◌<◌, ◌≤◌, List, [], ◌∷◌, ◌++◌, length, get_or, Option, Some, None, refl, sym, ap, ◌∙◌, subst, ⊎_elim, arith}
use Rattle.std.specs.Prelude.{slice_get}
use Rattle.std.proofs.Math.Seq.{get_or-append_seam}
use Rattle.std.proofs.Math.ListN.{get_or-append}
use Rattle.std.proofs.lemmas.Bool.{cases_lt}
use Rattle.frame_code.specs.declared.Op.{Op}
use Rattle.frame_code.specs.declared.Op.TheVariants.{Loop, Call, Begin}
use Rattle.frame_code.specs.Routines.{passed, owner_at}
use Rattle.frame_code.specs.Loadable.{CallsEarlier, HasRoutines, HasRoom}
use Rattle.frame_load.specs.declared.nesting.Kind.{Kind}
use Rattle.frame_load.specs.declared.nesting.Kind.TheVariants.{Loops, Frames}
use Rattle.frame_load.specs.declared.nesting.Effect.{Effect}
use Rattle.frame_load.specs.declared.nesting.Effect.TheVariants.{Opens, Closes, Calls, Ends, Keeps}
use Rattle.frame_load.specs.Marks.{open_of, effect_of, peak_of, most_of, OpensA, HasRoomFor}
use Rattle.frame_load.proofs.Counts.{passed_by}
use Rattle.frame_load.proofs.Opened.{within, routine_le, routines_are}
use Rattle.frame_load.proofs.Depths.{Depths, deeper, depths_after, depths_at, depths_next, owner_next, ended_long, all_depths, depth_of, depth_at_least}

-- no operation has more brackets of the kind open at once than may be
abbrev pub Peaks : Kind → List Op → Type 0
Peaks kind os = (p : ℕ) (o : Op) → slice_get os p ≡ Some o → peak_of (effect_of o kind) (open_of kind os p) (depths_at kind os p).ended ≤ most_of kind

-- the depths are low
record Low (most : ℕ) (s : Depths) : Type 0 where
  now : s.now ≤ most
  ended : (r : ℕ) → get_or s.ended r 0 ≤ most

behind_low : (most : ℕ) (xs : List ℕ) (x : ℕ) → ((r : ℕ) → get_or xs r 0 ≤ most) → x ≤ most → (r : ℕ) → get_or (xs ++ x ∷ []) r 0 ≤ most
behind_low most [] x h k zero = k
behind_low most [] x h k (suc r) = omega arith
behind_low most (y ∷ xs) x h k zero = h 0
behind_low most (y ∷ xs) x h k (suc r) = behind_low most xs x (λ q. h (suc q)) k r

low_by : (most : ℕ) (e : Effect) (d : ℕ) (s : Depths) → peak_of e d s.ended ≤ most → Low most s → Low most (deeper e d s)
low_by most Ends d s f l = record { now = omega arith; ended = behind_low most s.ended s.now l.ended l.now }
low_by most Opens d s f l = record { now = omega (arith, f, l.now); ended = l.ended }
low_by most Closes d s f l = record { now = omega (arith, l.now); ended = l.ended }
low_by most (Calls r) d s f l = record { now = omega (arith, f, l.now); ended = l.ended }
low_by most Keeps d s f l = record { now = omega (arith, l.now); ended = l.ended }

low_at : (kind : Kind) (os : List Op) → Peaks kind os → (p : ℕ) → Low (most_of kind) (depths_at kind os p)
low_at kind os f zero = record { now = omega arith; ended = λ r. omega arith }
low_at kind os f (suc p) = by (slice_get os p) refl (low_at kind os f p)
  where
    by : (v : Option Op) → slice_get os p ≡ v → Low (most_of kind) (depths_at kind os p) → Low (most_of kind) (depths_after kind v (open_of kind os p) (depths_at kind os p))
    by None e l = l
    by (Some o) e l = low_by (most_of kind) (effect_of o kind) (open_of kind os p) (depths_at kind os p) (f p o e) l

module _ (os : List Op) (ok : HasRoutines os) where
  abbrev deepest : Kind → ℕ → ℕ
  deepest kind r = get_or (all_depths kind os) r 0

  -- a routine is as deep as each of its operations
  deep_at : (kind : Kind) (p : ℕ) (o : Op) → slice_get os p ≡ Some o → peak_of (effect_of o kind) (open_of kind os p) (depths_at kind os p).ended ≤ deepest kind (owner_at os p)
  deep_at kind p o e = by (effect_of o kind) (depths_next kind os p o e) (owner_next kind os p o e) (depth_at_least kind os (suc p) (within os p o e))
    where
      by : (x : Effect) → depths_at kind os (suc p) ≡ deeper x (open_of kind os p) (depths_at kind os p) → owner_at os (suc p) ≡ passed_by x (owner_at os p) → (depths_at kind os (suc p)).now ≤ deepest kind (owner_at os (suc p))
          → peak_of x (open_of kind os p) (depths_at kind os p).ended ≤ deepest kind (owner_at os p)
      by Ends f g le = omega arith
      by _ f g le = omega (arith, le, ap (λ (z : Depths). z.now) f, ap (deepest kind) g)

  enough_at : (kind : Kind) (p : ℕ) (o : Op) → slice_get os p ≡ Some o → HasRoom (OpensA kind) (deepest kind) (owner_at os p) (open_of kind os p) o
  enough_at kind p (Call r) e = omega (arith, deep_at kind p (Call r) e, depth_of kind os p r (let lt = within os p (Call r) e in omega (arith, lt)) (ok.earlier p (Call r) e))
  enough_at Loops p (Loop n) e = λ u. omega (arith, deep_at Loops p (Loop n) e)
  enough_at Frames p Begin e = λ u. omega (arith, deep_at Frames p Begin e)
  enough_at Loops p _ e = λ u. absurd u
  enough_at Frames p _ e = λ u. absurd u

  pub room_of : (kind : Kind) → Peaks kind os → HasRoomFor kind os
  room_of kind f =
      let l = low_at kind os f (length os) in
      record { room = deepest kind; enough = enough_at kind; at_most = behind_low (most_of kind) (depths_at kind os (length os)).ended (depths_at kind os (length os)).now l.ended l.now }

  module _ (kind : Kind) (n : HasRoomFor kind os) where
    -- no room is less than the depths
    record Least (p : ℕ) : Type 0 where
      now : (depths_at kind os p).now ≤ n.room (owner_at os p)
      ended : (r : ℕ) → r < owner_at os p → get_or (depths_at kind os p).ended r 0 ≤ n.room r

    peak_room : (k : Kind) (h : HasRoomFor k os) (p : ℕ) (o : Op) → slice_get os p ≡ Some o → ((r : ℕ) → r < owner_at os p → get_or (depths_at k os p).ended r 0 ≤ h.room r)
        → peak_of (effect_of o k) (open_of k os p) (depths_at k os p).ended ≤ h.room (owner_at os p)
    peak_room k h p (Call r) e l = omega (arith, h.enough p (Call r) e, l r (ok.earlier p (Call r) e))
    peak_room Loops h p (Loop m) e l = omega (arith, h.enough p (Loop m) e tt)
    peak_room Frames h p Begin e l = omega (arith, h.enough p Begin e tt)
    peak_room Loops h p _ e l = omega arith
    peak_room Frames h p _ e l = omega arith

    least_next : (p : ℕ) (o : Op) → slice_get os p ≡ Some o → Least p → Least (suc p)
    least_next p o e l = by (effect_of o kind) (depths_next kind os p o e) (owner_next kind os p o e) (peak_room kind n p o e l.ended)
      where
        by : (x : Effect) → depths_at kind os (suc p) ≡ deeper x (open_of kind os p) (depths_at kind os p) → owner_at os (suc p) ≡ passed_by x (owner_at os p) → peak_of x (open_of kind os p) (depths_at kind os p).ended ≤ n.room (owner_at os p) → Least (suc p)
        by Ends f g le = record {
          now = omega (arith, ap (λ (z : Depths). z.now) f);
          ended = λ r h. ⊎_elim
              (λ lt. omega (arith, l.ended r lt, ap (λ (z : Depths). get_or z.ended r 0) f, get_or-append (depths_at kind os p).ended ((depths_at kind os p).now ∷ []) 0 r (omega (arith, lt, ended_long kind os p))))
              (λ ge.
              let same : r ≡ owner_at os p = omega (arith, ge, h, g) in
              let seam = get_or-append_seam (depths_at kind os p).ended (depths_at kind os p).now [] 0 in
              omega (arith, l.now, seam, ap (λ (z : Depths). get_or z.ended r 0) f, ap (λ j. get_or ((depths_at kind os p).ended ++ (depths_at kind os p).now ∷ []) j 0) (same ∙ sym (ended_long kind os p)), ap n.room same))
              (cases_lt r (owner_at os p));
        }
        by _ f g le = record {
          now = omega (arith, l.now, le, ap (λ (z : Depths). z.now) f, ap n.room g);
          ended = λ r h. omega (arith, l.ended r (omega (arith, h, g)), ap (λ (z : Depths). get_or z.ended r 0) f);
        }

    least_at : (p : ℕ) → Least p
    least_at zero = record { now = omega arith; ended = λ r h. absurd (omega (arith, h)) }
    least_at (suc p) = by (slice_get os p) refl (least_at p)
      where
        by : (v : Option Op) → slice_get os p ≡ v → Least p → Least (suc p)
        by None e l =
            let same : depths_at kind os (suc p) ≡ depths_at kind os p = ap (λ v. depths_after kind v (open_of kind os p) (depths_at kind os p)) e in
            let own : owner_at os (suc p) ≡ owner_at os p = ap (λ v. passed v (owner_at os p)) e in
            record {
              now = omega (arith, l.now, ap (λ (z : Depths). z.now) same, ap n.room own);
              ended = λ r h. omega (arith, l.ended r (omega (arith, h, own)), ap (λ (z : Depths). get_or z.ended r 0) same);
            }
        by (Some o) e l = least_next p o e l

    pub peaks_of : Peaks kind os
    peaks_of p o e = omega (arith, peak_room kind n p o e (least_at p).ended, n.at_most (owner_at os p))

  -- a Call's routine has a lower number
  pub call_low : (i : ℕ) (o : Op) → slice_get os i ≡ Some o → (r : ℕ) → o ≡ Call r → r < owner_at os i
  call_low i o e r same = subst (CallsEarlier (owner_at os i)) same (ok.earlier i o e)

  pub owner_low : (i : ℕ) → i ≤ length os → owner_at os i ≤ 32
  owner_low i h = omega (arith, routine_le os i (length os) h, routines_are os, ok.few)
