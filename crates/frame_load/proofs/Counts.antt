-- How many brackets of each kind are open, from one place to the next.
use Rattle.std.proofs.Common.{◌≡◌, ℕ, suc, ◌+◌, ◌<◌, Bool, true, false, not, cond, List, [], ◌∷◌, length, Some, refl, ap, arith}
use Rattle.std.specs.Prelude.{slice_get}
use Rattle.std.specs.List.{filter}
use Rattle.frame_code.specs.declared.Op.{Op}
use Rattle.frame_code.specs.declared.Op.TheVariants.{Loop, Again, Call, Return, Begin, Pace}
use Rattle.frame_code.specs.Routines.{passed}
use Rattle.frame_code.specs.Loadable.{tail, after, is_loop, IsInLoop, IsInFrame, IsPaired, IsNested, HasRoom}
use Rattle.frame_load.specs.declared.nesting.Kind.{Kind}
use Rattle.frame_load.specs.declared.nesting.Kind.TheVariants.{Loops, Frames}
use Rattle.frame_load.specs.declared.nesting.Effect.{Effect}
use Rattle.frame_load.specs.declared.nesting.Effect.TheVariants.{Opens, Closes, Calls, Ends}
use Rattle.frame_load.specs.Marks.{is_of, count_in, effect_of, depth_after, HasRoomFor, OpensA}

pub by_kind : (P : Kind → Type 0) → P Loops → P Frames → (kind : Kind) → P kind
by_kind P l f Loops = l
by_kind P l f Frames = f

-- an operation opens a bracket
abbrev pub IsOpening : Op → Type 0
IsOpening (Loop n) = Unit {0}
IsOpening Begin = Unit {0}
IsOpening _ = ⊥

-- an operation closes a bracket
abbrev pub IsClosing : Op → Type 0
IsClosing (Again i) = Unit {0}
IsClosing (Pace h) = Unit {0}
IsClosing _ = ⊥

pub closed_after : (o : Op) → IsClosing o → (p : ℕ) (st : List ℕ) → after (Some o) p st ≡ tail st
closed_after (Again i) u p st = refl
closed_after (Pace h) u p st = refl
closed_after _ u p st = absurd u

pub opened_after : (o : Op) → IsOpening o → (p : ℕ) (st : List ℕ) → after (Some o) p st ≡ p ∷ st
opened_after (Loop n) u p st = refl
opened_after Begin u p st = refl
opened_after _ u p st = absurd u

-- the innermost of these brackets is of this kind, or it is not
abbrev pub IsHead : Kind → List Op → List ℕ → Bool → Type 0
IsHead kind os [] b = ⊥
IsHead kind os (s ∷ st) b = is_of kind os s ≡ b

module _ (kind : Kind) (os : List Op) where
  pub count_more : (s : ℕ) (st : List ℕ) → is_of kind os s ≡ true → count_in kind os (s ∷ st) ≡ suc (count_in kind os st)
  count_more s st e = ap (λ b. length (cond b (s ∷ filter (is_of kind os) st) (filter (is_of kind os) st))) e

  pub count_same : (s : ℕ) (st : List ℕ) → is_of kind os s ≡ false → count_in kind os (s ∷ st) ≡ count_in kind os st
  count_same s st e = ap (λ b. length (cond b (s ∷ filter (is_of kind os) st) (filter (is_of kind os) st))) e

  pub count_popped : (st : List ℕ) → IsHead kind os st true → count_in kind os st ≡ suc (count_in kind os (tail st))
  count_popped [] h = absurd h
  count_popped (s ∷ st) h = count_more s st h

  pub count_passed : (st : List ℕ) → IsHead kind os st false → count_in kind os st ≡ count_in kind os (tail st)
  count_passed [] h = absurd h
  count_passed (s ∷ st) h = count_same s st h

module _ (os : List Op) where
  in_loop : (st : List ℕ) → IsInLoop os st → IsHead Loops os st true
  in_loop [] h = h
  in_loop (s ∷ st) h = h

  not_frame : (st : List ℕ) → IsInLoop os st → IsHead Frames os st false
  not_frame [] h = h
  not_frame (s ∷ st) h = ap not h

  in_frame : (st : List ℕ) → IsInFrame os st → IsHead Frames os st true
  in_frame [] h = h
  in_frame (s ∷ st) h = ap not h

  not_loop : (st : List ℕ) → IsInFrame os st → IsHead Loops os st false
  not_loop [] h = h
  not_loop (s ∷ st) h = h

  -- what an operation leaves open, of one kind
  pub count_after : (kind : Kind) (o : Op) (p : ℕ) (st : List ℕ) → slice_get os p ≡ Some o → IsPaired os st o → count_in kind os (after (Some o) p st) ≡ depth_after (effect_of o kind) (count_in kind os st)
  count_after Loops (Loop n) p st e h = omega (arith, count_more Loops os p st (ap is_loop e))
  count_after Frames (Loop n) p st e h = count_same Frames os p st (ap (λ v. not (is_loop v)) e)
  count_after Loops Begin p st e h = count_same Loops os p st (ap is_loop e)
  count_after Frames Begin p st e h = omega (arith, count_more Frames os p st (ap (λ v. not (is_loop v)) e))
  count_after Loops (Again i) p st e h = omega (arith, count_popped Loops os st (in_loop st h))
  count_after Frames (Again i) p st e h = omega (arith, count_passed Frames os st (not_frame st h))
  count_after Loops (Pace t) p st e h = omega (arith, count_passed Loops os st (not_loop st h))
  count_after Frames (Pace t) p st e h = omega (arith, count_popped Frames os st (in_frame st h))
  count_after kind _ p st e h = refl

  -- what closes a bracket of a kind stands in one
  pub some_to_close : (kind : Kind) (o : Op) (st : List ℕ) → IsPaired os st o → effect_of o kind ≡ Closes → 0 < count_in kind os st
  some_to_close Loops (Again i) st h e = omega (arith, count_popped Loops os st (in_loop st h))
  some_to_close Frames (Pace t) st h e = omega (arith, count_popped Frames os st (in_frame st h))
  some_to_close Frames (Again i) st h e = absurd (cc)
  some_to_close Loops (Pace t) st h e = absurd (cc)
  some_to_close Loops (Loop n) st h e = absurd (cc)
  some_to_close Frames (Loop n) st h e = absurd (cc)
  some_to_close Loops Begin st h e = absurd (cc)
  some_to_close Frames Begin st h e = absurd (cc)
  some_to_close kind _ st h e = absurd (cc)

  -- what opens a bracket of a kind has room for it
  pub room_by : (kind : Kind) (room : ℕ → ℕ) (owner inside s : ℕ) (o : Op) → IsOpening o → is_of kind os s ≡ true → slice_get os s ≡ Some o → HasRoom (OpensA kind) room owner inside o → inside < room owner
  room_by Loops room owner inside s (Loop n) u b e h = h tt
  room_by Frames room owner inside s (Loop n) u b e h = absurd (let no : is_of Frames os s ≡ false = ap (λ v. not (is_loop v)) e in cc)
  room_by Loops room owner inside s Begin u b e h = absurd (let no : is_of Loops os s ≡ false = ap is_loop e in cc)
  room_by Frames room owner inside s Begin u b e h = h tt
  room_by kind room owner inside s _ u b e h = absurd u

  pub roomy : IsNested os → (kind : Kind) → HasRoomFor kind os
  roomy n Loops = record { room = n.shallow.room; enough = n.shallow.enough; at_most = n.shallow.at_most_17 }
  roomy n Frames = record { room = n.few_frames.room; enough = n.few_frames.enough; at_most = n.few_frames.at_most_16 }

-- the effect is the same beside others that are open
pub beside : (e : Effect) (c d : ℕ) → (e ≡ Closes → 0 < c) → depth_after e (c + d) ≡ depth_after e c + d
beside Opens c d h = omega arith
beside Closes c d h = omega (arith, h refl)
beside _ c d h = refl

-- the number of the next routine, by what an operation does
abbrev pub passed_by : Effect → ℕ → ℕ
passed_by Ends k = suc k
passed_by _ k = k

pub passed_is : (kind : Kind) (o : Op) (k : ℕ) → passed (Some o) k ≡ passed_by (effect_of o kind) k
passed_is Loops (Loop n) k = refl
passed_is Frames (Loop n) k = refl
passed_is Loops (Again i) k = refl
passed_is Frames (Again i) k = refl
passed_is Loops Begin k = refl
passed_is Frames Begin k = refl
passed_is Loops (Pace h) k = refl
passed_is Frames (Pace h) k = refl
passed_is kind _ k = refl

-- none is open where a routine ends
pub none_at_end : (kind : Kind) (o : Op) (os : List Op) (st : List ℕ) → IsPaired os st o → effect_of o kind ≡ Ends → count_in kind os st ≡ 0
none_at_end kind Return os st h e = ap (count_in kind os) h
none_at_end Loops (Loop n) os st h e = absurd (cc)
none_at_end Frames (Loop n) os st h e = absurd (cc)
none_at_end Loops (Again i) os st h e = absurd (cc)
none_at_end Frames (Again i) os st h e = absurd (cc)
none_at_end Loops Begin os st h e = absurd (cc)
none_at_end Frames Begin os st h e = absurd (cc)
none_at_end Loops (Pace t) os st h e = absurd (cc)
none_at_end Frames (Pace t) os st h e = absurd (cc)
none_at_end kind _ os st h e = absurd (cc)

pub call_of : (kind : Kind) (o : Op) (r : ℕ) → effect_of o kind ≡ Calls r → o ≡ Call r
call_of kind (Call k) r e = let same : k ≡ r = cc in ap (λ j. Call j) same
call_of Loops (Loop n) r e = absurd (cc)
call_of Frames (Loop n) r e = absurd (cc)
call_of Loops (Again i) r e = absurd (cc)
call_of Frames (Again i) r e = absurd (cc)
call_of Loops Begin r e = absurd (cc)
call_of Frames Begin r e = absurd (cc)
call_of Loops (Pace t) r e = absurd (cc)
call_of Frames (Pace t) r e = absurd (cc)
call_of kind _ r e = absurd (cc)
