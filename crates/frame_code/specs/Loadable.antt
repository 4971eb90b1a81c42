-- The loader's rules (own choice): which codes the controller may run.
use Rattle.std.specs.Prelude.{◌≡◌, ℕ, zero, suc, ◌+◌, ◌<◌, ◌≤◌, Bool, true, false, not, List, [], ◌∷◌, ◌++◌, length}
use Rattle.std.specs.Prelude.{Option, Some, slice_get}
use Rattle.std.specs.List.{filter}
use Rattle.frame_code.specs.declared.Op.{Op}
use Rattle.frame_code.specs.declared.Op.TheVariants.{Halt, Send, Alt, Loop, Again, Leave, Jump, JumpFalse, Call, Return}
use Rattle.frame_code.specs.declared.Op.TheVariants.{Begin, Pace}
use Rattle.frame_code.specs.Table.{Code}
use Rattle.frame_code.specs.Routines.{routines, owner_at}
use Rattle.frame_code.specs.Ranges.{IsImage}

abbrev pub tail : List ℕ → List ℕ
tail [] = []
tail (s ∷ st) = st

-- The brackets that are open behind an operation at this place, the innermost first, each by the place of the operation
-- that opens it: Loop opens one that Again closes, Begin one that Pace closes.
abbrev pub after : Option Op → ℕ → List ℕ → List ℕ
after (Some (Loop n)) p st = p ∷ st
after (Some (Again i)) p st = tail st
after (Some Begin) p st = p ∷ st
after (Some (Pace h)) p st = tail st
after _ p st = st

-- the brackets that a place stands in; what opens a bracket stands outside of it, what closes it inside
abbrev pub open_at : List Op → ℕ → List ℕ
open_at os zero = []
open_at os (suc p) = after (slice_get os p) p (open_at os p)

-- whether a Loop stands at a place, and so opens a loop there; what opens any other bracket is a Begin, which opens a
-- frame
abbrev pub is_loop : Option Op → Bool
is_loop (Some (Loop n)) = true
is_loop _ = false

abbrev pub opens_loop : List Op → ℕ → Bool
opens_loop os p = is_loop (slice_get os p)

-- the loops among these brackets, and the frames
abbrev pub loops_among : List Op → List ℕ → List ℕ
loops_among os st = filter (opens_loop os) st

abbrev pub frames_among : List Op → List ℕ → List ℕ
frames_among os st = filter (λ p. not (opens_loop os p)) st

-- the innermost of these brackets is a loop, or a frame
abbrev pub IsInLoop : List Op → List ℕ → Type 0
IsInLoop os [] = ⊥
IsInLoop os (s ∷ st) = opens_loop os s ≡ true

abbrev pub IsInFrame : List Op → List ℕ → Type 0
IsInFrame os [] = ⊥
IsInFrame os (s ∷ st) = opens_loop os s ≡ false

-- a fact of each operation and its place
abbrev pub Each : List Op → (ℕ → Op → Type 0) → Type 0
Each os P = (p : ℕ) (o : Op) → slice_get os p ≡ Some o → P p o

-- the end: the last operation is Halt
abbrev pub EndsInHalt : List Op → Type 0
EndsInHalt os = (before : List Op) × (os ≡ before ++ Halt ∷ [])

-- a routine that is called ends before the one begins in which the call stands, and so is there
abbrev pub CallsEarlier : ℕ → Op → Type 0
CallsEarlier owner (Call r) = r < owner
CallsEarlier owner _ = Unit {0}

-- the routines: at most 32, each calling earlier ones alone
pub record HasRoutines (os : List Op) : Type 0 where
  pub few : routines os ≤ 32
  pub earlier : Each os (λ p. CallsEarlier (owner_at os p))

-- an Again closes a loop, a Pace a frame; a Leave stands in a loop, a Return in no bracket
abbrev pub IsPaired : List Op → List ℕ → Op → Type 0
IsPaired os st (Again i) = IsInLoop os st
IsPaired os st (Pace h) = IsInFrame os st
IsPaired os st (Leave i) = 0 < length (loops_among os st)
IsPaired os st Return = st ≡ []
IsPaired os st _ = Unit {0}

-- an operation opens a loop, or it opens a frame
abbrev pub OpensLoop : Op → Type 0
OpensLoop (Loop n) = Unit {0}
OpensLoop _ = ⊥

abbrev pub OpensFrame : Op → Type 0
OpensFrame Begin = Unit {0}
OpensFrame _ = ⊥

-- Within a routine that has room for so many open brackets of a kind, those of its calls counted with it, an operation
-- that stands inside of so many of them: one that opens another has room for it, and a Call for what its routine has
-- room for.
abbrev pub HasRoom : (Op → Type 0) → (ℕ → ℕ) → ℕ → ℕ → Op → Type 0
HasRoom Opens room owner inside (Call r) = inside + room r ≤ room owner
HasRoom Opens room owner inside o = Opens o → inside < room owner

-- at most 17 loops are open at once in each routine and in main, those of its calls counted with it
pub record IsShallow (os : List Op) : Type 0 where
  pub room : ℕ → ℕ
  pub enough : Each os (λ p. HasRoom OpensLoop room (owner_at os p) (length (loops_among os (open_at os p))))
  pub at_most_17 : (r : ℕ) → room r ≤ 17

-- at most 16 frames are open at once, counted in the same way
pub record HasFewFrames (os : List Op) : Type 0 where
  pub room : ℕ → ℕ
  pub enough : Each os (λ p. HasRoom OpensFrame room (owner_at os p) (length (frames_among os (open_at os p))))
  pub at_most_16 : (r : ℕ) → room r ≤ 16

-- the nesting: Loop with Again and Begin with Pace pair as two kinds of brackets of one nesting inside each routine
pub record IsNested (os : List Op) : Type 0 where
  pub paired : Each os (λ p. IsPaired os (open_at os p))
  pub closed : open_at os (length os) ≡ []
  pub shallow : IsShallow os
  pub few_frames : HasFewFrames os

-- the target stands behind what opens the innermost bracket
abbrev pub TurnsTo : List ℕ → ℕ → Type 0
TurnsTo loops i = (start : ℕ) × (rest : List ℕ) × (loops ≡ start ∷ rest) × (i ≡ suc start)

-- the target stands behind the Again that closes the innermost bracket, which is a loop
abbrev pub LeavesTo : List Op → List ℕ → ℕ → Type 0
LeavesTo os loops i = (q : ℕ) × (back : ℕ) × (i ≡ suc q) × (slice_get os q ≡ Some (Again back)) × (open_at os q ≡ loops)

-- the target is a later operation in the same innermost bracket of the same routine
abbrev pub JumpsTo : List Op → ℕ → ℕ → Type 0
JumpsTo os p i = (p < i) × (i < length os) × (open_at os i ≡ open_at os p) × (owner_at os i ≡ owner_at os p)

-- the jumps: where an operation at this place may go
abbrev pub GoesWell : List Op → ℕ → Op → Type 0
GoesWell os p (Again i) = TurnsTo (open_at os p) i
GoesWell os p (Leave i) = LeavesTo os (open_at os p) i
GoesWell os p (Jump i) = JumpsTo os p i
GoesWell os p (JumpFalse i) = JumpsTo os p i
GoesWell os p _ = Unit {0}

-- the messages: what is sent is in the table
abbrev pub HasMessage : ℕ → Op → Type 0
HasMessage n (Send m) = m < n
HasMessage n (Alt m) = m < n
HasMessage n _ = Unit {0}

-- an image that keeps the five rules
pub record IsLoadable (code : Code) : Type 0 where
  pub image : IsImage code
  pub ends : EndsInHalt code.operations
  pub routines_ok : HasRoutines code.operations
  pub nested : IsNested code.operations
  pub jumps : Each code.operations (GoesWell code.operations)
  pub messages : Each code.operations (λ p. HasMessage (length code.messages))
