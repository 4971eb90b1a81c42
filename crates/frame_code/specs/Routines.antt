-- The routines of a code (own choice): a routine ends at each Return, and main begins behind the last one.
use Rattle.std.specs.Prelude.{ℕ, zero, suc, nat_lt, if◌then◌else◌, List, [], ◌∷◌, length, Option, None, Some, get_or}
use Rattle.std.specs.Prelude.{slice_get}
use Rattle.frame_code.specs.declared.Op.{Op}
use Rattle.frame_code.specs.declared.Op.TheVariants.{Return}

-- the places behind the Returns, in order, of operations from place p
abbrev pub ends_from : ℕ → List Op → List ℕ
ends_from p [] = []
ends_from p (Return ∷ os) = suc p ∷ ends_from (suc p) os
ends_from p (o ∷ os) = ends_from (suc p) os

abbrev pub ends : List Op → List ℕ
ends os = ends_from 0 os

-- how many routines there are
abbrev pub routines : List Op → ℕ
routines os = length (ends os)

-- where the routine of this number begins; main has the number behind the last one
abbrev pub begin_of : List Op → ℕ → ℕ
begin_of os zero = 0
begin_of os (suc r) = get_or (ends os) r 0

-- where the machine starts
abbrev pub main_of : List Op → ℕ
main_of os = begin_of os (routines os)

-- where the routine of this number begins, if it is there
abbrev pub routine_at : List Op → ℕ → Option ℕ
routine_at os r = if nat_lt r (routines os) then Some (begin_of os r) else None

-- the number of the routine that a place stands in: how many Returns stand before it
abbrev pub passed : Option Op → ℕ → ℕ
passed (Some Return) r = suc r
passed _ r = r

abbrev pub owner_at : List Op → ℕ → ℕ
owner_at os zero = 0
owner_at os (suc p) = passed (slice_get os p) (owner_at os p)
