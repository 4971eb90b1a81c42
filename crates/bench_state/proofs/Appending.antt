-- Texts that a writer got, one after the other.
use Rattle.std.proofs.Common.{ℕ, List, ◌++◌, Option, Result, Ok, Err, OnOk}
use Rattle.std.proofs.KnownBytes.{Appends-trans}
use Rattle.std.specs.Io.KnownBytes.{Appends}

-- a writer that got one text, and then another where a call came to its end
pub then_appends : {A E : Type 0} (r : Result A E) (old mid new : Option (List ℕ)) (first second : List ℕ) → Appends old mid first → OnOk r (Appends mid new second) → OnOk r (Appends old new (first ++ second))
then_appends (Ok x) old mid new first second a b = Appends-trans old mid new first second a b
then_appends (Err e) old mid new first second a b = tt
