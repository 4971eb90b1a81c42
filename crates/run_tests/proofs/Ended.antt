-- What a run that ended well has given.
use Rattle.std.proofs.Common.{◌≡◌, subst}
use Rattle.std.specs.Prelude.{Option, Some, Result, Ok, Err, IfOk}
use Rattle.std.specs.Result.{result_ok}

pub ok_holds : {T E : Type 0} (r : Result T E) (o : Option T) (x : T) (P : T → Type 0) → o ≡ result_ok r → o ≡ Some x → IfOk r P → P x
ok_holds (Ok y) o x P is at holds = let same : y ≡ x = cc in subst P same holds
ok_holds (Err e) o x P is at holds = absurd cc
