-- What a call answers that reads a text (own choice).
use Rattle.std.specs.Prelude.{◌≡◌, Option, Some, None, Result, Ok, Err}

-- what a call answered is what reading comes to
abbrev pub IsOkOption : {X Y E : Type 0} → (X → Y) → Result X E → Option Y → Type 0
IsOkOption view (Ok x) read = read ≡ Some (view x)
IsOkOption view (Err e) read = read ≡ None
