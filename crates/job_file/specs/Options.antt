-- What is read first, and then what is read with it; nothing where one of them is nothing.
use Rattle.std.specs.Prelude.{Option, Some, None}

infixl 10 ◌>>=◌
abbrev pub ◌>>=◌ : {X Y : Type 0} → Option X → (X → Option Y) → Option Y
None >>= next = None
(Some x) >>= next = next x
