-- The items of a chain, and how many links it follows.
use Rattle.std.specs.Prelude.{ℕ, ◌+◌, List, [], ◌∷◌, ◌++◌}
use Rattle.history.specs.declared.chains.Link.{Link}
use Rattle.history.specs.declared.chains.Link.TheVariants.{Start, Before, Behind, Same}

abbrev pub items : {T : Type 0} → Link T → List T × ℕ
items Start = ([], 0)
items (Before item others) = (item.value ∷ others.value.0, others.value.1 + 1)
items (Behind item others) = (others.value.0 ++ item.value ∷ [], others.value.1 + 1)
items (Same others) = (others.value.value.0, others.value.value.1 + 1)
