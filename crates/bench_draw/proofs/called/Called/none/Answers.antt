use Rattle.std.proofs.Common.{false, [], ◌∷◌, refl}
use Rattle.bench_draw.proofs.Calling.{none_is_called}
use Rattle.bench_draw.proofs.called.Called.none.Goals as goal

pub returns : goal.returns
returns c = λ address below. none_is_called (false ∷ false ∷ false ∷ false ∷ false ∷ false ∷ false ∷ false ∷ false ∷ false ∷ false ∷ false ∷ false ∷ false ∷ false ∷ false ∷ false ∷ false ∷ false ∷ false ∷ false ∷ false ∷ false ∷ false ∷ false ∷ false ∷ false ∷ false ∷ false ∷ false ∷ false ∷ false ∷ []) refl address
