-- The lanes of terminals that are called, one address after the other.
use Rattle.std.proofs.Common.{◌≡◌, ℕ, zero, suc, ◌+◌, true, false, cond, List, [], ◌∷◌, ◌++◌, refl, ap, arith, ◌∙◌}
use Rattle.std.specs.Prelude.{Bool, not, get_or}
use Rattle.std.specs.List.{list_all}
use Rattle.std.proofs.lemmas.List.FromFn.{filter_of_map_range_with_len_more}
use Rattle.bench_draw.specs.declared.called.Called.{Called}
use Rattle.bench_draw.specs.declared.track.Track.{Track}
use Rattle.bench_draw.specs.declared.track.Track.TheVariants.{Terminal}
use Rattle.bench_draw.specs.Lanes.{has_lane, is_called, lanes_below}

pub one_called : (c : Called) (n : ℕ) → is_called c n ≡ true → lanes_below c (n + 1) ≡ lanes_below c n ++ Terminal n ∷ []
one_called c n is =
    filter_of_map_range_with_len_more {X = Track} (has_lane c) (λ (a : ℕ). Terminal a) 0 n n (omega arith)
    ∙ ap (λ (b : Bool). lanes_below c n ++ cond b (Terminal n ∷ []) []) is

pub one_not_called : (c : Called) (n : ℕ) → is_called c n ≡ false → lanes_below c (n + 1) ≡ lanes_below c n ++ []
one_not_called c n is =
    filter_of_map_range_with_len_more {X = Track} (has_lane c) (λ (a : ℕ). Terminal a) 0 n n (omega arith)
    ∙ ap (λ (b : Bool). lanes_below c n ++ cond b (Terminal n ∷ []) []) is

-- where no flag is set, none is found
pub none_is_called : (flags : List Bool) → list_all not flags ≡ true → (n : ℕ) → get_or flags n false ≡ false
none_is_called [] h n = refl
none_is_called (false ∷ flags) h zero = refl
none_is_called (false ∷ flags) h (suc n) = none_is_called flags h n
none_is_called (true ∷ flags) h n = absurd cc
