-- The channels that were compared, with one channel more.
use Rattle.std.proofs.Common.{◌≡◌, ℕ, ◌+◌, List, [], ◌∷◌, ◌++◌, refl, sym, ap, ◌∙◌, arith}
use Rattle.std.specs.List.{flat_map, range_with_len}
use Rattle.std.proofs.lemmas.List.{flat_map_more, map-id}
use Rattle.std.proofs.lemmas.List.FromFn.{map-range_with_len_more}
use Rattle.ch11_reader.specs.Recording.{Found}
use Rattle.bench_select.specs.declared.selection.Selection.{Selection}
use Rattle.bench_compare.specs.Compared.{channel_of, compared_below}

numbers_more : (n : ℕ) → range_with_len 0 (n + 1) ≡ range_with_len 0 n ++ n ∷ []
numbers_more n = sym (map-id (range_with_len 0 (n + 1))) ∙ map-range_with_len_more (λ (x : ℕ). x) 0 n n (omega arith) ∙ ap (λ (xs : List ℕ). xs ++ n ∷ []) (map-id (range_with_len 0 n))

pub none_below : (within : ℕ) (s t : Selection) (ps qs : List Found) → compared_below within s t ps qs 0 ≡ []
unfolding compared_below
none_below within s t ps qs = refl

pub one_more : (within : ℕ) (s t : Selection) (ps qs : List Found) (n : ℕ) → compared_below within s t ps qs n ++ channel_of within s t ps qs n ≡ compared_below within s t ps qs (n + 1)
unfolding compared_below
one_more within s t ps qs n =
    flat_map_more (channel_of within s t ps qs) [] (range_with_len 0 n) n ∙ ap (λ (l : List ℕ). flat_map (channel_of within s t ps qs) l) (sym (numbers_more n))
