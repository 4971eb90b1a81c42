-- Lists of entries, by their indexes.
use Rattle.std.proofs.Common.{◌≡◌, ℕ, Bool, true, false, cond, eqb, List, [], ◌∷◌, refl}
use Rattle.std.specs.List.{AllByRecursion}
use Rattle.std.proofs.lemmas.Bool.{eq-eqb}
use Rattle.mil_trunk.specs.Views.{with_tag}
use Rattle.bench_run.specs.declared.entry.Entry.{Entry}
use Rattle.bench_run.specs.Entries.{index_of}

-- what holds of the entries of each index holds of all
pub all_by_index : (P : Entry → Type 0) (got : List Entry) → ((t : ℕ) → AllByRecursion P (with_tag index_of t got)) → AllByRecursion P got
all_by_index P [] each = tt
all_by_index P (x ∷ got) each = (first, all_by_index P got rest)
  where
    here : (b : Bool) (own : List Entry) → b ≡ true → AllByRecursion P (cond b (x ∷ own) own) → P x
    here true own e all = all.0
    here false own e all = absurd cc

    later : (b : Bool) (own : List Entry) → AllByRecursion P (cond b (x ∷ own) own) → AllByRecursion P own
    later true own all = all.1
    later false own all = all

    first : P x
    first = here (eqb (index_of x) (index_of x)) (with_tag index_of (index_of x) got) (eq-eqb (index_of x) (index_of x) refl) (each (index_of x))

    rest : (t : ℕ) → AllByRecursion P (with_tag index_of t got)
    rest t = later (eqb (index_of x) t) (with_tag index_of t got) (each t)
