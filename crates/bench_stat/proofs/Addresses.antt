-- The figures of all terminals with one more call.
use Rattle.std.proofs.Common.{◌≡◌, inl, inr, ℕ, ◌<◌, ◌==◌, true, false, List, ◌∷◌, length, set, get_or, refl, sym, ap, ◌∙◌, arith}
use Rattle.std.proofs.lemmas.Bool.{cases_eq, eq-eqb, ne_eqb}
use Rattle.std.proofs.lemmas.List.{length-set, get_or-set_same, get_or-set_other}
use Rattle.std.proofs.lemmas.List.FromFn.{length-map-range_with_len, get_or-map-range_with_len, fill_by_all}
use Rattle.mil_word.specs.Fields.{field_values}
use Rattle.bench_stat.specs.declared.calls.Call.{Call}
use Rattle.bench_stat.specs.declared.terminals.TerminalFigures.{TerminalFigures}
use Rattle.bench_stat.specs.Figures.{figures_of, calls_to, terminals_of}
use Rattle.bench_stat.specs.Steps.{with_call}
use Rattle.bench_stat.proofs.Counting.{with_call_more}

-- a call of another address changes nothing
other_call : (address : ℕ) (c : Call) (cs : List Call) → (c.address == address) ≡ false → calls_to address (c ∷ cs) ≡ calls_to address cs
other_call address c cs other = rw other refl

own_call : (address : ℕ) (c : Call) (cs : List Call) → (c.address == address) ≡ true → calls_to address (c ∷ cs) ≡ c ∷ calls_to address cs
own_call address c cs own = rw own refl

abbrev figures_at : List Call → ℕ → TerminalFigures
figures_at cs address = figures_of (calls_to address cs)

pub many : (cs : List Call) → length (terminals_of cs) ≡ field_values
unfolding terminals_of
many cs = length-map-range_with_len (figures_at cs) 0 field_values

pub at_address : (cs : List Call) (address : ℕ) (d : TerminalFigures) → address < field_values → get_or (terminals_of cs) address d ≡ figures_at cs address
unfolding terminals_of
at_address cs address d within = get_or-map-range_with_len (figures_at cs) 0 field_values address address d within (omega arith)

pub all_addresses : (cs : List Call) (xs : List TerminalFigures) (d : TerminalFigures) → length xs ≡ field_values → ((k : ℕ) → k < field_values → get_or xs k d ≡ figures_at cs k) → xs ≡ terminals_of cs
unfolding terminals_of
all_addresses cs xs d long same = fill_by_all (figures_at cs) xs field_values d long same

pub one_more_call : (c : Call) (cs : List Call) (d : TerminalFigures) → c.address < field_values → set (terminals_of cs) c.address (with_call c (get_or (terminals_of cs) c.address d)) ≡ terminals_of (c ∷ cs)
one_more_call c cs d within = all_addresses (c ∷ cs) (set (terminals_of cs) c.address new) d (length-set (terminals_of cs) c.address new ∙ many cs) each
  where
    new : TerminalFigures
    new = with_call c (get_or (terminals_of cs) c.address d)

    each : (k : ℕ) → k < field_values → get_or (set (terminals_of cs) c.address new) k d ≡ figures_at (c ∷ cs) k
    each k below = elim (cases_eq k c.address) [
      | inl e ↦
          ap (λ (j : ℕ). get_or (set (terminals_of cs) c.address new) j d) e ∙ get_or-set_same (terminals_of cs) c.address new d (omega (arith, many cs)) ∙ ap (with_call c) (at_address cs c.address d within)
          ∙ with_call_more c (calls_to c.address cs) ∙ ap figures_of (sym (own_call c.address c cs (eq-eqb c.address c.address refl))) ∙ ap (figures_at (c ∷ cs)) (sym e)
      | inr n ↦ get_or-set_other (terminals_of cs) c.address k new d n ∙ at_address cs k d below ∙ ap figures_of (sym (other_call k c cs (ne_eqb c.address k (λ e. n (sym e)))))
    ]
