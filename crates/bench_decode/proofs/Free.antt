-- Parts whose bytes are the same in any column: text, and what turns it red and back.
use Rattle.std.proofs.Common.{◌≡◌, ℕ, ◌+◌, Bool, true, false, ◌&&◌, List, [], ◌∷◌, ◌++◌, refl, ap, sym, ◌∙◌}
use Rattle.bench_decode.specs.declared.line.Shown.{Shown}
use Rattle.bench_decode.specs.Columns.{Part, text, upto, past, begin_red, end_red, bytes_of, width_of, drawn}

abbrev pub AreFree : List Part → Type 0
AreFree [] = Unit {0}
AreFree (text bytes ∷ ps) = AreFree ps
AreFree (upto column ∷ ps) = ⊥
AreFree (past column ∷ ps) = ⊥
AreFree (begin_red ∷ ps) = AreFree ps
AreFree (end_red ∷ ps) = AreFree ps

pub free-append : (ps qs : List Part) → AreFree ps → AreFree qs → AreFree (ps ++ qs)
free-append [] qs a b = b
free-append (text bytes ∷ ps) qs a b = free-append ps qs a b
free-append (upto column ∷ ps) qs a b = absurd a
free-append (past column ∷ ps) qs a b = absurd a
free-append (begin_red ∷ ps) qs a b = free-append ps qs a b
free-append (end_red ∷ ps) qs a b = free-append ps qs a b

pub drawn-free : (shown : Shown) (a b : ℕ) (ps : List Part) → AreFree ps → drawn shown a ps ≡ drawn shown b ps
unfolding drawn
drawn-free shown a b [] f = refl
drawn-free shown a b (text bytes ∷ ps) f = ap (λ (l : List ℕ). bytes ++ l) (drawn-free shown (a + width_of a (text bytes)) (b + width_of b (text bytes)) ps f)
drawn-free shown a b (upto column ∷ ps) f = absurd f
drawn-free shown a b (past column ∷ ps) f = absurd f
drawn-free shown a b (begin_red ∷ ps) f = ap (λ (l : List ℕ). bytes_of shown a begin_red ++ l) (drawn-free shown (a + width_of a begin_red) (b + width_of b begin_red) ps f)
drawn-free shown a b (end_red ∷ ps) f = ap (λ (l : List ℕ). bytes_of shown a end_red ++ l) (drawn-free shown (a + width_of a end_red) (b + width_of b end_red) ps f)
