-- A value that is noted.
use Rattle.std.proofs.Common.{◌≡◌, ℕ, ◌+◌, ◌*◌, ◌<◌, ◌==◌, ◌&&◌, ◌⊎◌, ◌≢◌, Bool, true, false, cond, List, Option, Some, None, Vec, Global, refl, ap, sym, ◌∙◌, arith, inl, inr}
use Rattle.std.specs.Prelude.{nat_eq, option_map}
use Rattle.std.specs.HashMap.{get}
use Rattle.std.proofs.lemmas.Bool.{cases_eq, eq-eqb, ne_eqb}
use Rattle.std.proofs.lemmas.Slice.Eq.{bytes_eq-Decides}
use Rattle.bench_signals.specs.Latest.{IsNoted}
use Rattle.bench_signals.specs.Values.{is_same}
use Rattle.bench_signals.specs.declared.latest.Latest.{Latest}

pub is_kept : (text : List ℕ) (o : Option (List ℕ)) → true ≡ is_same text o → o ≡ Some text
is_kept text None is = absurd cc
is_kept text (Some before) is = ap (λ (t : List ℕ). Some t) ((bytes_eq-Decides before text).0 (sym is))

-- each signal in each channel has a place of its own
pub other_key : (i c j d : ℕ) → c < 65536 → d < 65536 → ((i == j) && (c == d)) ≡ false → j * 65536 + d ≡ i * 65536 + c → ⊥
other_key i c j d below small other e = go (cases_eq i j)
  where
    go : (i ≡ j) ⊎ (i ≢ j) → ⊥
    go (inl same) =
        let equal : c ≡ d = omega (arith, e, ap (λ (n : ℕ). n * 65536) same) in
        let both : ((i == j) && (c == d)) ≡ true = rw (eq-eqb i j same, eq-eqb c d equal) refl in
        let bad : true ≡ false = sym both ∙ other in
        absurd cc
    go (inr n) = absurd (omega (arith, e, n, below, small))

pub put_noted : (signal channel : ℕ) (text : List ℕ) (v : Vec ℕ Global) (old new : Latest) → ((q : ℕ) → get nat_eq new.texts q ≡ cond (nat_eq (signal * 65536 + channel) q) (Some v) (get nat_eq old.texts q))
    → v.items ≡ text → channel < 65536 → IsNoted signal channel text old new
put_noted signal channel text v old new put is below = record {
  kept =
      ap (option_map (λ (w : Vec ℕ Global). w.items)) (put (signal * 65536 + channel))
      ∙ ap (λ (b : Bool). option_map (λ (w : Vec ℕ Global). w.items) (cond b (Some v) (get nat_eq old.texts (signal * 65536 + channel)))) (eq-eqb (signal * 65536 + channel) (signal * 65536 + channel) refl)
      ∙ ap (λ (t : List ℕ). Some t) is;
  others = λ i c small other.
      ap (option_map (λ (w : Vec ℕ Global). w.items)) (put (i * 65536 + c))
      ∙ ap (λ (b : Bool). option_map (λ (w : Vec ℕ Global). w.items) (cond b (Some v) (get nat_eq old.texts (i * 65536 + c)))) (ne_eqb (signal * 65536 + channel) (i * 65536 + c) (other_key i c signal channel small below other));
}
