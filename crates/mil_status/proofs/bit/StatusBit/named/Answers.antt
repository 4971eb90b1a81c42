use Rattle.std.proofs.Common.{◌≡◌, ℕ, zero, suc, ◌+◌, ◌<◌, Bool, false, List, [], ◌∷◌, length, drop, get_or, refl, sym, ap, ◌∙◌, add-one, arith}
use Rattle.std.specs.Str.{bytes_eq}
use Rattle.mil_status.specs.declared.bit.StatusBit.{StatusBit}
use Rattle.mil_status.specs.Status.{name_of, every_bit, bit_called}
use Rattle.mil_status.proofs.bit.StatusBit.named.Goals as goal

-- a bit of another name is none of this one
skipped : (bs : List StatusBit) (i : ℕ) (d : StatusBit) (name : List ℕ) → i < length bs → bytes_eq name (name_of (get_or bs i d)) ≡ false
    → bit_called (drop (i + 1) bs) name ≡ bit_called (drop i bs) name
skipped [] i d name lt other = absurd (omega (arith, lt))
skipped (b ∷ bs) zero d name lt other = rw other refl
skipped (b ∷ bs) (suc i) d name lt other = rw (add-one (suc i)) (rw (add-one i) at (skipped bs i d name (omega (arith, lt)) other))

pub loop-bit-preserved : goal.loop-bit-preserved
loop-bit-preserved c =
    let other = ap (λ (text : List ℕ). bytes_eq c.args.name.now text) (sym (c.as_bytes.ensures.value ∙ c.name.ensures)) ∙ sym c.eq.ensures ∙ c.if-eq.false in
    record { every = refl; called = skipped every_bit c.loop-bit.bit-index _ c.args.name.now (omega (arith, c.loop-bit-test.true)) other ∙ c.loop-bit.invariant.called }
