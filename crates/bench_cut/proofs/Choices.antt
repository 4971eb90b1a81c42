-- Messages that are chosen, one after the other.
use Rattle.std.proofs.Common.{◌≡◌, ℕ, ◌+◌, ◌*◌, ◌<◌, ◌≤◌, ◌^◌, Bool, true, false, cond, eqb, List, [], ◌∷◌, length, refl, sym, ap, subst, ◌∙◌, arith}
use Rattle.std.proofs.lemmas.Bool.{eqb-true, ne_eqb}
use Rattle.ch11_f1.specs.BodyReading.{Message}
use Rattle.ch11_layout.specs.Stamps.{recorded}
use Rattle.ch11_layout.specs.declared.stamps.StampKind.{StampKind}
use Rattle.bench_select.specs.declared.selection.Selection.{Selection}
use Rattle.bench_select.specs.Selecting.{selects}
use Rattle.bench_cut.specs.declared.choosing.Chosen.{Chosen}
use Rattle.bench_cut.specs.Chosen.{HasRoom, noted_if, what_of}
use Rattle.bench_cut.specs.Cut.{first_stamp, sizes_of}
use Rattle.bench_cut.specs.Parts.{chosen_among}

-- those that are not chosen take at least 14 bytes each
pub lighter : (s : Selection) (kind : StampKind) (n channel : ℕ) (ms : List Message)
    → sizes_of (chosen_among s kind n channel ms) + 14 * length ms ≤ sizes_of ms + 14 * length (chosen_among s kind n channel ms)
lighter s kind n channel [] = omega arith
lighter s kind n channel (m ∷ ms) = by (selects s (n + 1) channel (recorded kind m)) (chosen_among s kind (n + 1) channel ms) (lighter s kind (n + 1) channel ms)
  where
    by : (b : Bool) (xs : List Message) → sizes_of xs + 14 * length ms ≤ sizes_of ms + 14 * length xs → sizes_of (cond b (m ∷ xs) xs) + 14 * length (m ∷ ms) ≤ sizes_of (m ∷ ms) + 14 * length (cond b (m ∷ xs) xs)
    by true xs h = omega (arith, h)
    by false xs h = omega (arith, h)

pub fewer : (s : Selection) (kind : StampKind) (n channel : ℕ) (ms : List Message) → length (chosen_among s kind n channel ms) ≤ length ms
fewer s kind n channel [] = omega arith
fewer s kind n channel (m ∷ ms) = by (selects s (n + 1) channel (recorded kind m)) (chosen_among s kind (n + 1) channel ms) (fewer s kind (n + 1) channel ms)
  where
    by : (b : Bool) (xs : List Message) → length xs ≤ length ms → length (cond b (m ∷ xs) xs) ≤ length (m ∷ ms)
    by true xs h = omega (arith, h)
    by false xs h = omega (arith, h)

-- the stamp of the first, where some were met or are to come
abbrev first_or : Chosen → List Message → ℕ
first_or c ms = cond (eqb c.count 0) (first_stamp ms) c.first

pub record IsChoosing (s : Selection) (kind : StampKind) (before number channel : ℕ) (all rest : List Message) (c : Chosen) : Type 0 where
  pub counted : number + length rest ≡ before + length all
  pub count : c.count + length (chosen_among s kind number channel rest) ≡ length (chosen_among s kind before channel all)
  pub size : c.size + sizes_of (chosen_among s kind number channel rest) ≡ sizes_of (chosen_among s kind before channel all)
  pub first : first_or c (chosen_among s kind number channel rest) ≡ first_stamp (chosen_among s kind before channel all)
  pub none : c.count ≡ 0 → c.first ≡ 0

pub begins : (s : Selection) (kind : StampKind) (before channel : ℕ) (all : List Message) → IsChoosing s kind before before channel all all (record { count = 0; size = 0; first = 0 })
begins s kind before channel all = record { counted = refl; count = omega arith; size = omega arith; first = refl; none = λ e. refl }

module _ (s : Selection) (kind : StampKind) (before number channel : ℕ) (all rest others : List Message) (m : Message) (c : Chosen)
    (g : IsChoosing s kind before number channel all rest c) (is : rest ≡ m ∷ others) where
  abbrev come : List Message
  come = chosen_among s kind (number + 1) channel others

  -- what is chosen of the rest
  now : (b : Bool) → selects s (number + 1) channel (recorded kind m) ≡ b → chosen_among s kind number channel rest ≡ cond b (m ∷ come) come
  now b e = ap (λ (ms : List Message). chosen_among s kind number channel ms) is ∙ ap (λ (b : Bool). cond b (m ∷ come) come) e

  pub room : before + length all < 2 ^ 64 → sizes_of all < 2 ^ 64 → selects s (number + 1) channel (recorded kind m) ≡ true → HasRoom c m
  room few small one =
      let n = ap length (now true one) in
      let size = ap sizes_of (now true one) in
      record {
        count = omega (arith, n, g.count, fewer s kind before channel all, few);
        size = omega (arith, size, g.size, lighter s kind before channel all, fewer s kind before channel all, small);
      }

  noted_first : eqb (c.count + 1) 0 ≡ false
  noted_first = ne_eqb (c.count + 1) 0 (λ e. absurd (omega (arith, e)))

  by : (b : Bool) → selects s (number + 1) channel (recorded kind m) ≡ b → IsChoosing s kind before (number + 1) channel all others (noted_if b c m)
  by true e = record {
    counted = omega (arith, g.counted, ap length is);
    count = omega (arith, g.count, ap length (now true e));
    size = omega (arith, g.size, ap sizes_of (now true e));
    first = ap (λ (b : Bool). cond b (first_stamp come) (cond (eqb c.count 0) m.stamp c.first)) noted_first ∙ ap (first_or c) (sym (now true e)) ∙ g.first;
    none = λ e. absurd (omega (arith, e));
  }
  by false e = record {
    counted = omega (arith, g.counted, ap length is);
    count = omega (arith, g.count, ap length (now false e));
    size = omega (arith, g.size, ap sizes_of (now false e));
    first = ap (first_or c) (sym (now false e)) ∙ g.first;
    none = g.none;
  }

  pub goes_on : (b : Bool) (n : ℕ) (after : Chosen) → b ≡ selects s n channel (recorded kind m) → n ≡ number + 1 → after ≡ noted_if b c m → IsChoosing s kind before n channel all others after
  goes_on b n after e next is = rw (is, next) (by b (ap (λ (k : ℕ). selects s k channel (recorded kind m)) (sym next) ∙ sym e))

last : (s : Selection) (kind : StampKind) (before number channel : ℕ) (all : List Message) (c : Chosen) → IsChoosing s kind before number channel all [] c → c ≡ what_of (chosen_among s kind before channel all)
last s kind before number channel all c g = same c.count c.size c.first (omega (arith, g.count)) (omega (arith, g.size)) (by (eqb c.count 0) refl ∙ g.first)
  where
    by : (b : Bool) → eqb c.count 0 ≡ b → c.first ≡ cond b 0 c.first
    by true e = g.none (eqb-true c.count 0 e)
    by false e = refl

    same : (a b f : ℕ) → a ≡ length (chosen_among s kind before channel all) → b ≡ sizes_of (chosen_among s kind before channel all) → f ≡ first_stamp (chosen_among s kind before channel all)
        → record { count = a; size = b; first = f } ≡ what_of (chosen_among s kind before channel all)
    same a b f p q r = rw (p, q, r) refl

pub ends : (s : Selection) (kind : StampKind) (before number channel : ℕ) (all rest : List Message) (c : Chosen) → IsChoosing s kind before number channel all rest c → rest ≡ [] → c ≡ what_of (chosen_among s kind before channel all)
ends s kind before number channel all rest c g none = last s kind before number channel all c (subst (λ (ms : List Message). IsChoosing s kind before number channel all ms c) none g)
