-- Places that are no turns: in front of the first, behind the last, and between two.
use Rattle.std.proofs.Common.{◌≡◌, ℕ, ◌+◌, ◌<◌, ◌≤◌, false, ap, ◌∙◌, arith}
use Rattle.std.specs.Prelude.{◌-◌, ◌*◌, ◌/◌, ◌%◌, ◌==◌, ◌&&◌, nat_le}
use Rattle.std.proofs.lemmas.Bool.{and_left, and_right, ne_eqb, lt-leb}
use Rattle.std.proofs.lemmas.Nat.{div-add-mod', mod-mul-add}
use Rattle.job_moments.specs.declared.occasions.Turns.{Turns}
use Rattle.job_moments.specs.Planning.{is_turn}

pub turn_front : (t : Turns) (k : ℕ) → k < t.first → is_turn t k ≡ false
turn_front t k front = and_left _ ((k - t.first) % t.step == 0) (and_left (nat_le t.first k) (nat_le k t.last) (lt-leb t.first k front))

pub turn_behind : (t : Turns) (k : ℕ) → t.last < k → is_turn t k ≡ false
turn_behind t k behind = and_left _ ((k - t.first) % t.step == 0) (and_right (nat_le t.first k) (nat_le k t.last) (lt-leb k t.last behind))

mod_more : (a s d : ℕ) → a % s + d < s → (a + d) % s ≡ a % s + d
mod_more a s d small =
    let split = div-add-mod' a s in
    let same : a + d ≡ a / s * s + (a % s + d) = omega (arith, split) in
    ap (λ n. n % s) same ∙ mod-mul-add (a / s) s (a % s + d) small

pub turn_between : (t : Turns) (place k : ℕ) → t.first ≤ place → 0 < (place - t.first) % t.step
    → place ≤ k → k + (place - t.first) % t.step < place + t.step → is_turn t k ≡ false
turn_between t place k behind over from within =
    let same : k - t.first ≡ (place - t.first) + (k - place) = omega (arith, behind, from) in
    let more : ((place - t.first) + (k - place)) % t.step ≡ (place - t.first) % t.step + (k - place) =
    mod_more (place - t.first) t.step (k - place) (omega (arith, from, within)) in
    let is : (k - t.first) % t.step ≡ (place - t.first) % t.step + (k - place) = ap (λ n. n % t.step) same ∙ more in
    and_right (nat_le t.first k && nat_le k t.last) _ (ne_eqb ((k - t.first) % t.step) 0 (λ e. omega (arith, is, e, over)))
