-- Bytes among those of a file that stand at an offset.
use Rattle.std.proofs.Common.{◌≡◌, ℕ, ◌+◌, ◌-◌, ◌≤◌, List, length, take, drop, Option, None, Some, MatchOption, IfSome, sym, ap, ◌∙◌, arith}
use Rattle.std.proofs.lemmas.List.{drop-drop, drop-take, length-drop, take-take, take_all}
use Rattle.bench_complete.specs.Lanes.{StandsAt}

-- so many behind the first ones
pub among : (file held : List ℕ) (from start size : ℕ) → StandsAt file from held → start + size ≤ length held → take size (drop start held) ≡ take size (drop (from + start) file)
among file held from start size stands within =
    let rest : ℕ = length held - start in
    let whole : length held ≡ start + rest = omega (arith, within) in
    ap (λ (l : List ℕ). take size (drop start l)) (stands ∙ ap (λ (n : ℕ). take n (drop from file)) whole)
    ∙ ap (take size) (drop-take start rest (drop from file))
    ∙ take-take size rest (drop start (drop from file)) (omega (arith, within))
    ∙ ap (take size) (drop-drop start from file)

-- those that were found
pub found_among : {B : Type 0} (X : Type 0) (now : B → List ℕ) (held behind : List ℕ) (from start offset size : ℕ) (r : Option B) → offset ≡ from + start → start ≤ length held
    → behind ≡ take (length held - start) (drop start held) → MatchOption r X (λ x. (0 ≤ size) × (size ≤ length behind) × (now x ≡ take (size - 0) (drop 0 behind)) × (length (now x) + 0 ≡ size))
    → IfSome r (λ x. (file : List ℕ) → StandsAt file from held → now x ≡ take size (drop offset file))
found_among X now held behind from start offset size None place within is m = tt
found_among X now held behind from start offset size (Some x) place within is m = λ file stands.
    let (low, few, found, whole) = m in
    let rest : behind ≡ drop start held = is ∙ take_all (length held - start) (drop start held) (omega (arith, length-drop start held)) in
    let same : size - 0 ≡ size = omega arith in
    let room : start + size ≤ length held = omega (arith, few, ap length rest, length-drop start held, within) in
    found ∙ ap (λ (n : ℕ). take n behind) same ∙ ap (take size) rest ∙ among file held from start size stands room ∙ ap (λ (n : ℕ). take size (drop n file)) (sym place)
