-- Pieces that are put behind one another.
use Rattle.std.proofs.Common.{◌≡◌, ℕ, ◌/◌, ◌%◌, List, ◌++◌, ap, sym, ◌∙◌, append_assoc}
use Rattle.std.specs.Prelude.{codes, decimal}
use Rattle.text_lines.specs.Words.{Text}
use Rattle.bench_check.specs.FrameLines.{tenths_text}

-- two pieces
pub two_put : {A : Type 0} (old a b mid new : List A) → mid ≡ old ++ a → new ≡ mid ++ b → new ≡ old ++ (a ++ b)
two_put old a b mid new first second = second ∙ ap (λ v. v ++ b) first ∙ append_assoc old a b

-- three pieces
pub three_put : {A : Type 0} (old a b c x y new : List A) → x ≡ old ++ a → y ≡ x ++ b → new ≡ y ++ c → new ≡ old ++ (a ++ (b ++ c))
three_put old a b c x y new first second third = two_put old a (b ++ c) x new first (two_put x b c y new second third)

-- a text with two numbers in it, and one behind it
pub behind_four : {A : Type 0} (a b c d rest : List A) → (a ++ (b ++ (c ++ d))) ++ rest ≡ a ++ (b ++ (c ++ (d ++ rest)))
behind_four a b c d rest =
    append_assoc a (b ++ (c ++ d)) rest ∙ ap (λ v. a ++ v) (append_assoc b (c ++ d) rest ∙ ap (λ v. b ++ v) (append_assoc c d rest))

-- a number of tenths, and a text behind it
pub tenths_put : (whole part n : ℕ) (rest : Text) → whole ≡ n / 10 → part ≡ n % 10 → decimal whole ++ (codes "." ++ (decimal part ++ rest)) ≡ tenths_text n ++ rest
tenths_put whole part n rest w p =
    ap (λ (k : ℕ). decimal k ++ (codes "." ++ (decimal part ++ rest))) w
    ∙ ap (λ (k : ℕ). decimal (n / 10) ++ (codes "." ++ (decimal k ++ rest))) p
    ∙ sym (append_assoc (decimal (n / 10)) (codes "." ++ decimal (n % 10)) rest)
