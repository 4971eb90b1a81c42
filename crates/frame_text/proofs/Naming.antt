-- Words byte by byte.
use Rattle.std.proofs.Common.{◌≡◌, ℕ, Bool, true, false, List, ◌∷◌, sym, ap, ◌∙◌}
use Rattle.std.specs.Prelude.{nat_eq, nat_le, ◌&&◌, ◌||◌}
use Rattle.frame_tree.specs.Names.{is_letter, are_word_bytes}

second : (a b : Bool) → (a && b) ≡ true → b ≡ true
second true b e = e
second false b e = absurd (cc)

pub rest_is_word : (w : List ℕ) (b : ℕ) (rest : List ℕ) → w ≡ b ∷ rest → are_word_bytes w ≡ true → are_word_bytes rest ≡ true
rest_is_word w b rest e h = second (is_letter b || (nat_le 48 b && nat_le b 57) || nat_eq b 95) (are_word_bytes rest) (ap are_word_bytes (sym e) ∙ h)
