-- The lines of a text that are left, and a text without white space around it.
use Rattle.std.proofs.Common.{◌≡◌, ℕ, ◌+◌, ◌-◌, ◌≤◌, List, [], ◌∷◌, length, drop, ap, sym, ◌∙◌, arith, length-drop}
use Rattle.std.proofs.lemmas.List.{drop-drop, drop_all}
use Rattle.text_lines.specs.Words.{Text}

-- one line more is behind
pub one_behind : (made : ℕ) (first : Text) (rest now all : List Text) → rest ≡ drop made all → rest ≡ first ∷ now → now ≡ drop (made + 1) all
one_behind made first rest now all is split = ap (drop 1) (sym split ∙ is) ∙ drop-drop 1 made all

-- all lines are behind
pub all_behind : (made count : ℕ) (rest all : List Text) → rest ≡ drop made all → rest ≡ [] → made ≤ count → rest ≡ drop count all
all_behind made count rest all is none le = none ∙ sym (drop_all count all (omega (arith, le, length-drop made all, ap length (sym is ∙ none))))

-- more lines are behind
pub more_behind : (behind wanted : ℕ) (rest all next : List Text) → behind ≤ wanted → rest ≡ drop behind all → next ≡ drop (wanted - behind) rest → next ≡ drop wanted all
more_behind behind wanted rest all next le is more = more ∙ ap (drop (wanted - behind)) is ∙ drop-drop (wanted - behind) behind all ∙ ap (λ (n : ℕ). drop n all) same
  where
    same : behind + (wanted - behind) ≡ wanted
    same = omega (arith, le)
