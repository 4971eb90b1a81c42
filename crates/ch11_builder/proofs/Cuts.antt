-- What is computed is a cutting.
use Rattle.std.proofs.Common.{◌≡◌, ℕ, ◌≤◌, Bool, true, false, List, [], ◌∷◌, ◌++◌, length, refl, sym, ap, subst, ◌∙◌, append_assoc}
use Rattle.std.specs.List.{AllByRecursion}
use Rattle.ch11_f1.specs.BodyBytes.{words_of}
use Rattle.ch11_builder.specs.Packet.{Numbered}
use Rattle.ch11_builder.specs.Cutting.{is_piece, cut_behind, cut, joined, AreFull, IsCutting}
use Rattle.ch11_builder.proofs.Pieces.{alone}

-- the first piece begins as the open one
record Begins (m : Numbered) (pieces : List (List Numbered)) : Type 0 where
  more : List Numbered
  others : List (List Numbered)
  is : pieces ≡ (m ∷ more) ∷ others

begins : (limit : ℕ) (m : Numbered) (ms ns : List Numbered) → Begins m (cut_behind limit (m ∷ ms) ns)
begins limit m ms [] = record { more = ms; others = []; is = refl }
begins limit m ms (n ∷ ns) = go (is_piece limit ((m ∷ ms) ++ n ∷ [])) refl (begins limit m (ms ++ n ∷ []) ns)
  where
    go : (b : Bool) → is_piece limit ((m ∷ ms) ++ n ∷ []) ≡ b → Begins m (cut_behind limit (m ∷ (ms ++ n ∷ [])) ns) → Begins m (cut_behind limit (m ∷ ms) (n ∷ ns))
    go true e b = record { more = b.more; others = b.others; is = rw e b.is }
    go false e b = record { more = ms; others = cut_behind limit (n ∷ []) ns; is = rw e refl }

joins : (limit : ℕ) (m : Numbered) (ms ns : List Numbered) → joined (cut_behind limit (m ∷ ms) ns) ≡ (m ∷ ms) ++ ns
joins limit m ms [] = refl
joins limit m ms (n ∷ ns) = go (is_piece limit ((m ∷ ms) ++ n ∷ [])) refl (joins limit m (ms ++ n ∷ []) ns) (joins limit n [] ns)
  where
    go : (b : Bool) → is_piece limit ((m ∷ ms) ++ n ∷ []) ≡ b → joined (cut_behind limit (m ∷ (ms ++ n ∷ [])) ns) ≡ (m ∷ (ms ++ n ∷ [])) ++ ns
        → joined (cut_behind limit (n ∷ []) ns) ≡ (n ∷ []) ++ ns → joined (cut_behind limit (m ∷ ms) (n ∷ ns)) ≡ (m ∷ ms) ++ n ∷ ns
    go true e one other = rw e (one ∙ append_assoc (m ∷ ms) (n ∷ []) ns)
    go false e one other = rw e (ap (λ (x : List Numbered). (m ∷ ms) ++ x) other)

-- the pieces are held, and full
record Good (limit : ℕ) (pieces : List (List Numbered)) : Type 0 where
  held : AllByRecursion (λ p. is_piece limit p ≡ true) pieces
  full : AreFull limit pieces

apart : (limit : ℕ) (p : List Numbered) (n : Numbered) (pieces : List (List Numbered)) → Begins n pieces → is_piece limit p ≡ true → is_piece limit (p ++ n ∷ []) ≡ false → Good limit pieces
    → Good limit (p ∷ pieces)
apart limit p n pieces b whole over rest =
    let again : Good limit ((n ∷ b.more) ∷ b.others) = subst (Good limit) b.is rest in
    let joint : Good limit (p ∷ (n ∷ b.more) ∷ b.others) = record { held = (whole, again.held); full = (over, again.full) } in
    subst (λ (x : List (List Numbered)). Good limit (p ∷ x)) (sym b.is) joint

good : (limit : ℕ) (m : Numbered) (ms ns : List Numbered) → is_piece limit (m ∷ ms) ≡ true → 256 ≤ limit → AllByRecursion (λ n. length (words_of n.message) ≤ 40) ns → Good limit (cut_behind limit (m ∷ ms) ns)
good limit m ms [] whole low few = record { held = (whole, tt); full = tt }
good limit m ms (n ∷ ns) whole low few = go (is_piece limit ((m ∷ ms) ++ n ∷ [])) refl (good limit m (ms ++ n ∷ []) ns) (good limit n [] ns (alone limit n low few.0) low few.1)
  where
    go : (b : Bool) → is_piece limit ((m ∷ ms) ++ n ∷ []) ≡ b
        → (is_piece limit (m ∷ (ms ++ n ∷ [])) ≡ true → 256 ≤ limit → AllByRecursion (λ n. length (words_of n.message) ≤ 40) ns → Good limit (cut_behind limit (m ∷ (ms ++ n ∷ [])) ns))
        → Good limit (cut_behind limit (n ∷ []) ns)
        → Good limit (cut_behind limit (m ∷ ms) (n ∷ ns))
    go true e one other = rw e (one e low few.1)
    go false e one other = rw e (apart limit (m ∷ ms) n (cut_behind limit (n ∷ []) ns) (begins limit n [] ns) whole e other)

pub cut_is_a_cutting : (limit : ℕ) (ns : List Numbered) → 256 ≤ limit → AllByRecursion (λ n. length (words_of n.message) ≤ 40) ns → IsCutting limit ns (cut limit ns)
cut_is_a_cutting limit [] low few = record { joins = refl; held = tt; full = tt }
cut_is_a_cutting limit (n ∷ ns) low few =
    let whole = good limit n [] ns (alone limit n low few.0) low few.1 in
    record { joins = joins limit n [] ns; held = whole.held; full = whole.full }
