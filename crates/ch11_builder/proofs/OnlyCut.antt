-- There is no other cutting of records whose stamps never fall.
use Rattle.std.proofs.Common.{◌≡◌, ℕ, true, List, [], ◌∷◌, ◌++◌, refl, sym, ap, subst, ◌∙◌, append_assoc}
use Rattle.std.specs.List.{AllByRecursion}
use Rattle.std.proofs.lemmas.List.{append-nil}
use Rattle.ch11_builder.specs.Packet.{Numbered}
use Rattle.ch11_builder.specs.Cutting.{is_piece, last_stamp, cut_behind, cut, joined, AreFull, IsCutting, NeverFall}
use Rattle.ch11_builder.proofs.OneMore.{last_stamp_more}
use Rattle.ch11_builder.proofs.Pieces.{front_is_piece}

-- the first piece is the one in front of the others, wherever the open one stands in it
within : (limit : ℕ) (others : List (List Numbered))
    → ((m : Numbered) (ms : List Numbered) → AreFull limit ((m ∷ ms) ∷ others) → NeverFall (last_stamp m.message.stamp ms) (joined others) → cut_behind limit (m ∷ ms) (joined others) ≡ (m ∷ ms) ∷ others)
    → (more : List Numbered) (m : Numbered) (ms : List Numbered) → is_piece limit ((m ∷ ms) ++ more) ≡ true → AreFull limit (((m ∷ ms) ++ more) ∷ others)
    → NeverFall (last_stamp m.message.stamp ms) (more ++ joined others) → cut_behind limit (m ∷ ms) (more ++ joined others) ≡ ((m ∷ ms) ++ more) ∷ others
within limit others end [] m ms whole full never =
    let bare : (m ∷ ms) ++ [] ≡ m ∷ ms = append-nil (m ∷ ms) in
    end m ms (subst (λ (p : List Numbered). AreFull limit (p ∷ others)) bare full) never ∙ ap (λ (p : List Numbered). p ∷ others) (sym bare)
within limit others end (x ∷ xs) m ms whole full never =
    let moved : (m ∷ ms) ++ x ∷ xs ≡ (m ∷ (ms ++ x ∷ [])) ++ xs = sym (append_assoc (m ∷ ms) (x ∷ []) xs) in
    let front : is_piece limit ((m ∷ ms) ++ x ∷ []) ≡ true = front_is_piece limit m ms x xs (joined others) never.1 whole in
    let stamp : last_stamp m.message.stamp (ms ++ x ∷ []) ≡ x.message.stamp = last_stamp_more m.message.stamp ms x in
    let later : NeverFall (last_stamp m.message.stamp (ms ++ x ∷ [])) (xs ++ joined others) = subst (λ (s : ℕ). NeverFall s (xs ++ joined others)) (sym stamp) never.1 in
    let next = within limit others end xs m (ms ++ x ∷ []) (subst (λ (p : List Numbered). is_piece limit p ≡ true) moved whole) (subst (λ (p : List Numbered). AreFull limit (p ∷ others)) moved full) later in
    rw front (next ∙ ap (λ (p : List Numbered). p ∷ others) (sym moved))

-- the pieces behind the first
behind : (limit : ℕ) (others : List (List Numbered)) → AllByRecursion (λ p. is_piece limit p ≡ true) others
    → (m : Numbered) (ms : List Numbered) → AreFull limit ((m ∷ ms) ∷ others) → NeverFall (last_stamp m.message.stamp ms) (joined others) → cut_behind limit (m ∷ ms) (joined others) ≡ (m ∷ ms) ∷ others
behind limit [] held m ms full never = refl
behind limit ([] ∷ qs) held m ms full never = cc
behind limit ((y ∷ ys) ∷ qs) held m ms full never =
    rw full.0 (ap (λ (ps : List (List Numbered)). (m ∷ ms) ∷ ps) (within limit qs (behind limit qs held.1) ys y [] held.0 full.1 never.1))

of_pieces : (limit : ℕ) (pieces : List (List Numbered)) → AllByRecursion (λ p. is_piece limit p ≡ true) pieces → AreFull limit pieces → NeverFall 0 (joined pieces) → pieces ≡ cut limit (joined pieces)
of_pieces limit [] held full never = refl
of_pieces limit ([] ∷ qs) held full never = cc
of_pieces limit ((y ∷ ys) ∷ qs) held full never = sym (within limit qs (behind limit qs held.1) ys y [] held.0 full never.1)

pub cutting_is_the_cut : (limit : ℕ) (ns : List Numbered) (pieces : List (List Numbered)) → NeverFall 0 ns → IsCutting limit ns pieces → pieces ≡ cut limit ns
cutting_is_the_cut limit ns pieces never c =
    of_pieces limit pieces c.held c.full (subst (NeverFall 0) (sym c.joins) never) ∙ ap (cut limit) c.joins
