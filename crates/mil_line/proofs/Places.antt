-- The words of a run, place by place.
use Rattle.std.proofs.Common.{◌≡◌, ℕ, ◌+◌, ◌<◌, List, [], ◌∷◌, ◌++◌, map, take, drop, length, get_or, zero, suc, refl, ap, ◌∙◌, append_assoc, drop-cons, add-one}
use Rattle.std.specs.Prelude.{replicate}
use Rattle.std.proofs.lemmas.Grind.{replicate_next}
use Rattle.std.proofs.lemmas.List.{map-append}
use Rattle.mil_line.specs.declared.faults.Fault.{Fault}
use Rattle.mil_line.specs.declared.line_words.LineWord.{LineWord}
use Rattle.mil_line.specs.Faults.{at_once, words_under_faults, altered_from}

pub take-take_append : {X : Type 0} → (n : ℕ) (xs ys : List X) → take n (take n xs ++ ys) ≡ take n (xs ++ ys)
take-take_append zero xs ys = refl
take-take_append (suc n) [] ys = refl
take-take_append (suc n) (x ∷ xs) ys = ap (λ zs. x ∷ zs) (take-take_append n xs ys)

pub next_place : (faults : List Fault) (run i room x : ℕ) (given : List ℕ) (ws new : List LineWord) → i < length given → x ≡ get_or given i x
    → new ≡ take room (ws ++ words_under_faults faults run i x)
    → take room (new ++ altered_from faults run (i + 1) (drop (i + 1) given)) ≡ take room (ws ++ altered_from faults run i (drop i given))
next_place faults run i room x given ws new lt is e =
    let d : drop i given ≡ get_or given i x ∷ drop (suc i) given = drop-cons given i x lt in
    rw (e, add-one, d, ← is) (take-take_append room (ws ++ words_under_faults faults run i x) (altered_from faults run (suc i) (drop (suc i) given)) ∙ ap (take room) (append_assoc ws (words_under_faults faults run i x) (altered_from faults run (suc i) (drop (suc i) given))))

-- one word more with a wave
pub one_copy_more : (room i wave : ℕ) (first words : List LineWord) (w : LineWord) → w ≡ at_once wave
    → words ≡ take room (first ++ map at_once (replicate i wave))
    → take room (words ++ w ∷ []) ≡ take room (first ++ map at_once (replicate (i + 1) wave))
one_copy_more room i wave first words w is e =
    let copies = map at_once (replicate i wave) in
    let more : map at_once (replicate (i + 1) wave) ≡ copies ++ at_once wave ∷ [] =
    ap (map at_once) (replicate_next i wave) ∙ map-append at_once (replicate i wave) (wave ∷ []) in
    rw (e, is, more) (take-take_append room (first ++ copies) (at_once wave ∷ []) ∙ ap (take room) (append_assoc first copies (at_once wave ∷ [])))
