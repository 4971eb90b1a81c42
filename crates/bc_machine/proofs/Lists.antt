-- Inserts beside the rows, whose messages stand in a list of their own.
use Rattle.std.proofs.Common.{◌≡◌, List, [], ◌∷◌, ◌++◌, length, get_or, refl, ap, ap₂, ◌∙◌}
use Rattle.std.specs.Prelude.{All, map}
use Rattle.std.specs.List.{AllByRecursion}
use Rattle.std.proofs.lemmas.List.{get_or_append_left, map-append}
use Rattle.std.proofs.lemmas.List.Elements.{recursion_from_All}
use Rattle.mil_message.specs.declared.forms.Form.{Form}
use Rattle.controller_host.specs.Values.{InsertionValue}
use Rattle.bc_machine.specs.declared.beside.KeptInsert.{KeptInsert}
use Rattle.bc_machine.specs.Beside.{IsBehind, no_message, insertion_in, IsKeptInsert}

module _ (ms new : List Form) (more : IsBehind ms new) where
  one_same : (x : KeptInsert) → IsKeptInsert (length ms) x → insertion_in new x ≡ insertion_in ms x
  one_same x is =
      ap (λ (m : Form). record { tick = x.tick; line = x.line; message = m })
      (ap (λ (v : List Form). get_or v x.message no_message) more.is ∙ get_or_append_left ms more.rest no_message x.message is.1)

  all_same : (xs : List KeptInsert) → AllByRecursion (IsKeptInsert (length ms)) xs → map (insertion_in new) xs ≡ map (insertion_in ms) xs
  all_same [] all = refl
  all_same (x ∷ xs) all = ap₂ (λ (v : InsertionValue) (vs : List InsertionValue). v ∷ vs) (one_same x all.0) (all_same xs all.1)

  -- one insert more, where messages behind the others change none
  pub more_values : (xs : List KeptInsert) (x : KeptInsert) (v : InsertionValue) → All (IsKeptInsert (length ms)) xs → insertion_in new x ≡ v
      → map (insertion_in new) (xs ++ x ∷ []) ≡ map (insertion_in ms) xs ++ v ∷ []
  more_values xs x v all is =
      map-append (insertion_in new) xs (x ∷ [])
      ∙ ap₂ (λ (vs : List InsertionValue) (w : InsertionValue). vs ++ w ∷ []) (all_same xs (recursion_from_All (IsKeptInsert (length ms)) xs all)) is
