-- Two readings of a channel, compared one message after the other.
use Rattle.std.proofs.Common.{◌≡◌, ℕ, ◌+◌, Bool, List, ◌∷◌, ◌++◌, Option, None, Some, refl, sym, ap, ◌∙◌, append_assoc}
use Rattle.ch11_f1.specs.BodyReading.{Message}
use Rattle.ch11_layout.specs.Stamps.{Recorded, recorded}
use Rattle.ch11_layout.specs.declared.stamps.StampKind.{StampKind}
use Rattle.ch11_reader.specs.Recording.{Found}
use Rattle.bench_select.specs.declared.selection.Selection.{Selection}
use Rattle.bench_select.specs.Selecting.{selects}
use Rattle.bench_compare.specs.declared.channels.Standing.{Standing}
use Rattle.bench_compare.specs.declared.differences.Difference.{Difference}
use Rattle.bench_compare.specs.declared.differences.Origins.{Origins}
use Rattle.bench_compare.specs.declared.differences.Part.{Part}
use Rattle.bench_compare.specs.Channels.{left_of, origins_by}
use Rattle.bench_compare.specs.Chosen.{chosen_among, one_if}
use Rattle.bench_compare.specs.Differences.{difference_at, differs_behind, differs_by, part_of}
use Rattle.bench_compare.specs.Passes.{IsUnderWay, Passing, pass_to_come}
use Rattle.bench_compare.proofs.Keeping.{one_more}

-- ---- two messages

pub same_on : (within : ℕ) (st now : Standing) (o : Origins) (a b : Recorded) (found : Option Part) → o ≡ origins_by st.origins a.stamp b.stamp → found ≡ part_of within o a b → found ≡ None → now ≡ record { same = st.same + 1; origins = Some o }
    → (xs ys : List Recorded) → left_of within st (a ∷ xs) (b ∷ ys) ≡ left_of within now xs ys
same_on within st now o a b found is part none after xs ys =
    ap (λ (x : Origins). differs_behind within st.same x (a ∷ xs) (b ∷ ys)) (sym is)
    ∙ ap (λ (x : Option Part). differs_by x (st.same + 1) o a b (differs_behind within (st.same + 1) o xs ys)) (sym part ∙ none)
    ∙ ap (λ (x : Standing). left_of within x xs ys) (sym after)

pub differs_on : (within : ℕ) (st : Standing) (o : Origins) (a b : Recorded) (found : Option Part) (part : Part) → o ≡ origins_by st.origins a.stamp b.stamp → found ≡ part_of within o a b → found ≡ Some part
    → (xs ys : List Recorded) → left_of within st (a ∷ xs) (b ∷ ys) ≡ Some (difference_at (st.same + 1) part o (Some a) (Some b))
differs_on within st o a b found part is seen some xs ys =
    ap (λ (x : Origins). differs_behind within st.same x (a ∷ xs) (b ∷ ys)) (sym is)
    ∙ ap (λ (x : Option Part). differs_by x (st.same + 1) o a b (differs_behind within (st.same + 1) o xs ys)) (sym seen ∙ some)

-- ---- the messages of a packet

module _ (within : ℕ) (s t : Selection) (own channel : ℕ) (kind : StampKind) (other : List ℕ) (qs : List Found) (start : Standing) (first : Passing) where
  -- so many were compared
  pub record IsFollowing (before number : ℕ) (all rest : List Message) (st : Standing) (pass : Passing) : Type 0 where
    pub way : IsUnderWay other pass.reading
    pub same : (xs : List Recorded) → left_of within start (chosen_among s kind before own all ++ xs) (pass_to_come t channel qs first)
        ≡ left_of within st (chosen_among s kind number own rest ++ xs) (pass_to_come t channel qs pass)

  pub begins : (before : ℕ) (all : List Message) → IsUnderWay other first.reading → IsFollowing before before all all start first
  begins before all way = record { way = way; same = λ xs. refl }

  split : (number : ℕ) (rest others : List Message) (m : Message) (b : Bool) (xs : List Recorded) → rest ≡ m ∷ others → b ≡ selects s (number + 1) own (recorded kind m)
      → chosen_among s kind number own rest ++ xs ≡ one_if b (recorded kind m) ++ (chosen_among s kind (number + 1) own others ++ xs)
  split number rest others m b xs is e =
      ap (λ (l : List Message). chosen_among s kind number own l ++ xs) is
      ∙ ap (λ (l : List Recorded). l ++ xs) (one_more s kind number own m others b e)
      ∙ append_assoc (one_if b (recorded kind m)) (chosen_among s kind (number + 1) own others) xs

  pub goes_on : (before number : ℕ) (all rest others : List Message) (m : Message) (b : Bool) (st now : Standing) (pass left : Passing) → IsFollowing before number all rest st pass → rest ≡ m ∷ others
      → b ≡ selects s (number + 1) own (recorded kind m) → IsUnderWay other left.reading
      → ((xs : List Recorded) → left_of within st (one_if b (recorded kind m) ++ xs) (pass_to_come t channel qs pass) ≡ left_of within now xs (pass_to_come t channel qs left))
      → IsFollowing before (number + 1) all others now left
  goes_on before number all rest others m b st now pass left f is e way one = record {
    way = way;
    same = λ xs.
        f.same xs
        ∙ ap (λ (l : List Recorded). left_of within st l (pass_to_come t channel qs pass)) (split number rest others m b xs is e)
        ∙ one (chosen_among s kind (number + 1) own others ++ xs);
  }

  pub found_in_it : (before number : ℕ) (all rest others : List Message) (m : Message) (b : Bool) (st : Standing) (pass : Passing) (d : Difference) → IsFollowing before number all rest st pass → rest ≡ m ∷ others
      → b ≡ selects s (number + 1) own (recorded kind m)
      → ((xs : List Recorded) → left_of within st (one_if b (recorded kind m) ++ xs) (pass_to_come t channel qs pass) ≡ Some d)
      → (xs : List Recorded) → left_of within start (chosen_among s kind before own all ++ xs) (pass_to_come t channel qs first) ≡ Some d
  found_in_it before number all rest others m b st pass d f is e one xs =
      f.same xs
      ∙ ap (λ (l : List Recorded). left_of within st l (pass_to_come t channel qs pass)) (split number rest others m b xs is e)
      ∙ one (chosen_among s kind (number + 1) own others ++ xs)
