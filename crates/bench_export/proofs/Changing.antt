-- Changes that were collected, one message after the other.
use Rattle.std.proofs.Common.{◌≡◌, ℕ, ◌+◌, List, [], ◌∷◌, ◌++◌, length, refl, sym, ap, ◌∙◌, append_assoc, add-one, arith}
use Rattle.std.proofs.lemmas.List.{append-nil}
use Rattle.ch11_f1.specs.BodyReading.{Message}
use Rattle.ch11_layout.specs.Stamps.{Recorded, recorded, kind_of}
use Rattle.ch11_layout.specs.declared.stamps.StampKind.{StampKind}
use Rattle.ch11_layout.specs.Layouts.{size_of}
use Rattle.bench_select.specs.declared.selection.Selection.{Selection}
use Rattle.bench_export.specs.declared.changes.Change.{Change}
use Rattle.bench_export.specs.Changes.{changes_at, changes_up_to, changes_of, changes_if, changes_among}

pub no_words : (got : List Change) (n channel : ℕ) (m : Recorded) → got ≡ got ++ changes_up_to 0 n channel m
unfolding changes_up_to
no_words got n channel m = sym (append-nil got)

pub word_more : (got mid gets : List Change) (count n channel : ℕ) (m : Recorded) → mid ≡ got ++ changes_up_to count n channel m
    → gets ≡ mid ++ changes_at n channel m count → gets ≡ got ++ changes_up_to (count + 1) n channel m
unfolding changes_up_to
word_more got mid gets count n channel m a b =
    b ∙ ap (λ (l : List Change). l ++ changes_at n channel m count) a
    ∙ append_assoc got (changes_up_to count n channel m) (changes_at n channel m count)
    ∙ ap (λ (k : ℕ). got ++ changes_up_to k n channel m) (sym (add-one count))

pub all_words : (got gets : List Change) (count n channel : ℕ) (m : Recorded) → gets ≡ got ++ changes_up_to count n channel m
    → count ≡ size_of m → gets ≡ got ++ changes_of n channel m
all_words got gets count n channel m a e = a ∙ ap (λ (k : ℕ). got ++ changes_up_to k n channel m) e

-- the changes of the messages so far were added
pub record IsAdding (s : Selection) (kind : StampKind) (got gets : List Change) (before number channel : ℕ) (all rest : List Message) : Type 0 where
  pub counted : number + length rest ≡ before + length all
  pub changes : gets ++ changes_among s kind number channel rest ≡ got ++ changes_among s kind before channel all

pub begins : (s : Selection) (kind : StampKind) (got : List Change) (before channel : ℕ) (all : List Message) → IsAdding s kind got got before before channel all all
begins s kind got before channel all = record { counted = refl; changes = refl }

pub goes_on : (s : Selection) (kind : StampKind) (got mid gets : List Change) (before number channel : ℕ) (all rest others : List Message) (m : Message) → IsAdding s kind got mid before number channel all rest → rest ≡ m ∷ others
    → gets ≡ mid ++ changes_if s (number + 1) channel (recorded kind m) → IsAdding s kind got gets before (number + 1) channel all others
goes_on s kind got mid gets before number channel all rest others m g is one = record {
  counted = omega (arith, g.counted, ap length is);
  changes =
      ap (λ (l : List Change). l ++ changes_among s kind (number + 1) channel others) one
      ∙ append_assoc mid (changes_if s (number + 1) channel (recorded kind m)) (changes_among s kind (number + 1) channel others)
      ∙ ap (λ (ms : List Message). mid ++ changes_among s kind number channel ms) (sym is) ∙ g.changes;
}

pub ends : (s : Selection) (kind : StampKind) (got gets : List Change) (before number channel : ℕ) (all rest : List Message) → IsAdding s kind got gets before number channel all rest → rest ≡ [] → gets ≡ got ++ changes_among s kind before channel all
ends s kind got gets before number channel all rest g none =
    sym (append-nil gets) ∙ ap (λ (ms : List Message). gets ++ changes_among s kind number channel ms) (sym none) ∙ g.changes
