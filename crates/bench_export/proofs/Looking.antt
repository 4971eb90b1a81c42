-- Whether a selected message was met.
use Rattle.std.proofs.Common.{◌≡◌, Bool, true, false, ℕ, ◌+◌, List, [], ◌∷◌, length, sym, ap, ◌∙◌, arith}
use Rattle.std.specs.Prelude.{◌||◌}
use Rattle.ch11_f1.specs.BodyReading.{Message}
use Rattle.ch11_layout.specs.Stamps.{recorded}
use Rattle.ch11_layout.specs.declared.stamps.StampKind.{StampKind}
use Rattle.bench_select.specs.declared.selection.Selection.{Selection}
use Rattle.bench_select.specs.Selecting.{selects}
use Rattle.bench_export.specs.Choosing.{selects_among}

-- what was passed of the messages has no selected one
pub record IsLooking (s : Selection) (kind : StampKind) (before number channel : ℕ) (all rest : List Message) : Type 0 where
  pub counted : number + length rest ≡ before + length all
  pub same : selects_among s kind number channel rest ≡ selects_among s kind before channel all

pub goes_by : (s : Selection) (kind : StampKind) (before number channel : ℕ) (all rest others : List Message) (m : Message) → IsLooking s kind before number channel all rest → rest ≡ m ∷ others
    → selects s (number + 1) channel (recorded kind m) ≡ false → IsLooking s kind before (number + 1) channel all others
goes_by s kind before number channel all rest others m g is other = record {
  counted = omega (arith, g.counted, ap length is);
  same = ap (λ (b : Bool). b || selects_among s kind (number + 1) channel others) (sym other) ∙ ap (λ (ms : List Message). selects_among s kind number channel ms) (sym is) ∙ g.same;
}

pub meets : (s : Selection) (kind : StampKind) (before number channel : ℕ) (all rest others : List Message) (m : Message) → IsLooking s kind before number channel all rest → rest ≡ m ∷ others
    → selects s (number + 1) channel (recorded kind m) ≡ true → true ≡ selects_among s kind before channel all
meets s kind before number channel all rest others m g is one =
    ap (λ (b : Bool). b || selects_among s kind (number + 1) channel others) (sym one) ∙ ap (λ (ms : List Message). selects_among s kind number channel ms) (sym is) ∙ g.same

pub ends : (s : Selection) (kind : StampKind) (before number channel : ℕ) (all rest : List Message) → IsLooking s kind before number channel all rest → rest ≡ [] → false ≡ selects_among s kind before channel all
ends s kind before number channel all rest g none = ap (λ (ms : List Message). selects_among s kind number channel ms) (sym none) ∙ g.same
