-- The numbers of the signals that a text spells are in their ranges.
use Rattle.std.proofs.Common.{◌≡◌, ℕ, Bool, true, false, List, drop, refl, subst}
use Rattle.std.specs.Prelude.{Option, Ok, Err, IfOk, if◌then◌else◌}
use Rattle.text_lines.specs.Words.{Text}
use Rattle.judge_rules.specs.declared.fault.RuleFault.{RuleFault}
use Rattle.judge_rules.specs.declared.fault.RuleFault.TheVariants.{Range}
use Rattle.judge_rules.specs.declared.rules.Check.TheVariants.{Sound}
use Rattle.judge_rules.specs.declared.rules.Selector.{Selector}
use Rattle.judge_rules.specs.Faults.{Read, both}
use Rattle.judge_rules.specs.Lines.{channel_in, behind_channel}
use Rattle.judge_rules.specs.Ranges.{AreInRange, IsChoice, IsSelector}
use Rattle.judge_rules.specs.Standard.{always}
use Rattle.judge_rules.specs.Selectors.{selector_in, behind_selector}
use Rattle.judge_rules.proofs.Ranges.{if_both, if_more, range_channel, range_selector}
use Rattle.signal_dictionary.specs.declared.signals.Kind.{Kind}
use Rattle.signal_dictionary.specs.declared.signals.Place.{Place}
use Rattle.signal_dictionary.specs.declared.texts.Name.{Name}
use Rattle.signal_dictionary.specs.declared.texts.Unit as units
use Rattle.signal_dictionary.specs.Fitting.{is_fitting}
use Rattle.signal_dictionary.specs.Kinds.{kind_in}
use Rattle.signal_dictionary.specs.Lines.{fitting, told_in}
use Rattle.signal_dictionary.specs.Parts.{Told}
use Rattle.signal_dictionary.specs.Places.{place_in, behind_place}
use Rattle.signal_dictionary.specs.Texts.{name_in}

any_name : (read : Read Name) → IfOk read (λ (n : Name). Unit {0})
any_name (Ok n) = tt
any_name (Err f) = tt

abbrev pub Meant : Type 0
Meant = Place × (Kind × units.Unit)

abbrev pub Fits : Meant → Type 0
Fits x = is_fitting x.0 x.1.0 ≡ true

range_fitting : (read : Read Meant) → IfOk (fitting read) Fits
range_fitting (Err f) = tt
range_fitting (Ok (place, (kind, unit))) = go (is_fitting place kind) refl
  where
    go : (b : Bool) → is_fitting place kind ≡ b → IfOk {E = RuleFault} (if b then Ok (place, (kind, unit)) else Err Range) Fits
    go true is = is
    go false is = tt

abbrev IsToldInRange : Told → Type 0
IsToldInRange x = AreInRange x.0.0.1 always x.0.1 Sound × Fits x.1

range_told : (rest : List Text) → IfOk (told_in rest) IsToldInRange
unfolding told_in
range_told rest =
    let chosen = drop 1 rest in
    let selected = behind_channel chosen in
    let placed = behind_selector selected in
    let meant = fitting (both (place_in placed) (kind_in (behind_place placed))) in
    if_more (λ (x : Told). ((Unit {0} × IsChoice 1 65535 x.0.0.1) × IsSelector x.0.1) × Fits x.1) IsToldInRange (both (both (both (name_in rest) (channel_in chosen)) (selector_in selected)) meant)
    (λ x is. (((is.0.0.1, ((tt, tt), tt)), (is.0.1, tt)), is.1))
    (if_both (λ (x : (Name × Option ℕ) × Selector). (Unit {0} × IsChoice 1 65535 x.0.1) × IsSelector x.1) Fits (both (both (name_in rest) (channel_in chosen)) (selector_in selected)) meant
    (if_both (λ (x : Name × Option ℕ). Unit {0} × IsChoice 1 65535 x.1) IsSelector (both (name_in rest) (channel_in chosen)) (selector_in selected)
    (if_both (λ (n : Name). Unit {0}) (IsChoice 1 65535) (name_in rest) (channel_in chosen) (any_name (name_in rest)) (range_channel chosen))
    (range_selector selected))
    (range_fitting (both (place_in placed) (kind_in (behind_place placed)))))

-- what is read of a text is in its ranges where the signal of its parts is made
pub made_in_range : (rest : List Text) (told : Told) → told_in rest ≡ Ok told → AreInRange told.0.0.1 always told.0.1 Sound × Fits told.1
made_in_range rest told is = subst (λ (r : Read Told). IfOk r IsToldInRange) is (range_told rest)
