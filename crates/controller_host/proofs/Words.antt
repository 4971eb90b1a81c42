-- Sources of new words, word after word.
use Rattle.std.proofs.Common.{◌≡◌, ℕ, ◌+◌, ◌-◌, ◌<◌, ◌≤◌, List, [], length, get_or, take, refl, ap, ◌∙◌, arith}
use Rattle.std.specs.Prelude.{Bool, true, false, ◌&&◌, ◌==◌, nat_le, Option, Some, None, slice_get}
use Rattle.std.specs.Option.{option_or}
use Rattle.std.proofs.lemmas.Bool.{eqb-true, eqb-false, ne_eqb, leb-true, leb-false}
use Rattle.std.proofs.lemmas.List.{get_or-take, length-take}
use Rattle.std.proofs.lemmas.Option.{slice_get-get_or, slice_get_past}
use Rattle.controller_host.specs.declared.destinations.Destination.{Destination}
use Rattle.controller_host.specs.declared.controls.Control.TheVariants as control
use Rattle.controller_host.specs.declared.sources.Row.{Row}
use Rattle.controller_host.specs.declared.sources.Source.{Source}
use Rattle.controller_host.specs.declared.sources.Source.TheVariants.{Word, Ramp}
use Rattle.controller_host.specs.Destinations.{is_same}
use Rattle.controller_host.specs.Values.{RampValue}
use Rattle.controller_host.specs.Sources.{with_source, with_sources, word_source}

-- sources, where new words are put there
abbrev pub with_words : Destination → List ℕ → Option Source → Destination → ℕ → Option Source
with_words e words was d place = with_sources (control.Data (record { destination = e; words = words })) was d place

pub no_word : (e : Destination) (was : Option Source) (d : Destination) (place : ℕ) → with_words e [] was d place ≡ was
no_word e was d place = go (is_same d e && nat_le 1 place) refl
  where
    go : (b : Bool) → (is_same d e && nat_le 1 place) ≡ b → with_words e [] was d place ≡ was
    go true h = rw h refl
    go false h = rw h refl

-- a list's first elements
got : (ws : List ℕ) (i k : ℕ) → k < i → i ≤ length ws → slice_get (take i ws) k ≡ Some (get_or ws k 0)
got ws i k less high =
    let many : k < length (take i ws) = omega (arith, length-take i ws) in
    slice_get-get_or (take i ws) k 0 many ∙ ap (λ w. Some w) (get_or-take i ws k 0 less)

none_got : (ws : List ℕ) (i k : ℕ) → i ≤ k → slice_get (take i ws) k ≡ None
none_got ws i k past = slice_get_past (take i ws) k (omega (arith, length-take i ws))

abbrev pub row_of_word : Destination → ℕ → ℕ → Row
row_of_word e place word = record { destination = e; place = place; source = Word word }

-- one word more
module _ (ws : List ℕ) (i : ℕ) (less : i < length ws) (d e : Destination) (was : Option Source) where
  abbrev row : Row
  row = row_of_word e (i + 1) (get_or ws i 0)

  at_place : (place : ℕ) → is_same d e ≡ true → 1 ≤ place
      → with_source row (option_or (word_source (slice_get (take i ws) (place - 1))) was) d place
      ≡ option_or (word_source (slice_get (take (i + 1) ws) (place - 1))) was
  at_place place same low = go (place == i + 1) refl (nat_le (place - 1) i) refl
    where
      go : (b : Bool) → (place == i + 1) ≡ b → (c : Bool) → nat_le (place - 1) i ≡ c
          → with_source row (option_or (word_source (slice_get (take i ws) (place - 1))) was) d place
          ≡ option_or (word_source (slice_get (take (i + 1) ws) (place - 1))) was
      go true h c f =
          let at = eqb-true place (i + 1) h in
          let k : place - 1 ≡ i = omega arith in
          let word = got ws (i + 1) i (omega arith) (omega arith) in
          rw (same, h, k, word) refl
      go false h true f =
          let ne = eqb-false place (i + 1) h in
          let high = leb-true (place - 1) i f in
          let one = got ws i (place - 1) (omega arith) (omega arith) in
          let two = got ws (i + 1) (place - 1) (omega arith) (omega arith) in
          rw (same, h, one, two) refl
      go false h false f =
          let high = leb-false (place - 1) i f in
          let one = none_got ws i (place - 1) (omega arith) in
          let two = none_got ws (i + 1) (place - 1) (omega arith) in
          rw (same, h, one, two) refl

  pub word_more : (place : ℕ) → with_source row (with_words e (take i ws) was d place) d place ≡ with_words e (take (i + 1) ws) was d place
  word_more place = go (is_same d e) refl (nat_le 1 place) refl
    where
      go : (b : Bool) → is_same d e ≡ b → (c : Bool) → nat_le 1 place ≡ c
          → with_source row (with_words e (take i ws) was d place) d place ≡ with_words e (take (i + 1) ws) was d place
      go false same c low = rw same refl
      go true same false low =
          let zeroth : place < 1 = leb-false 1 place low in
          let at : (place == i + 1) ≡ false = ne_eqb place (i + 1) (λ h. omega arith) in
          rw (same, low, at) refl
      go true same true low = rw (same, low) (rw same at (at_place place same (leb-true 1 place low)))

-- a ramp
pub ramp_put : (r : RampValue) (was : Option Source) (d : Destination) (place : ℕ)
    → with_source (record { destination = r.destination; place = r.place; source = Ramp r.start r.add }) was d place ≡ with_sources (control.Ramp r) was d place
ramp_put r was d place = go (is_same d r.destination && place == r.place) refl
  where
    go : (b : Bool) → (is_same d r.destination && place == r.place) ≡ b
        → with_source (record { destination = r.destination; place = r.place; source = Ramp r.start r.add }) was d place ≡ with_sources (control.Ramp r) was d place
    go true h = rw h refl
    go false h = rw h refl
