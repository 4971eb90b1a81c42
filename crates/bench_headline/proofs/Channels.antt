-- The items of a run are of the jobs' channels.
use Rattle.std.proofs.Common.{◌≡◌, ◌≢◌, ℕ, Bool, true, false, true≢false, ◌||◌, cond, eqb, eq-eqb, List, [], ◌∷◌, refl, sym, ◌∙◌}
use Rattle.std.specs.List.{AllByRecursion}
use Rattle.ch11_recording.specs.declared.item.Item.{Item}
use Rattle.ch11_recording.specs.Items.{channel_of, part_of}
use Rattle.replay.specs.Accord.{is_one}

neither : (a b : Bool) → (a || b) ≡ false → (a ≡ false) × (b ≡ false)
neither true b e = absurd (true≢false e)
neither false b e = (refl, e)

-- a number that is none of these differs from each
none_of : (channels : List ℕ) (channel : ℕ) → is_one channels channel ≡ false → AllByRecursion (λ c. c ≢ channel) channels
none_of [] channel e = tt
none_of (c ∷ channels) channel e =
    let both = neither (eqb c channel) (is_one channels channel) e in
    (λ same. true≢false (sym (eq-eqb c channel same) ∙ both.0), none_of channels channel both.1)

-- no item is of a channel that is none of these
abbrev pub HasNoOther : List ℕ → List Item → Type 0
HasNoOther channels items = (channel : ℕ) → AllByRecursion (λ c. c ≢ channel) channels → part_of channel items ≡ []

first_mine : (x : Item) (items : List Item) → part_of (channel_of x) (x ∷ items) ≡ [] → ⊥
first_mine x items none = absurd (cons_none (sym (first_is (eqb (channel_of x) (channel_of x)) (eq-eqb (channel_of x) (channel_of x) refl)) ∙ none))
  where
    cons_none : x ∷ part_of (channel_of x) items ≡ [] → ⊥
    cons_none e = cc

    first_is : (b : Bool) → b ≡ true → cond b (x ∷ part_of (channel_of x) items) (part_of (channel_of x) items) ≡ x ∷ part_of (channel_of x) items
    first_is true e = refl
    first_is false e = absurd (true≢false (sym e))

rest_none : (b : Bool) (x : Item) (items : List Item) → cond b (x ∷ items) items ≡ [] → items ≡ []
rest_none true x items none = absurd cc
rest_none false x items none = none

pub of_these : (channels : List ℕ) (items : List Item) → HasNoOther channels items → AllByRecursion (λ x. is_one channels (channel_of x) ≡ true) items
of_these channels [] none = tt
of_these channels (x ∷ items) none = (
  go (is_one channels (channel_of x)) refl,
  of_these channels items (λ channel other. rest_none (eqb (channel_of x) channel) x (part_of channel items) (none channel other)),
)
  where
    go : (b : Bool) → is_one channels (channel_of x) ≡ b → is_one channels (channel_of x) ≡ true
    go true e = e
    go false e = absurd (first_mine x items (none (channel_of x) (none_of channels (channel_of x) e)))
