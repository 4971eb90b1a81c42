-- The rule of the queue, which every step keeps: for each tag, what was sent is what was received and then what the
-- queue holds.
use Rattle.std.specs.Prelude.{◌≡◌, ◌≤◌, ℕ, ◌+◌, true, false, List, [], ◌∷◌, ◌++◌, length, sum, ◌⊎◌}
use mathlib.Core.Option.{some}
use lib.ListN.{get_elem?}
use Rattle.mil_trunk.specs.Tags.{has, bound_of, bounds_outside}
use Rattle.mil_trunk.specs.Views.{unsplit, popped, with_tag}
use Rattle.mil_trunk.specs.declared.rule.View.{View}

module _ {T : Type 0} (tag_of : T → ℕ) where
  -- What the ticket or taker of a number knows is right. `holder` is the one that holds a tag, so that no tag has two.
  pub record IsRight (bounds : List ℕ) (holder : ℕ → ℕ) (reader : ℕ) (sent : ℕ → List T) (received : List T)
      (number : ℕ) (v : View T) : Type 0 where
    pub split : v.unsplit ≡ false
    -- what is not spent carries the bounds of the trunk
    pub bounds_are : v.live ≡ true → v.bounds ≡ bounds
    pub held : (t : ℕ) → has v.tags t ≡ true → (number ≡ holder t) × (with_tag tag_of t v.sent ≡ sent t)
    pub others : (t : ℕ) → has v.tags t ≡ false → with_tag tag_of t v.sent ≡ []
    pub taker : v.takes ≡ true → (number ≡ reader) × (v.received ≡ received)

  -- the queue holds `items`, and the tickets and the taker, by their numbers, know what `views` has
  pub record Flows (items : List T) (views : List (View T)) : Type 0 where
    pub bounds : List ℕ
    pub holder : ℕ → ℕ
    pub reader : ℕ
    pub sent : ℕ → List T
    pub received : List T
    pub flow : (t : ℕ) → sent t ≡ with_tag tag_of t received ++ with_tag tag_of t items
    pub within : (t : ℕ) → length (sent t) ≤ bound_of bounds t
    pub each : (number : ℕ) (v : View T) → get_elem? views number ≡ some v
        → IsRight bounds holder reader sent received number v

  -- before the split into a ticket and the taker the queue is empty
  abbrev pub Keeps : List T → List (View T) → Type 0
  Keeps items views = ((items ≡ []) × (views ≡ unsplit ∷ [])) ⊎ Flows items views

  -- what the queue tells a ticket that has taken in the taker: of each of its tags, what was sent is what was received
  -- and then what is queued; and nothing was received of a tag of which nothing may be sent
  pub record Agrees (v : View T) (items : List T) : Type 0 where
    pub held : (t : ℕ) → has v.tags t ≡ true
        → with_tag tag_of t v.sent ≡ with_tag tag_of t v.received ++ with_tag tag_of t items
    pub barred : (t : ℕ) → bound_of v.bounds t ≡ 0 → with_tag tag_of t v.received ≡ []

-- what the queue tells any ticket: it holds no more items than the ticket's lists and the bounds of the other tags
-- together
abbrev pub HoldsAtMost : {T : Type 0} → View T → List T → Type 0
HoldsAtMost v items = length items ≤ length v.sent + bounds_outside v.tags v.bounds

-- what a pop makes of the taker: it has received one item more, and no more than all bounds together
abbrev pub Receives : {T : Type 0} → View T → T → View T → Type 0
Receives v x w = (w ≡ popped v x) × (length w.received ≤ sum w.bounds)
