-- What a ticket and the taker know, and what each step makes of it.
use Rattle.std.specs.Prelude.{ℕ, ◌==◌, true, false, not, List, [], ◌∷◌, ◌++◌, filter}
use Rattle.mil_trunk.specs.Tags.{has, all_tags, union, minus}
use Rattle.mil_trunk.specs.declared.rule.View.{View}

module _ {T : Type 0} where
  -- a queue that was not yet split into a ticket and a taker
  abbrev pub unsplit : View T
  unsplit = record { unsplit = true; live = false; tags = 0; bounds = []; sent = []; takes = false; received = [] }

  -- a ticket or taker that was taken in by another
  abbrev pub spent : View T
  spent = record { unsplit = false; live = false; tags = 0; bounds = []; sent = []; takes = false; received = [] }

  -- a ticket: its tags, and what was sent with it
  abbrev pub ticket : List ℕ → ℕ → List T → View T
  ticket bounds tags sent = record
      { unsplit = false; live = true; tags = tags; bounds = bounds; sent = sent; takes = false; received = [] }

  -- the taker: what was received
  abbrev pub taker : List ℕ → List T → View T
  taker bounds received = record {
    unsplit = false;
    live = true;
    tags = 0;
    bounds = bounds;
    sent = [];
    takes = true;
    received = received;
  }

  -- a ticket that has taken in the taker
  abbrev pub both_ends : List ℕ → ℕ → List T → List T → View T
  both_ends bounds tags sent received = record
      { unsplit = false; live = true; tags = tags; bounds = bounds; sent = sent; takes = true; received = received }

  -- the ticket with all tags, and the taker, before anything was sent
  abbrev pub first_ticket : List ℕ → View T
  first_ticket bounds = ticket bounds all_tags []

  abbrev pub first_taker : List ℕ → View T
  first_taker bounds = taker bounds []

  -- after a push, and after a pop
  abbrev pub pushed : View T → T → View T
  pushed v x = record v { sent = v.sent ++ x ∷ [] }

  abbrev pub popped : View T → T → View T
  popped v x = record v { received = v.received ++ x ∷ [] }

  -- two tickets as one
  abbrev pub joined : View T → View T → View T
  joined v w = ticket v.bounds (union v.tags w.tags) (v.sent ++ w.sent)

module _ {T : Type 0} (tag_of : T → ℕ) where
  -- the items of one tag, in their order
  abbrev pub with_tag : ℕ → List T → List T
  with_tag t items = filter (λ item. tag_of item == t) items

  -- the items whose tags are in a set, and those whose tags are not
  abbrev pub inside : ℕ → List T → List T
  inside tags items = filter (λ item. has tags (tag_of item)) items

  abbrev pub outside : ℕ → List T → List T
  outside tags items = filter (λ item. not (has tags (tag_of item))) items

  -- what is left of a ticket that gives some tags away, and the ticket that gets them
  abbrev pub remaining : ℕ → View T → View T
  remaining tags v = ticket v.bounds (minus v.tags tags) (outside tags v.sent)

  abbrev pub parted : ℕ → View T → View T
  parted tags v = ticket v.bounds tags (inside tags v.sent)
